-- Octets and the number that they spell lead to each other.
use Rattle.std.proofs.Common.{◌≡◌, ℕ, zero, suc, ◌+◌, ◌-◌, ◌%◌, ◌^◌, ◌<◌, ◌≤◌, List, [], ◌∷◌, length, get_or, take, drop, refl, ap, arith, inl, inr}
use Rattle.std.proofs.lemmas.Bool.{cases_lt}
use Rattle.std.proofs.lemmas.List.{length-take, get_or-drop, get_or-take, get_or_past}
use Rattle.std.specs.Int.{w32, to_be_bytes}
use Rattle.der_values.specs.Value.{octets, number}

abbrev pub IsBytes : List ℕ → Type 0
IsBytes bytes = (i : ℕ) → get_or bytes i 0 < 256

pub IsBytes-drop : (n : ℕ) (bytes : List ℕ) → IsBytes bytes → IsBytes (drop n bytes)
IsBytes-drop n bytes h i = rw get_or-drop (h (n + i))

pub IsBytes-take : (n : ℕ) (bytes : List ℕ) → IsBytes bytes → IsBytes (take n bytes)
IsBytes-take n bytes h i =
    elim (cases_lt i n) [
      | inl lt ↦ rw (get_or-take n bytes i 0 lt) (h i)
      | inr le ↦ rw (get_or_past (take n bytes) i 0 (omega (arith, length-take n bytes))) (omega arith)
    ]

pub IsBytes-rest : (b : ℕ) (bytes : List ℕ) → IsBytes (b ∷ bytes) → IsBytes bytes
IsBytes-rest b bytes h i = h (suc i)

cons2 : {a b : ℕ} {xs ys : List ℕ} → a ≡ b → xs ≡ ys → a ∷ xs ≡ b ∷ ys
cons2 p q = cc

pub length-octets : (k n : ℕ) → length (octets k n) ≡ k
length-octets zero n = refl
length-octets (suc k) n = ap suc (length-octets k n)

pub octets-number : (bs : List ℕ) → length bs ≤ 4 → IsBytes bs → octets (length bs) (number bs) ≡ bs
octets-number [] le fits = refl
octets-number (a ∷ []) le fits =
    let fa = fits 0 in
    let e : number (a ∷ []) % 256 ≡ a = omega arith in
    cons2 (omega arith) refl
octets-number (a ∷ b ∷ []) le fits =
    let fa = fits 0 in
    let fb = fits 1 in
    cons2 (omega arith) (cons2 (omega arith) refl)
octets-number (a ∷ b ∷ c ∷ []) le fits =
    let fa = fits 0 in
    let fb = fits 1 in
    let fc = fits 2 in
    cons2 (omega arith) (cons2 (omega arith) (cons2 (omega arith) refl))
octets-number (a ∷ b ∷ c ∷ d ∷ []) le fits =
    let fa = fits 0 in
    let fb = fits 1 in
    let fc = fits 2 in
    let fd = fits 3 in
    cons2 (omega arith) (cons2 (omega arith) (cons2 (omega arith) (cons2 (omega arith) refl)))
octets-number (a ∷ b ∷ c ∷ d ∷ e ∷ bs) le fits = absurd (omega arith)

pub number-octets : (k n : ℕ) → k ≤ 4 → n < 256 ^ k → number (octets k n) ≡ n
number-octets zero n le lt = omega arith
number-octets (suc zero) n le lt = omega arith
number-octets (suc (suc zero)) n le lt = omega arith
number-octets (suc (suc (suc zero))) n le lt = omega arith
number-octets (suc (suc (suc (suc zero)))) n le lt = omega arith
number-octets (suc (suc (suc (suc (suc k))))) n le lt = absurd (omega arith)

pub number_below : (bs : List ℕ) → length bs ≤ 4 → IsBytes bs → number bs < 2 ^ 32
number_below [] le fits = omega arith
number_below (a ∷ []) le fits = omega (arith, fits 0)
number_below (a ∷ b ∷ []) le fits = omega (arith, fits 0, fits 1)
number_below (a ∷ b ∷ c ∷ []) le fits = omega (arith, fits 0, fits 1, fits 2)
number_below (a ∷ b ∷ c ∷ d ∷ []) le fits = omega (arith, fits 0, fits 1, fits 2, fits 3)
number_below (a ∷ b ∷ c ∷ d ∷ e ∷ bs) le fits = absurd (omega arith)

-- the low octets of a number of four octets
pub be_octets : (k n : ℕ) → k ≤ 4 → take (4 - (4 - k)) (drop (4 - k) (to_be_bytes w32 n)) ≡ octets k n
be_octets zero n le = refl
be_octets (suc zero) n le = cons2 (omega arith) refl
be_octets (suc (suc zero)) n le = cons2 (omega arith) (cons2 (omega arith) refl)
be_octets (suc (suc (suc zero))) n le = cons2 (omega arith) (cons2 (omega arith) (cons2 (omega arith) refl))
be_octets (suc (suc (suc (suc zero)))) n le = cons2 (omega arith) (cons2 (omega arith) (cons2 (omega arith) (cons2 (omega arith) refl)))
be_octets (suc (suc (suc (suc (suc k))))) n le = absurd (omega arith)
