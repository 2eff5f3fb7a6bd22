-- Decimal digits and the numbers that they make.
use Rattle.std.proofs.Common.{◌≡◌, ℕ, zero, suc, ◌+◌, ◌-◌, ◌*◌, ◌^◌, ◌<◌, ◌≤◌, Bool, true, false, List, [], ◌∷◌, ◌++◌, ◌&&◌, length, take, drop, get_or, refl, sym, ap, subst, ◌∙◌, arith}
use Rattle.std.specs.Prelude.{nat_eq, nat_le, not, replicate}
use Rattle.std.specs.Cmp.Lexicographic.{pointwise}
use Rattle.std.specs.List.{list_all, ends_with}
use Rattle.std.specs.Char.{is_ascii_digit}
use Rattle.std.specs.Cmp.{first_so, second_so}
use Rattle.std.proofs.Math.Nat.{pow-suc, pow-le-pow_right}
use Rattle.std.proofs.lemmas.Bool.Decides.{nat_tests}
use Rattle.std.proofs.lemmas.List.{take-append-drop, take-map, drop-map, map-append, drop-replicate}
use Rattle.std.proofs.lemmas.List.Folds.{list_all-append}
use Rattle.civil_moment.specs.Moment.{number, number_on, is_fraction, nanos_of}
use Rattle.civil_moment.specs.Fault.{values}

-- ---- bytes of digits

pub byte_range : (b : ℕ) → is_ascii_digit b ≡ true → (48 ≤ b) × (b ≤ 57)
byte_range b h = grind (arith, nat_tests)

pub digit_at : (text : List ℕ) (i : ℕ) → list_all is_ascii_digit text ≡ true → i < length text → (48 ≤ get_or text i 0) × (get_or text i 0 ≤ 57)
digit_at [] i h low = absurd (omega arith)
digit_at (b ∷ text) zero h low = byte_range b (first_so (is_ascii_digit b) (list_all is_ascii_digit text) h)
digit_at (b ∷ text) (suc i) h low = digit_at text i (second_so (is_ascii_digit b) (list_all is_ascii_digit text) h) (omega arith)

pub values-length : (text : List ℕ) → length (values text) ≡ length text
values-length [] = refl
values-length (b ∷ text) = ap suc (values-length text)

-- ---- parts of a list of digits

pub all_taken : (k : ℕ) (text : List ℕ) → list_all is_ascii_digit text ≡ true → list_all is_ascii_digit (take k text) ≡ true
all_taken k text h =
    first_so _ (list_all is_ascii_digit (drop k text))
    (sym (list_all-append is_ascii_digit (take k text) (drop k text)) ∙ ap (list_all is_ascii_digit) (take-append-drop k text) ∙ h)

pub all_dropped : (k : ℕ) (text : List ℕ) → list_all is_ascii_digit text ≡ true → list_all is_ascii_digit (drop k text) ≡ true
all_dropped k text h =
    second_so (list_all is_ascii_digit (take k text)) _
    (sym (list_all-append is_ascii_digit (take k text) (drop k text)) ∙ ap (list_all is_ascii_digit) (take-append-drop k text) ∙ h)

pub all_joined : (xs ys : List ℕ) → list_all is_ascii_digit xs ≡ true → list_all is_ascii_digit ys ≡ true → list_all is_ascii_digit (xs ++ ys) ≡ true
all_joined xs ys h g = list_all-append is_ascii_digit xs ys ∙ (λ i. h i && g i)

pub field_digits : (fields : List ℕ) (place count : ℕ) → list_all is_ascii_digit fields ≡ true → list_all is_ascii_digit (take (place + count - place) (drop place fields)) ≡ true
field_digits fields place count h = all_taken (place + count - place) (drop place fields) (all_dropped place fields h)

pub field_value : (fields : List ℕ) (place count : ℕ) → number (values (take (place + count - place) (drop place fields))) ≡ number (take count (drop place (values fields)))
field_value fields place count =
    let e : place + count - place ≡ count = omega arith in
    ap number ((λ i. values (take (e i) (drop place fields)))
    ∙ sym (take-map (λ b. b - 48) count (drop place fields)) ∙ ap (take count) (sym (drop-map (λ b. b - 48) place fields)))

-- ---- the last digit

last_zero : (xs : List ℕ) → list_all is_ascii_digit xs ≡ true → pointwise nat_eq (0 ∷ []) (values xs) ≡ pointwise nat_eq (48 ∷ []) xs
last_zero [] h = refl
last_zero (x ∷ []) h =
    let r = byte_range x (first_so (is_ascii_digit x) true h) in
    let e : nat_eq 0 (x - 48) ≡ nat_eq 48 x = grind (arith, nat_tests) in
    ap (λ b. b && true) e
last_zero (x ∷ y ∷ xs) h = both_false (nat_eq 0 (x - 48)) (nat_eq 48 x)
  where
    both_false : (a b : Bool) → (a && false) ≡ (b && false)
    both_false true true = refl
    both_false true false = refl
    both_false false true = refl
    both_false false false = refl

pub ends_in_zero : (digits : List ℕ) → list_all is_ascii_digit digits ≡ true → ends_with nat_eq digits (48 ∷ []) ≡ ends_with nat_eq (values digits) (0 ∷ [])
ends_in_zero digits h =
    let k = length digits - 1 in
    let same : length (values digits) - 1 ≡ k = ap (λ n. n - 1) (values-length digits) in
    sym ((λ i. pointwise nat_eq (0 ∷ []) (drop (same i) (values digits)))
    ∙ ap (pointwise nat_eq (0 ∷ [])) (drop-map (λ b. b - 48) k digits)
    ∙ last_zero (drop k digits) (all_dropped k digits h))

pub fraction_tested : (digits : List ℕ) (b : Bool) → list_all is_ascii_digit digits ≡ true → length digits ≤ 9 → b ≡ ends_with nat_eq digits (48 ∷ []) → not b ≡ is_fraction (values digits)
fraction_tested digits b h few e =
    let long = values-length digits in
    let most : nat_le (length (values digits)) 9 ≡ true = grind (arith, nat_tests) in
    ap not (e ∙ ends_in_zero digits h) ∙ ap (λ a. a && not (ends_with nat_eq (values digits) (0 ∷ []))) (sym most)

-- ---- digits filled up to nine

pub filled_digits : (digits new : List ℕ) → new ≡ digits → list_all is_ascii_digit digits ≡ true → list_all is_ascii_digit (new ++ drop (length digits) (replicate 9 48)) ≡ true
filled_digits digits new e h =
    all_joined new (drop (length digits) (replicate 9 48)) (ap (list_all is_ascii_digit) e ∙ h)
    (all_dropped (length digits) (replicate 9 48) refl)

values_zeros : (n : ℕ) → values (replicate n 48) ≡ replicate n 0
values_zeros zero = refl
values_zeros (suc n) = ap (λ l. 0 ∷ l) (values_zeros n)

pub filled_value : (digits new : List ℕ) → new ≡ digits → number (values (new ++ drop (length digits) (replicate 9 48))) ≡ nanos_of (values digits)
filled_value digits new e =
    let long = values-length digits in
    ap number (map-append (λ b. b - 48) new (drop (length digits) (replicate 9 48))
    ∙ (λ i. values (e i) ++ values (drop-replicate (length digits) 9 48 i))
    ∙ ap (λ l. values digits ++ l) (values_zeros (9 - length digits))
    ∙ (λ i. values digits ++ replicate (9 - sym long i) 0))

-- ---- one digit more

number_next : (n : ℕ) (text : List ℕ) (i : ℕ) → i < length text → number_on n (values (take (suc i) text)) ≡ number_on n (values (take i text)) * 10 + (get_or text i 0 - 48)
number_next n [] i low = absurd (omega arith)
number_next n (b ∷ text) zero low = refl
number_next n (b ∷ text) (suc i) low = number_next (n * 10 + (b - 48)) text i (omega arith)

pub number_more : (text : List ℕ) (i : ℕ) → i < length text → number (values (take (i + 1) text)) ≡ number (values (take i text)) * 10 + (get_or text i 0 - 48)
number_more text i low =
    let e : suc i ≡ i + 1 = omega arith in
    subst (λ k. number (values (take k text)) ≡ number (values (take i text)) * 10 + (get_or text i 0 - 48)) e (number_next 0 text i low)

-- a number of i digits is below 10 ^ i
pub below_more : (n i d : ℕ) → n < 10 ^ i → d < 10 → n * 10 + d < 10 ^ (i + 1)
below_more n i d low small =
    let e : suc i ≡ i + 1 = omega arith in
    subst (λ k. n * 10 + d < 10 ^ k) e (omega (arith, pow-suc 10 i))

pub fits : (n i : ℕ) → n < 10 ^ i → i < 9 → n < 100000000
fits n i low few = let h : 10 ^ i ≤ 10 ^ 8 = pow-le-pow_right {n = 10} (omega arith) {i = i} {j = 8} (omega arith) in omega arith
