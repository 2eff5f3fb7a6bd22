-- Steps of a chain one after the other, and values of 32 bytes one behind the other.
use Rattle.std.proofs.Common.{◌≡◌, inl, inr, ℕ, zero, suc, ◌+◌, ◌*◌, ◌<◌, List, ◌∷◌, ◌++◌, length, take, drop, refl, sym, ap, ◌∙◌, arith, length-append, length-drop}
use Rattle.std.proofs.lemmas.List.{take-append-le, drop-append-le, take_all}
use Rattle.std.proofs.Math.Seq.{drop-append_seam}
use Rattle.std.proofs.lemmas.Bool.{cases_lt}
use Rattle.lms_verify.specs.Ots.{hash_of, after_steps, joined}

-- steps and then more steps are all of them
pub more_steps : (count more : ℕ) (identifier : List ℕ) (leaf i j : ℕ) (value : List ℕ) → after_steps (count + more) identifier leaf i j value ≡ after_steps more identifier leaf i (j + count) (after_steps count identifier leaf i j value)
unfolding after_steps
more_steps zero more identifier leaf i j value =
    let all : 0 + more ≡ more = omega arith in
    let at : j ≡ j + 0 = omega arith in
    (λ k. after_steps (all k) identifier leaf i (at k) value)
more_steps (suc count) more identifier leaf i j value =
    let all : suc count + more ≡ suc (count + more) = omega arith in
    let at : j + 1 + count ≡ j + suc count = omega arith in
    ap (λ n. after_steps n identifier leaf i j value) all
    ∙ more_steps count more identifier leaf i (j + 1) (hash_of identifier leaf i (j ∷ value))
    ∙ ap (λ n. after_steps more identifier leaf i n (after_steps count identifier leaf i (j + 1) (hash_of identifier leaf i (j ∷ value)))) at

pub length-joined : (f : ℕ → List ℕ) → ((i : ℕ) → length (f i) ≡ 32) → (count : ℕ) → length (joined f count) ≡ 32 * count
length-joined f size zero = refl
length-joined f size (suc count) =
    omega (arith, length-append (joined f count) (f count), size count, length-joined f size count)

earlier : (values value : List ℕ) (i count : ℕ) → length values ≡ 32 * count → i < count → take 32 (drop (32 * i) (values ++ value)) ≡ take 32 (drop (32 * i) values)
earlier values value i count size h =
    ap (take 32) (drop-append-le (32 * i) values value (omega arith))
    ∙ take-append-le 32 (drop (32 * i) values) value (omega (arith, length-drop (32 * i) values))

last : (values value : List ℕ) (i count : ℕ) → length values ≡ 32 * count → length value ≡ 32 → i ≡ count → take 32 (drop (32 * i) (values ++ value)) ≡ value
last values value i count size one e =
    let place : 32 * i ≡ length values = omega arith in
    ap (λ n. take 32 (drop n (values ++ value))) place
    ∙ ap (take 32) (drop-append_seam values value)
    ∙ take_all 32 value (omega arith)

-- value i of the joined ones
pub taken : (f : ℕ → List ℕ) → ((i : ℕ) → length (f i) ≡ 32) → (count i : ℕ) → i < count → take 32 (drop (32 * i) (joined f count)) ≡ f i
taken f size zero i h = absurd (omega arith)
taken f size (suc count) i h = elim (cases_lt i count) [
  | inl low ↦ earlier (joined f count) (f count) i count (length-joined f size count) low ∙ taken f size count i low
  | inr high ↦
      let e : i ≡ count = omega arith in
      last (joined f count) (f count) i count (length-joined f size count) (size count) e ∙ ap f (sym e)
]
