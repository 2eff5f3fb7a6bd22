-- Texts of the items of a list, one behind the other: one more of them, and that each is no longer than all.
use Rattle.std.proofs.Common.{◌≡◌, ℕ, zero, suc, ◌+◌, ◌<◌, ◌≤◌, List, [], ◌∷◌, ◌++◌, length, take, get_or, refl, sym, ap, subst, ◌∙◌, arith, append_assoc, append-nil, Result, Ok, Err}
use Rattle.std.specs.Prelude.{map, IfOk}
use Rattle.std.specs.List.{flat_map}
use Rattle.std.proofs.lemmas.List.{length-append}
use Rattle.der_values.proofs.Lengths.{front_shorter, back_shorter}

pub if_ok : {T F : Type 0} {P Q : T → Type 0} (r : Result T F) → ((x : T) → P x → Q x) → IfOk r P → IfOk r Q
if_ok (Ok x) f p = f x p
if_ok (Err e) f p = tt

module _ {X : Type 0} (text : X → List ℕ) where
  next : (xs : List X) (i : ℕ) (x : X) → i < length xs → x ≡ get_or xs i x → flat_map text (take (suc i) xs) ≡ flat_map text (take i xs) ++ text x
  next [] i x h e = absurd (omega arith)
  next (y ∷ ys) zero x h e = append-nil (text y) ∙ ap text (sym e)
  next (y ∷ ys) (suc i) x h e = ap (λ l. text y ++ l) (next ys i x (omega arith) e) ∙ sym (append_assoc (text y) (flat_map text (take i ys)) (text x))

  pub one_more : (xs : List X) (i : ℕ) (x : X) → i < length xs → x ≡ get_or xs i x → flat_map text (take i xs) ++ text x ≡ flat_map text (take (i + 1) xs)
  one_more xs i x h e =
      let s : suc i ≡ i + 1 = omega arith in
      sym (subst (λ k. flat_map text (take k xs) ≡ flat_map text (take i xs) ++ text x) s (next xs i x h e))

  pub one_shorter : (xs : List X) (i : ℕ) (x : X) (most : ℕ) → i < length xs → x ≡ get_or xs i x → length (flat_map text xs) < most → length (text x) < most
  one_shorter [] i x most h e short = absurd (omega arith)
  one_shorter (y ∷ ys) zero x most h e short = rw e (front_shorter (text y) (flat_map text ys) most short)
  one_shorter (y ∷ ys) (suc i) x most h e short = one_shorter ys i x most (omega arith) e (back_shorter (text y) (flat_map text ys) most short)

-- the same of what is seen of the items
module _ {X Y : Type 0} (view : X → Y) (text : Y → List ℕ) where
  pub viewed : (xs : List X) → flat_map text (map view xs) ≡ flat_map (λ x. text (view x)) xs
  viewed [] = refl
  viewed (x ∷ xs) = ap (λ l. text (view x) ++ l) (viewed xs)

  pub one_more_seen : (xs : List X) (i : ℕ) (x : X) → i < length xs → x ≡ get_or xs i x → flat_map text (map view (take i xs)) ++ text (view x) ≡ flat_map text (map view (take (i + 1) xs))
  one_more_seen xs i x h e = ap (λ l. l ++ text (view x)) (viewed (take i xs)) ∙ one_more (λ z. text (view z)) xs i x h e ∙ sym (viewed (take (i + 1) xs))

  pub one_seen_shorter : (xs : List X) (i : ℕ) (x : X) (most : ℕ) → i < length xs → x ≡ get_or xs i x → length (flat_map text (map view xs)) < most → length (text (view x)) < most
  one_seen_shorter xs i x most h e short = one_shorter (λ z. text (view z)) xs i x most h e (subst (λ l. length l < most) (viewed xs) short)

pub five_shorter : (a b c d e : List ℕ) (most : ℕ) → length (a ++ b ++ c ++ d ++ e) < most → (length b < most) × (length e < most)
five_shorter a b c d e most short =
    let abcd = front_shorter (a ++ b ++ c ++ d) e most short in
    let abc = front_shorter (a ++ b ++ c) d most abcd in
    (back_shorter a b most (front_shorter (a ++ b) c most abc), back_shorter (a ++ b ++ c ++ d) e most short)

-- an item by its place in the list
pub place_shorter : {X Y : Type 0} (view : X → Y) (text : Y → List ℕ) (xs : List X) (i : ℕ) (d : X) (most : ℕ) → i < length xs → length (flat_map text (map view xs)) < most → length (text (view (get_or xs i d))) < most
place_shorter view text [] i d most h short = absurd (omega arith)
place_shorter view text (y ∷ ys) zero d most h short = front_shorter (text (view y)) (flat_map text (map view ys)) most short
place_shorter view text (y ∷ ys) (suc i) d most h short = place_shorter view text ys i d most (omega arith) (back_shorter (text (view y)) (flat_map text (map view ys)) most short)

-- the first of the items
pub front_no_longer : {X : Type 0} (text : X → List ℕ) (xs : List X) (n : ℕ) → length (flat_map text (take n xs)) ≤ length (flat_map text xs)
front_no_longer text [] zero = omega arith
front_no_longer text [] (suc n) = omega arith
front_no_longer text (y ∷ ys) zero = omega arith
front_no_longer text (y ∷ ys) (suc n) = omega (arith, front_no_longer text ys n, length-append (text y) (flat_map text (take n ys)), length-append (text y) (flat_map text ys))
