-- Counted bytes: what is read is what stands there, and what is spelled is read.
use Rattle.std.proofs.Common.{◌≡◌, ℕ, ◌+◌, ◌^◌, ◌<◌, ◌≤◌, ◌==◌, false, nat_lt, List, [], ◌∷◌, ◌++◌, length, take, drop, Ok, refl, sym, ap, subst, ◌∙◌, arith, append_assoc, length-append}
use Rattle.std.specs.Prelude.{decimal}
use Rattle.std.proofs.lemmas.Bool.{le-ltb, ltb-false, eqb-true}
use Rattle.std.proofs.lemmas.List.{take_at, drop_at, take-append-drop, length-take-le}
use Rattle.der_values.proofs.Values.{bind_ok, ok_is, guard_ok, guard_then}
use Rattle.session_text.specs.declared.shape.ShapeFault.{ShapeFault}
use Rattle.session_text.specs.Unread.{Unread}
use Rattle.session_text.specs.Words.{keyword_at, number_at}
use Rattle.session_text.specs.Counted.{mark_on, bytes_at, counted_at, counted_text}
use Rattle.session_text.proofs.Passing.{Passes}
use Rattle.session_text.proofs.WordLemmas.{IsPlain, keyword_again, keyword_takes}
use Rattle.session_text.proofs.NumberLemmas.{number_again, number_takes}

mark_again : (place : ℕ) (tail : List ℕ) → Passes tt tail (mark_on place (10 ∷ tail))
unfolding mark_on
mark_again place tail = record { place = place + 1; is = refl }

mark_takes : (place : ℕ) (bytes : List ℕ) (t : Unit {0}) (after : Unread) → mark_on place bytes ≡ Ok (t, after) → bytes ≡ 10 ∷ after.bytes
unfolding mark_on
mark_takes place [] t after e = absurd cc
mark_takes place (b ∷ bytes) t after e =
    let g = guard_then (b == 10) _ _ _ e in
    subst (λ (y : Unit {0} × Unread). b ∷ bytes ≡ 10 ∷ y.1.bytes) g.1 (ap (λ (n : ℕ). n ∷ bytes) (eqb-true b 10 g.0))

pub record BytesTaken (count : ℕ) (before : Unread) (bytes : List ℕ) (after : Unread) : Type 0 where
  pub is : before.bytes ≡ bytes ++ (10 ∷ after.bytes)
  pub counted : length bytes ≡ count

bytes_takes : (count : ℕ) (before : Unread) (bytes : List ℕ) (after : Unread) → bytes_at count before ≡ Ok (bytes, after) → BytesTaken count before bytes after
unfolding bytes_at
bytes_takes count before bytes after e =
    let g = guard_ok (nat_lt (length before.bytes) count) _ _ _ e in
    let enough = ltb-false (length before.bytes) count g.0 in
    let a = bind_ok (mark_on (before.place + count) (drop count before.bytes)) _ _ g.1 in
    let same = ok_is {A = List ℕ × Unread} {F = ShapeFault} _ _ a.2 in
    let read = sym (take-append-drop count before.bytes) ∙ ap (λ (l : List ℕ). take count before.bytes ++ l) (mark_takes (before.place + count) (drop count before.bytes) a.0.0 a.0.1 a.1) in
    subst (λ (y : List ℕ × Unread). BytesTaken count before y.0 y.1) same (record { is = read; counted = length-take-le count before.bytes enough })

bytes_again : (place : ℕ) (bytes tail : List ℕ) → Passes bytes tail (bytes_at (length bytes) (record { place = place; bytes = bytes ++ (10 ∷ tail) }))
unfolding bytes_at
bytes_again place bytes tail =
    let enough : nat_lt (length (bytes ++ (10 ∷ tail))) (length bytes) ≡ false = le-ltb _ _ (omega (arith, length-append bytes (10 ∷ tail))) in
    let mark = mark_again (place + length bytes) tail in
    record { place = mark.place; is = rw (enough, take_at bytes (10 ∷ tail) (length bytes) refl, drop_at bytes (10 ∷ tail) (length bytes) refl, mark.is) refl }

-- the text of counted bytes, and what stands behind it
pub regrouped : (name bytes tail : List ℕ) → counted_text name bytes ++ tail ≡ name ++ (32 ∷ (decimal (length bytes) ++ (10 ∷ (bytes ++ (10 ∷ tail)))))
regrouped name bytes tail =
    append_assoc name _ tail
    ∙ ap (λ (l : List ℕ). name ++ (32 ∷ l)) (append_assoc (decimal (length bytes)) _ tail
    ∙ ap (λ (l : List ℕ). decimal (length bytes) ++ (10 ∷ l)) (append_assoc bytes (10 ∷ []) tail))

pub record CountedTaken (name : List ℕ) (most : ℕ) (before : Unread) (bytes : List ℕ) (after : Unread) : Type 0 where
  pub is : before.bytes ≡ counted_text name bytes ++ after.bytes
  pub within : length bytes ≤ most

pub counted_takes : (name : List ℕ) (most : ℕ) (before : Unread) (bytes : List ℕ) (after : Unread) → most < 2 ^ 64 → counted_at name most before ≡ Ok (bytes, after) → CountedTaken name most before bytes after
unfolding counted_at
counted_takes name most before bytes after small e =
    let a = bind_ok (keyword_at name 32 before) _ _ e in
    let b = bind_ok (number_at most 10 a.0.1) _ _ a.2 in
    let n = number_takes most 10 a.0.1 b.0.0 b.0.1 small b.1 in
    let c = bytes_takes b.0.0 b.0.1 bytes after b.2 in
    let counted = c.counted in
    record {
      is = keyword_takes name 32 before a.0.0 a.0.1 a.1
          ∙ ap (λ (l : List ℕ). name ++ (32 ∷ l)) (n.is ∙ ap (λ (m : ℕ). decimal m ++ (10 ∷ b.0.1.bytes)) (sym counted) ∙ ap (λ (l : List ℕ). decimal (length bytes) ++ (10 ∷ l)) c.is)
          ∙ sym (regrouped name bytes after.bytes);
      within = rw counted n.within;
    }

pub counted_again : (place : ℕ) (name : List ℕ) (most : ℕ) (bytes tail : List ℕ) → IsPlain name → length bytes ≤ most → most < 2 ^ 64
    → Passes bytes tail (counted_at name most (record { place = place; bytes = counted_text name bytes ++ tail }))
unfolding counted_at
counted_again place name most bytes tail plain within small =
    let keyword = keyword_again place name 32 (decimal (length bytes) ++ (10 ∷ (bytes ++ (10 ∷ tail)))) plain refl in
    let number = number_again keyword.place most 10 (length bytes) (bytes ++ (10 ∷ tail)) within small refl in
    let rest = bytes_again number.place bytes tail in
    record { place = rest.place; is = rw (regrouped name bytes tail, keyword.is, number.is) rest.is }
