-- A hash and its checksum, written over 34 zeros.
use Rattle.std.proofs.Common.{◌≡◌, ℕ, List, [], ◌∷◌, ◌++◌, length, take, drop, sym, ap, ◌∙◌, arith, length-append, append-nil}
use Rattle.std.proofs.Math.Seq.{take-append_seam}
use Rattle.std.proofs.lemmas.List.{drop_all, drop-drop}
use borrow.Rule.Slice.PartMut.{put_mid}

pub both_written : (hash back : List ℕ) → length hash ≡ 32 → put_mid 32 2 (hash ++ 0 ∷ 0 ∷ []) back ≡ hash ++ back
both_written hash back h =
    let front : take 32 (hash ++ 0 ∷ 0 ∷ []) ≡ hash = ap (λ n. take n (hash ++ 0 ∷ 0 ∷ [])) (sym h) ∙ take-append_seam hash (0 ∷ 0 ∷ []) in
    let none : drop 2 (drop 32 (hash ++ 0 ∷ 0 ∷ [])) ≡ [] = drop-drop 2 32 (hash ++ 0 ∷ 0 ∷ []) ∙ drop_all 34 (hash ++ 0 ∷ 0 ∷ []) (omega (arith, length-append hash (0 ∷ 0 ∷ []))) in
    (λ i. front i ++ (back ++ none i)) ∙ ap (λ l. hash ++ l) (append-nil back)
