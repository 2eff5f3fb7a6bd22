-- What a read of bytes in memory gives.
use Rattle.std.proofs.Common.{◌≡◌, ℕ, ◌+◌, ◌-◌, ◌<◌, ◌≤◌, min, List, [], ◌++◌, length, take, drop, arith, sym, ap, ◌∙◌, take-append-drop, length-take, length-drop, length-append}
use Rattle.std.proofs.lemmas.List.{take_at, drop-drop, drop_all}

-- the bytes that a source gives are the front of those that are left, and it gives none only where none is left
pub source_read : (all left copy out : List ℕ) (place n : ℕ) → place ≤ length all → left ≡ drop place all → n ≡ min (length out) (length left) → copy ≡ take n left
    → (drop place all ≡ take n (copy ++ drop n out) ++ drop (place + n) all) × (n ≡ 0 → 0 < length (copy ++ drop n out) → drop (place + n) all ≡ [])
source_read all left copy out place n inside is count same =
    let size : length left ≡ length all - place = ap length is ∙ length-drop place all in
    let whole : length copy ≡ n = omega (arith, ap length same, length-take n left) in (
      sym (take-append-drop n (drop place all))
          ∙ ap (λ (t : List ℕ). t ++ drop n (drop place all)) (sym (take_at copy (drop n out) n whole ∙ same ∙ ap (take n) is))
          ∙ ap (λ (t : List ℕ). take n (copy ++ drop n out) ++ t) (drop-drop n place all),
      λ none room. drop_all (place + n) all (omega (arith, length-append copy (drop n out), length-drop n out)),
    )
