-- The time of the last mark in memory.
use Rattle.std.proofs.Common.{◌≡◌, ℕ, zero, suc, ◌-◌, List, [], ◌∷◌, length, map, Option, Some, None, slice_get, unwrap_or, refl, sym, ap, arith}
use Rattle.std.specs.Prelude.{if◌then◌else◌}
use Rattle.civil_moment.specs.declared.moment.Moment.{Moment}
use Rattle.civil_moment.specs.Moment.{is_before}
use Rattle.evidence_verify.specs.declared.mark.Mark.{Mark as HeldMark}
use Rattle.evidence_verify.specs.Lapse.{mark_seen}
use Rattle.archive_issue.specs.declared.fault.IssueFault.TheVariants.{Early}
use Rattle.archive_issue.specs.Reason.{last_time, early_by}

last_seen : (xs : List HeldMark) (n : ℕ) (x : HeldMark) → n ≡ length xs - 1 → slice_get xs n ≡ Some x → last_time (map mark_seen xs) ≡ Some x.time
last_seen [] n x last is = cc
last_seen (y ∷ []) zero x last is =
    let same : y ≡ x = ap (λ (o : Option HeldMark). unwrap_or o y) is in
    ap (λ (z : HeldMark). Some z.time) same
last_seen (y ∷ []) (suc n) x last is = cc
last_seen (y ∷ z ∷ rest) zero x last is = absurd (omega (arith, last))
last_seen (y ∷ z ∷ rest) (suc n) x last is = last_seen (z ∷ rest) n x (omega (arith, last)) is

pub early_last : (moment : Moment) (xs : List HeldMark) (x : HeldMark) → slice_get xs (length xs - 1) ≡ Some x
    → (if is_before moment x.time then Some (Early moment x.time) else None) ≡ early_by moment (last_time (map mark_seen xs))
early_last moment xs x is = sym (ap (early_by moment) (last_seen xs (length xs - 1) x refl is))
