-- The order of moments.
use Rattle.std.proofs.Common.{◌≡◌, true, false, refl, sym, ap, ◌∙◌}
use Rattle.std.specs.Ordering.{is_lt, is_gt, ordering_reverse}
use Rattle.std.specs.declared.cmp.Ordering.{Ordering}
use Rattle.std.specs.declared.cmp.Ordering.TheVariants.{Less, Equal, Greater}
use Rattle.std.specs.Cmp.{IsTotalOrder}
use Rattle.std.proofs.lemmas.Cmp.{nat_cmp_total, int_cmp_total, on_total, then_total, upto}
use Rattle.civil_moment.specs.declared.moment.Moment.{Moment}
use Rattle.civil_moment.specs.Moment.{moment_order, is_before}

moments_total : IsTotalOrder moment_order
moments_total = then_total (on_total (λ (m : Moment). m.seconds) int_cmp_total) (on_total (λ (m : Moment). m.nanos) nat_cmp_total)

reversed : (o : Ordering) → is_gt (ordering_reverse o) ≡ is_lt o
reversed Less = refl
reversed Equal = refl
reversed Greater = refl

turned : (a b : Moment) → is_gt (moment_order b a) ≡ is_before a b
turned a b = ap is_gt (moments_total.antisymm b a) ∙ reversed (moment_order a b)

not_both : (o : Ordering) → is_lt o ≡ true → is_gt o ≡ false
not_both Less h = refl
not_both Equal h = cc
not_both Greater h = cc

-- neither is before
pub not_after : (a b : Moment) → is_before a b ≡ true → is_before b a ≡ false
not_after a b h = sym (turned b a) ∙ not_both (moment_order a b) h

pub not_before : (a b c : Moment) → is_before a b ≡ false → is_before b c ≡ false → is_before a c ≡ false
not_before a b c h k = sym (turned a c) ∙ upto moments_total c b a (turned b c ∙ k) (turned a b ∙ h)
