use Rattle.std.proofs.Common.{◌≡◌, ℕ, List, length, take, drop, min, refl, sym, ap, ◌∙◌}
use Rattle.std.specs.declared.cmp.Ordering.{Ordering}
use Rattle.std.specs.declared.cmp.Ordering.TheVariants.{Less, Equal, Greater}
use Rattle.std.specs.Ordering.{nat_cmp, ordering_then}
use Rattle.std.specs.Cmp.Lexicographic.{slice_cmp}
use Rattle.der_values.specs.Order.{set_order_of}
use Rattle.der_values.specs.Inside.{order_over}
use Rattle.der_values.proofs.Padded.{order_is}
use Rattle.der_values.proofs.order.set_order.Goals as goal

order_of_parts : (a b a_front a_rest b_front b_rest : List ℕ) (n : ℕ) (o : Ordering) → n ≡ min (length a) (length b)
    → a_front ≡ take n a → a_rest ≡ drop n a → b_front ≡ take n b → b_rest ≡ drop n b → o ≡ slice_cmp nat_cmp a_front b_front
    → ordering_then o (order_over a_rest b_rest) ≡ set_order_of a b
order_of_parts a b a_front a_rest b_front b_rest n o e p q r s is = rw (is, p, q, r, s) (sym (order_is a b n e))

first_decides : (o r : Ordering) → (o ≡ Equal → ⊥) → o ≡ ordering_then o r
first_decides Less r ne = refl
first_decides Equal r ne = absurd (ne refl)
first_decides Greater r ne = refl

pub returns-in-Equal : goal.returns-in-Equal
returns-in-Equal c =
    let a = c.split_at.ensures in
    let b = c.split_at-2.ensures in
    let whole = order_of_parts c.args.a.now c.args.b.now _ _ _ _ c.min-shared.result c.cmp.result c.min-shared.ensures a.front a.back b.front b.back c.cmp.ensures in
    c.order_of_rest.ensures ∙ ap (λ (o : Ordering). ordering_then o (order_over c.split_at.result.1.now c.split_at-2.result.1.now)) (sym c.in-Equal.is) ∙ whole

pub returns-in_default : goal.returns-in_default
returns-in_default c =
    let a = c.split_at.ensures in
    let b = c.split_at-2.ensures in
    let whole = order_of_parts c.args.a.now c.args.b.now _ _ _ _ c.min-shared.result c.cmp.result c.min-shared.ensures a.front a.back b.front b.back c.cmp.ensures in
    first_decides c.cmp.result _ c.in_default.not-Equal ∙ whole
