-- The order of padded byte strings, by the length that they share and by what one has over.
use Rattle.std.proofs.Common.{◌≡◌, ℕ, zero, suc, ◌-◌, Bool, true, false, List, [], ◌∷◌, ◌++◌, length, take, drop, refl, sym, ap, ◌∙◌, append_assoc, arith, ◌⊎◌, inl, inr}
use Rattle.std.specs.Prelude.{replicate, if◌then◌else◌, min, ◌==◌}
use Rattle.std.proofs.lemmas.Bool.{cases_lt, ne_eqb}
use Rattle.std.proofs.lemmas.List.{append-nil, length-take, length-drop, take-append-drop, nil_from_length}
use Rattle.std.specs.Cmp.{nat_cmp_is}
use Rattle.std.specs.declared.cmp.Ordering.{Ordering}
use Rattle.std.specs.declared.cmp.Ordering.TheVariants.{Less, Equal, Greater}
use Rattle.std.specs.Ordering.{is_gt, nat_cmp, ordering_then}
use Rattle.std.specs.Cmp.Lexicographic.{slice_cmp}
use Rattle.der_values.specs.Order.{set_order_of}
use Rattle.der_values.specs.Inside.{all_zero, order_over}

abbrev order : List ℕ → List ℕ → Ordering
order = slice_cmp nat_cmp

then_assoc : (a b c : Ordering) → ordering_then (ordering_then a b) c ≡ ordering_then a (ordering_then b c)
then_assoc Less b c = refl
then_assoc Equal b c = refl
then_assoc Greater b c = refl

order_append : (xs ys us vs : List ℕ) → length xs ≡ length ys → order (xs ++ us) (ys ++ vs) ≡ ordering_then (order xs ys) (order us vs)
order_append [] [] us vs e = refl
order_append [] (y ∷ ys) us vs e = absurd (omega (arith, e))
order_append (x ∷ xs) [] us vs e = absurd (omega (arith, e))
order_append (x ∷ xs) (y ∷ ys) us vs e = ap (ordering_then (nat_cmp x y)) (order_append xs ys us vs (omega (arith, e))) ∙ sym (then_assoc (nat_cmp x y) (order xs ys) (order us vs))

same_zero : Equal ≡ nat_cmp 0 0
same_zero = nat_cmp_is 0 0 Equal refl

above_zero : (x : ℕ) → Greater ≡ nat_cmp (suc x) 0
above_zero x = nat_cmp_is (suc x) 0 Greater (omega arith)

below_more : (x : ℕ) → Less ≡ nat_cmp 0 (suc x)
below_more x = nat_cmp_is 0 (suc x) Less (omega arith)

nonzero : (x : ℕ) → (suc x == 0) ≡ false
nonzero x = ne_eqb (suc x) 0 (λ e. omega arith)

over_zeros : (us : List ℕ) → order us (replicate (length us) 0) ≡ order_over us []
over_zeros [] = refl
over_zeros (zero ∷ us) = rw (← same_zero) (over_zeros us)
over_zeros (suc x ∷ us) = let other = nonzero x in rw (← above_zero x, other) refl

zeros_under : (vs : List ℕ) → order (replicate (length vs) 0) vs ≡ order_over [] vs
zeros_under [] = refl
zeros_under (zero ∷ vs) = rw (← same_zero) (zeros_under vs)
zeros_under (suc x ∷ vs) = let other = nonzero x in rw (← below_more x, other) refl

tails : (us vs : List ℕ) → (us ≡ []) ⊎ (vs ≡ []) → order (us ++ replicate (length vs) 0) (vs ++ replicate (length us) 0) ≡ order_over us vs
tails us vs (inl e) = rw (e, append-nil) (zeros_under vs)
tails us vs (inr e) = rw (e, append-nil) (over_zeros us)

one_is_empty : (a b : List ℕ) (n : ℕ) → n ≡ min (length a) (length b) → (drop n a ≡ []) ⊎ (drop n b ≡ [])
one_is_empty a b n e =
    elim (cases_lt (length a) (length b)) [
      | inl lt ↦ inl (nil_from_length (drop n a) (omega (arith, length-drop n a)))
      | inr le ↦ inr (nil_from_length (drop n b) (omega (arith, length-drop n b)))
    ]

pub order_is : (a b : List ℕ) (n : ℕ) → n ≡ min (length a) (length b)
    → set_order_of a b ≡ ordering_then (slice_cmp nat_cmp (take n a) (take n b)) (order_over (drop n a) (drop n b))
unfolding set_order_of
order_is a b n e =
    let fewer_a : length b - length a ≡ length (drop n b) = omega (arith, length-drop n b) in
    let fewer_b : length a - length b ≡ length (drop n a) = omega (arith, length-drop n a) in
    let same : length (take n a) ≡ length (take n b) = omega (arith, length-take n a, length-take n b) in
    let as_parts = order_append (take n a) (take n b) (drop n a ++ replicate (length (drop n b)) 0) (drop n b ++ replicate (length (drop n a)) 0) same in
    let whole_a : take n a ++ (drop n a ++ replicate (length (drop n b)) 0) ≡ a ++ replicate (length (drop n b)) 0 = sym (append_assoc (take n a) (drop n a) (replicate (length (drop n b)) 0)) ∙ ap (λ (l : List ℕ). l ++ replicate (length (drop n b)) 0) (take-append-drop n a) in
    let whole_b : take n b ++ (drop n b ++ replicate (length (drop n a)) 0) ≡ b ++ replicate (length (drop n a)) 0 = sym (append_assoc (take n b) (drop n b) (replicate (length (drop n a)) 0)) ∙ ap (λ (l : List ℕ). l ++ replicate (length (drop n a)) 0) (take-append-drop n b) in
    rw (fewer_a, fewer_b, ← whole_a, ← whole_b) (as_parts ∙ ap (ordering_then (order (take n a) (take n b))) (tails (drop n a) (drop n b) (one_is_empty a b n e)))

-- Nothing is below the empty byte string.
pub empty_is_least : (x : List ℕ) → is_gt (set_order_of [] x) ≡ false
empty_is_least x = rw (order_is [] x 0 (omega arith)) (none_over (all_zero x)) where
  none_over : (b : Bool) → is_gt (if b then Equal else Less) ≡ false
  none_over true = refl
  none_over false = refl
