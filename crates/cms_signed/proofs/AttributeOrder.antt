-- The written attributes stand in the order of a SET OF.
use Rattle.std.proofs.Common.{◌≡◌, ◌∙◌, ℕ, ◌+◌, ◌<◌, ◌≤◌, inl, inr, false, List, ◌∷◌, ◌++◌, length, refl, sym, ap, arith}
use Rattle.std.proofs.lemmas.Bool.{cases_lt}
use Rattle.std.specs.Cmp.{nat_cmp_is}
use Rattle.std.specs.declared.cmp.Ordering.TheVariants.{Less, Equal}
use Rattle.std.specs.Ordering.{is_gt, nat_cmp}
use Rattle.der_values.specs.Value.{value}
use Rattle.der_values.specs.Order.{set_order_of}
use Rattle.der_values.proofs.Values.{short_is}

pub short_value : (tag : ℕ) (content : List ℕ) → length content < 128 → value tag content ≡ tag ∷ length content ∷ content
unfolding value
short_value tag content short = ap (λ (l : List ℕ). tag ∷ l ++ content) (short_is (length content) short)

pub short_length : (tag : ℕ) (content : List ℕ) (n : ℕ) → length content ≡ n → n < 128 → length (value tag content) ≡ n + 2
short_length tag content n is short = omega (arith, ap length (short_value tag content (omega (arith, is, short))), is)

same_byte : (x : ℕ) → nat_cmp x x ≡ Equal
same_byte x = sym (nat_cmp_is x x Equal refl)

less_byte : (x y : ℕ) → x < y → nat_cmp x y ≡ Less
less_byte x y lt = sym (nat_cmp_is x y Less lt)

-- The shorter contents go first.
longer_is_above : (m n : ℕ) (x y : List ℕ) → m < n → is_gt (set_order_of (48 ∷ m ∷ x) (48 ∷ n ∷ y)) ≡ false
unfolding set_order_of
longer_is_above m n x y lt = rw (less_byte m n lt) refl

pub is_above : (a b : List ℕ) → length a < length b → length b < 128 → is_gt (set_order_of (value 48 a) (value 48 b)) ≡ false
is_above a b lt short = rw (short_value 48 a (omega (arith, lt, short)), short_value 48 b short) (longer_is_above (length a) (length b) a b lt)

-- Contents of one length that begin with the headers of identifiers of 9 and 11 octets.
next_is_above : (n : ℕ) (x y : List ℕ) → is_gt (set_order_of (48 ∷ n ∷ 6 ∷ 9 ∷ x) (48 ∷ n ∷ 6 ∷ 11 ∷ y)) ≡ false
unfolding set_order_of
next_is_above n x y = rw (same_byte n) refl

pub is_not_below : (x y : List ℕ) → length x ≤ length y → length y + 2 < 128 → is_gt (set_order_of (value 48 (6 ∷ 9 ∷ x)) (value 48 (6 ∷ 11 ∷ y))) ≡ false
is_not_below x y le short = elim (cases_lt (length x) (length y)) [
  | inl lt ↦ is_above (6 ∷ 9 ∷ x) (6 ∷ 11 ∷ y) (omega (arith, lt)) (omega (arith, short))
  | inr ge ↦ equal (omega (arith, le, ge))
]
  where
    equal : length x ≡ length y → is_gt (set_order_of (value 48 (6 ∷ 9 ∷ x)) (value 48 (6 ∷ 11 ∷ y))) ≡ false
    equal e =
        let a : value 48 (6 ∷ 9 ∷ x) ≡ 48 ∷ (length y + 2) ∷ 6 ∷ 9 ∷ x = short_value 48 (6 ∷ 9 ∷ x) (omega (arith, e, short)) ∙ ap (λ n. 48 ∷ n ∷ 6 ∷ 9 ∷ x) (omega (arith, e)) in
        let b : value 48 (6 ∷ 11 ∷ y) ≡ 48 ∷ (length y + 2) ∷ 6 ∷ 11 ∷ y = short_value 48 (6 ∷ 11 ∷ y) (omega (arith, short)) ∙ ap (λ n. 48 ∷ n ∷ 6 ∷ 11 ∷ y) (omega arith) in
        rw (a, b) (next_is_above (length y + 2) x y)
