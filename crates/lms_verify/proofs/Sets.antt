-- What holds of each parameter set, case by case.
use Rattle.std.proofs.Common.{◌≡◌, ℕ, ◌+◌, ◌-◌, ◌*◌, ◌/◌, ◌%◌, ◌^◌, ◌<◌, ◌≤◌, inl, inr, refl, sym, subst, arith}
use Rattle.std.proofs.Math.Nat.{mod-eq_of_lt}
use Rattle.lms_verify.specs.declared.ots.OtsSet.{OtsSet}
use Rattle.lms_verify.specs.Ots.{IsSet, set_of}

pub by_set : (P : OtsSet → Type 0) → P (set_of 1) → P (set_of 2) → P (set_of 3) → P (set_of 4) → (set : OtsSet) → IsSet set → P set
by_set P a b c d set (inl e) = subst P (sym e) a
by_set P a b c d set (inr (inl e)) = subst P (sym e) b
by_set P a b c d set (inr (inr (inl e))) = subst P (sym e) c
by_set P a b c d set (inr (inr (inr e))) = subst P (sym e) d

pub positive : (set : OtsSet) → IsSet set → 0 < set.width
positive = by_set (λ set. 0 < set.width) (omega arith) (omega arith) (omega arith) (omega arith)

pub width-le : (set : OtsSet) → IsSet set → set.width ≤ 8
width-le = by_set (λ set. set.width ≤ 8) (omega arith) (omega arith) (omega arith) (omega arith)

pub greatest_is : (set : OtsSet) → IsSet set → 255 / 2 ^ (8 - set.width) ≡ 2 ^ set.width - 1
greatest_is = by_set (λ set. 255 / 2 ^ (8 - set.width) ≡ 2 ^ set.width - 1) refl refl refl refl

pub greatest-le : (set : OtsSet) → IsSet set → 2 ^ set.width - 1 ≤ 255
greatest-le = by_set (λ set. 2 ^ set.width - 1 ≤ 255) (omega arith) (omega arith) (omega arith) (omega arith)

-- digits a byte
pub each_byte : (set : OtsSet) → IsSet set → 0 < 8 / set.width
each_byte = by_set (λ set. 0 < 8 / set.width) (omega arith) (omega arith) (omega arith) (omega arith)

pub bit_place : (set : OtsSet) → IsSet set → (i : ℕ) → i ≤ 265 → i * set.width ≤ 2120
bit_place =
    by_set (λ set. (i : ℕ) → i ≤ 265 → i * set.width ≤ 2120) (λ i h. omega arith) (λ i h. omega arith) (λ i h. omega arith) (λ i h. omega arith)

pub in_byte : (set : OtsSet) → IsSet set → (i : ℕ) → set.width * (i % (8 / set.width)) + set.width ≤ 8
in_byte =
    by_set (λ set. (i : ℕ) → set.width * (i % (8 / set.width)) + set.width ≤ 8) (λ i. omega arith) (λ i. omega arith) (λ i. omega arith) (λ i. omega arith)

-- a digit of a hash, or of a hash with its checksum
pub in_hash : (set : OtsSet) → IsSet set → (i : ℕ) → i < 256 / set.width → (i ≤ 265)
in_hash =
    by_set (λ set. (i : ℕ) → i < 256 / set.width → i ≤ 265) (λ i h. omega arith) (λ i h. omega arith) (λ i h. omega arith) (λ i h. omega arith)

pub hash_place : (set : OtsSet) → IsSet set → (i : ℕ) → i < 256 / set.width → i * set.width / 8 < 32
hash_place =
    by_set (λ set. (i : ℕ) → i < 256 / set.width → i * set.width / 8 < 32) (λ i h. omega arith) (λ i h. omega arith) (λ i h. omega arith) (λ i h. omega arith)

pub few_digits : (set : OtsSet) → IsSet set → set.digits ≤ 265
few_digits = by_set (λ set. set.digits ≤ 265) (omega arith) (omega arith) (omega arith) (omega arith)

pub digit_place : (set : OtsSet) → IsSet set → (i : ℕ) → i < set.digits → i * set.width / 8 < 34
digit_place =
    by_set (λ set. (i : ℕ) → i < set.digits → i * set.width / 8 < 34) (λ i h. omega arith) (λ i h. omega arith) (λ i h. omega arith) (λ i h. omega arith)

-- one digit more in the sum of the checksum
pub sum_more : (set : OtsSet) → IsSet set → (i sum lack : ℕ) → sum ≤ i * (2 ^ set.width - 1) → lack ≤ 2 ^ set.width - 1 → sum + lack ≤ (i + 1) * (2 ^ set.width - 1)
sum_more =
    by_set (λ set. (i sum lack : ℕ) → sum ≤ i * (2 ^ set.width - 1) → lack ≤ 2 ^ set.width - 1 → sum + lack ≤ (i + 1) * (2 ^ set.width - 1)) (λ i s l g h. omega arith) (λ i s l g h. omega arith) (λ i s l g h. omega arith) (λ i s l g h. omega arith)

pub sum_fits : (set : OtsSet) → IsSet set → (i sum : ℕ) → i ≤ 256 / set.width → sum ≤ i * (2 ^ set.width - 1) → sum * 2 ^ set.shift < 2 ^ 16
sum_fits =
    by_set (λ set. (i sum : ℕ) → i ≤ 256 / set.width → sum ≤ i * (2 ^ set.width - 1) → sum * 2 ^ set.shift < 2 ^ 16) (λ i s g h. omega arith) (λ i s g h. omega arith) (λ i s g h. omega arith) (λ i s g h. omega arith)

pub sum_small : (set : OtsSet) → IsSet set → (i sum : ℕ) → i ≤ 256 / set.width → sum ≤ i * (2 ^ set.width - 1) → sum ≤ 8160
sum_small =
    by_set (λ set. (i sum : ℕ) → i ≤ 256 / set.width → sum ≤ i * (2 ^ set.width - 1) → sum ≤ 8160) (λ i s g h. omega arith) (λ i s g h. omega arith) (λ i s g h. omega arith) (λ i s g h. omega arith)

-- the sum of the checksum stands whole in 16 bits
pub whole : (set : OtsSet) → IsSet set → (i sum : ℕ) → i ≤ 256 / set.width → sum ≤ i * (2 ^ set.width - 1) → sum * 2 ^ set.shift % 65536 ≡ sum * 2 ^ set.shift
whole set known i sum last low = mod-eq_of_lt (sum_fits set known i sum last low)
