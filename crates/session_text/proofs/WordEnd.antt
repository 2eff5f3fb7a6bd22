-- Where a word ends.
use Rattle.std.proofs.Common.{◌≡◌, ℕ, ◌≤◌, Bool, true, false, not, cond, nat_lt, List, length, Some, None, refl, arith}
use Rattle.std.specs.Prelude.{position}
use Rattle.std.specs.List.{position_or_len}
use Rattle.std.proofs.lemmas.Bool.{ltb-true, ltb-false}
use Rattle.std.proofs.lemmas.List.Sums.{prefix_len-le-length}

chosen_some : (b : Bool) (n i : ℕ) → cond b (Some n) None ≡ Some i → (b ≡ true) × (i ≡ n)
chosen_some true n i e = (refl, cc)
chosen_some false n i e = absurd cc

chosen_none : (b : Bool) (n : ℕ) → cond b (Some n) None ≡ None → b ≡ false
chosen_none true n e = absurd cc
chosen_none false n e = refl

pub found : (p : ℕ → Bool) (bytes : List ℕ) (i : ℕ) → position p bytes ≡ Some i → i ≡ position_or_len p bytes
found p bytes i e = (chosen_some (nat_lt (position_or_len p bytes) (length bytes)) _ i e).1

pub within : (p : ℕ → Bool) (bytes : List ℕ) (i : ℕ) → position p bytes ≡ Some i → i ≤ length bytes
within p bytes i e =
    let c = chosen_some (nat_lt (position_or_len p bytes) (length bytes)) _ i e in
    let low = ltb-true _ _ c.0 in
    let same = c.1 in
    omega arith

pub none : (p : ℕ → Bool) (bytes : List ℕ) → position p bytes ≡ None → length bytes ≡ position_or_len p bytes
none p bytes e =
    let high = ltb-false _ _ (chosen_none (nat_lt (position_or_len p bytes) (length bytes)) _ e) in
    let most = prefix_len-le-length (λ x. not (p x)) bytes in
    omega arith
