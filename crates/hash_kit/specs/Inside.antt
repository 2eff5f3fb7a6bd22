-- How a hash value stands in its 64 bytes, and what every key keeps.
use Rattle.std.specs.Prelude.{◌≡◌, ℕ, List, ◌-◌, ◌<◌, ◌≤◌, ◌++◌, length, take, replicate, IsTrue}
use Rattle.std.proofs.Common.{sym, ap, ◌∙◌, arith, length-take-le}
use Rattle.hash_kit.specs.HssKey.{has_types, top_key_of, has_levels}

-- what every HSS public key keeps
pub record IsHssKey (key : List ℕ) : Type 0 where
  pub long : length key ≡ 60
  pub types : IsTrue (has_types (top_key_of key))
  pub levels : IsTrue (has_levels key)

-- the bytes and then zeros, 64 in all
abbrev pub filled_up : List ℕ → List ℕ
filled_up v = v ++ replicate (64 - length v) 0

pub record IsFilled (size : ℕ) (filled : List ℕ) : Type 0 where
  pub some : 0 < size
  pub most : size ≤ 64
  pub long : length filled ≡ 64
  pub zeros : filled ≡ take size filled ++ replicate (64 - size) 0

-- the bytes give the size and all 64 bytes back
pub size_again : (size : ℕ) (filled : List ℕ) → IsFilled size filled → length (take size filled) ≡ size
size_again size filled h = length-take-le size filled (omega (arith, h.most, h.long))

pub filled_again : (size : ℕ) (filled : List ℕ) → IsFilled size filled → filled_up (take size filled) ≡ filled
filled_again size filled h =
    ap (λ n. take size filled ++ replicate (64 - n) 0) (size_again size filled h) ∙ sym h.zeros
