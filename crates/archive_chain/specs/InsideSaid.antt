-- What the tokens of an archive say.
use Rattle.std.specs.Prelude.{◌≡◌, ⊤, Option, Some, None}
use Rattle.algorithm_policy.specs.Content.{Content}
use Rattle.token_check.specs.Sound.{Stamp as Says, Sound}
use Rattle.archive_chain.specs.declared.time_stamp.TimeStamp.{TimeStamp}

-- The token is sound under the policy, and says this hash, this time and this signer.
pub record IsSaid (policy : Content) (t : TimeStamp) : Type 0 where
  pub says : Says
  pub sound : Sound policy t.token says
  pub hash_is : says.alg ≡ t.alg
  pub time_is : says.time ≡ t.time
  pub sid_is : says.sid ≡ t.sid

-- the same of an entry that has a time-stamp
abbrev pub IsSaidOf : Content → Option TimeStamp → Type 0
IsSaidOf policy None = ⊤
IsSaidOf policy (Some t) = IsSaid policy t
