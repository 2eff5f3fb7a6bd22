-- What the time-stamps of a group say.
use Rattle.std.specs.Prelude.{◌≡◌, ⊤, List, [], ◌∷◌}
use Rattle.algorithm_policy.specs.Content.{Content}
use Rattle.token_check.specs.Sound.{Stamp as Says, Sound}
use Rattle.archive_chain.specs.declared.coverings.Covering.{Covering}
use Rattle.archive_chain.specs.Kept.{Cover}

-- The place of this time-stamp in a chain, and the hash, the time and the signer that its token says under the policy.
pub record IsCovering (policy : Content) (c : Cover) (covering : Covering) : Type 0 where
  pub begins_is : covering.begins ≡ c.begins
  pub alg_is : covering.alg ≡ c.alg
  pub says : Says
  pub sound : Sound policy c.token says
  pub hash_is : says.alg ≡ covering.alg
  pub time_is : says.time ≡ covering.time
  pub sid_is : says.sid ≡ covering.sid.now

-- one for each time-stamp of a group
abbrev pub AreCoverings : Content → List Cover → List Covering → Type 0
AreCoverings policy [] [] = ⊤
AreCoverings policy [] (covering ∷ coverings) = ⊥
AreCoverings policy (c ∷ covers) [] = ⊥
AreCoverings policy (c ∷ covers) (covering ∷ coverings) = IsCovering policy c covering × AreCoverings policy covers coverings
