-- What private functions tell each other.
use Rattle.std.specs.Prelude.{◌≡◌, ℕ, List, Some}
use Rattle.civil_moment.specs.declared.moment.Moment.{Moment}
use Rattle.tst_info.specs.Info.{Tst, tst_first_fault}
use Rattle.cms_signed.specs.Signed.{Parts}
use Rattle.algorithm_policy.specs.declared.signer.Signer.{Signer}
use Rattle.algorithm_policy.specs.Content.{Content}
use Rattle.token_check.specs.declared.fault.Check.{Check}
use Rattle.token_check.specs.declared.fault.Check.TheVariants as checks
use Rattle.token_check.specs.Fault.{authority_fault, trust_fault}

-- The check is that of a content that is no TSTInfo.
abbrev pub IsContentFault : List ℕ → Check → Type 0
IsContentFault content (checks.Tst fault) = tst_first_fault content ≡ Some fault
IsContentFault content c = ⊥

abbrev pub IsTrustFault : Content → Parts → Tst Moment → Check → Type 0
IsTrustFault policy signed info c = trust_fault policy signed info ≡ Some c

abbrev pub IsAuthorityFault : Signer → Parts → Check → Type 0
IsAuthorityFault signer signed c = authority_fault signer signed ≡ Some c
