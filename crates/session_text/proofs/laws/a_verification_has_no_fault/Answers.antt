use Rattle.session_text.proofs.VerifyLemmas.{no_fault}
use Rattle.session_text.proofs.laws.a_verification_has_no_fault.Goals as goal

pub returns : goal.returns
returns c = no_fault
