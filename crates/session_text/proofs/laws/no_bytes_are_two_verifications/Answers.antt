use Rattle.session_text.proofs.VerifyLemmas.{one_verification}
use Rattle.session_text.proofs.laws.no_bytes_are_two_verifications.Goals as goal

pub returns : goal.returns
returns c = one_verification
