use Rattle.session_text.proofs.RefusalLemmas.{one_refusal_text}
use Rattle.session_text.proofs.laws.a_refusal_has_one_text.Goals as goal

pub returns : goal.returns
returns c = one_refusal_text
