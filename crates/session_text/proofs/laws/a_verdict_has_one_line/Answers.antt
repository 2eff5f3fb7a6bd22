use Rattle.session_text.proofs.LineLemmas.{one_line}
use Rattle.session_text.proofs.laws.a_verdict_has_one_line.Goals as goal

pub returns : goal.returns
returns c = one_line
