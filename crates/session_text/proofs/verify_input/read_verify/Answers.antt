use Rattle.session_text.proofs.ReadLemmas.{found, only}
use Rattle.session_text.proofs.verify_input.read_verify.Goals as goal

pub returns-clause-found : goal.returns-clause-found
returns-clause-found c = found c.args.bytes.now c.whole_input.result c.whole_input.ensures.ok

pub returns-clause-only : goal.returns-clause-only
returns-clause-only c = only c.args.bytes.now c.whole_input.result c.whole_input.ensures.ok c.whole_input.ensures.fault
