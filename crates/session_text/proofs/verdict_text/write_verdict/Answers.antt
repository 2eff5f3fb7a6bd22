use Rattle.session_text.proofs.LineLemmas.{line_written}
use Rattle.session_text.proofs.verdict_text.write_verdict.Goals as goal

pub returns-clause-ok : goal.returns-clause-ok
returns-clause-ok c = line_written c.end_line.result c.args.verdict.now _ _ _ _ c.reserve.ensures.items c.in_ok-add_verdict.ensures.ok c.end_line.ensures.ok
