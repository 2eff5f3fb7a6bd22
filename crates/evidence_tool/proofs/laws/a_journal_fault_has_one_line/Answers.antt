use Rattle.evidence_tool.proofs.JournalLineLemmas.{one_line}
use Rattle.evidence_tool.proofs.laws.a_journal_fault_has_one_line.Goals as goal

pub returns : goal.returns
returns c = one_line c.a_refusal_has_one_text.ensures
