use Rattle.evidence_tool.proofs.DepositLemmas.{one_deposit}
use Rattle.evidence_tool.proofs.deposit.entry_of.Goals as goal

pub returns-clause-valid : goal.returns-clause-valid
returns-clause-valid c = one_deposit c.args.document.now c.requires
