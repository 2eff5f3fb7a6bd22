use Rattle.archive_chain.proofs.Tokens.{drops}
use Rattle.archive_chain.proofs.policy_rules.kept.Goals as goal

pub returns-in-Err-clause-breaks : goal.returns-in-Err-clause-breaks
returns-in-Err-clause-breaks c = λ text says. drops c.args.old.now c.args.new text c.in-Err.signer.now c.dropped.result says c.in-Err.ensures c.dropped.ensures
