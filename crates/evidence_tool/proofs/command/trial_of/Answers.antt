use Rattle.evidence_tool.proofs.command.trial_of.Goals as goal

pub returns-in_err-hash_end-clause-none : goal.returns-in_err-hash_end-clause-none
returns-in_err-hash_end-clause-none c = rw c.from_residual.ensures (λ h k is. let none = c.in_err-hash_end.ensures.only h k is in cc none)
