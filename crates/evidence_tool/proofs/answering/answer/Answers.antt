use Rattle.evidence_tool.proofs.answering.answer.Goals as goal

pub returns-in-Deposit-clause-stops : goal.returns-in-Deposit-clause-stops
returns-in-Deposit-clause-stops g c = rw c.in-Deposit.is c.deposit.ensures.stops
