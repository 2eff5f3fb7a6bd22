use Rattle.evidence_tool.proofs.TrialLemmas.{took_all, took_part}
use Rattle.evidence_tool.proofs.trial.write_trial.Goals as goal

pub returns-in-Ok-write_all-clause-written : goal.returns-in-Ok-write_all-clause-written
returns-in-Ok-write_all-clause-written g c = took_all _ _ _ _ _ _ _ c.as_slice.ensures.value c.in-Ok.ensures c.in-Ok-write_all.ensures.whole

pub returns-clause-written : goal.returns-clause-written
returns-clause-written g c = took_part _ _ _ _ _ _ _ c.as_slice.ensures.value c.in-Ok.ensures c.in-Err.ensures.cause.failed c.in-Err.ensures.part
