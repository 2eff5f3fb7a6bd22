use Rattle.std.proofs.Common.{refl}
use Rattle.tst_info.specs.Checks.{time_of}
use Rattle.tst_info.proofs.checks.time.Goals as goal

pub returns-in-Err-clause-read : goal.returns-in-Err-clause-read
unfolding time_of
returns-in-Err-clause-read c = rw ((c.read_generalized.ensures.fault c.in-Err.fault).0 c.in-Err.is) (rw c.at.ensures refl)
