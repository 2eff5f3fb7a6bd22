use Rattle.std.proofs.Common.{None, arith}
use Rattle.trial_authority.proofs.Spelled.{response_short}
use Rattle.trial_authority.proofs.reply.rejected.Goals as goal

pub write_response-requires-clause-short : goal.write_response-requires-clause-short
write_response-requires-clause-short c = omega (arith, response_short 2 None 0 (omega arith))
