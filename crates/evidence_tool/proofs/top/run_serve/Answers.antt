use Rattle.std.proofs.Common.{refl}
use Rattle.evidence_tool.proofs.top.run_serve.Goals as goal

pub returns-clause-serve : goal.returns-clause-serve
returns-clause-serve g c = record {
  served = rw c.code.ensures c.serve_input-status.ensures.serve;
  bounded = c.serve_input-status.ensures.bounded;
  authority = refl;
}
