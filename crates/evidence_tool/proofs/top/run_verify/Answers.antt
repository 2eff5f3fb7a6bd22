use Rattle.std.proofs.Common.{refl}
use Rattle.evidence_tool.proofs.top.run_verify.Goals as goal

pub returns-clause-verify : goal.returns-clause-verify
returns-clause-verify g c = record {
  verified = rw c.code.ensures c.verify_input-status.ensures.verified;
  bounded = c.verify_input-status.ensures.bounded;
  disk = refl;
  authority = refl;
}
