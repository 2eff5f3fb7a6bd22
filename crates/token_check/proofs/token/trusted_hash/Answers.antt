use Rattle.std.proofs.Common.{sym}
use Rattle.token_check.proofs.token.trusted_hash.Goals as goal

pub returns-in-Ok-clause-trusted : goal.returns-in-Ok-clause-trusted
returns-in-Ok-clause-trusted c = record {
  hash = sym c.in-Some.ensures;
  signer = c.in-Some-signer.signer.now;
  found = sym c.in-Some-signer.ensures.value;
  by = c.in-Ok.ensures.by;
}
