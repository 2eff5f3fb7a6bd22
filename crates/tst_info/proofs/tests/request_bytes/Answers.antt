use Rattle.std.proofs.Common.{length, None, Some, ap, refl, arith}
use Rattle.tst_info.proofs.Small.{request_is_small}
use Rattle.tst_info.proofs.tests.request_bytes.Goals as goal

pub write_request-requires : goal.write_request-requires
write_request-requires c = record {
  hash = record { oid = rw c.requires.oid record { some = λ e. cc; whole = refl }; params = tt };
  nonce = rw c.requires.nonce record { some = λ e. cc; fewest = refl };
  short = request_is_small (record { oid = c.args.oid.now; params = None }) c.args.imprint.now (Some c.args.nonce.now) (omega (arith, ap length c.requires.oid, c.requires.imprint, ap length c.requires.nonce));
}
