use Rattle.std.proofs.Common.{length, None, true, ap, refl, arith}
use Rattle.tst_info.proofs.Small.{tst_is_small}
use Rattle.tst_info.proofs.tests.info_bytes.Goals as goal

pub write_tst-requires : goal.write_tst-requires
write_tst-requires c = record {
  policy = rw c.requires.policy record { some = λ e. cc; whole = refl };
  hash = record { oid = rw c.requires.oid record { some = λ e. cc; whole = refl }; params = tt };
  serial = rw c.requires.serial record { some = λ e. cc; fewest = refl };
  nonce = tt;
  short = tst_is_small c.args.policy.now (record { oid = c.args.oid.now; params = None }) c.args.imprint.now c.args.serial.now _ true None (omega (arith, ap length c.requires.policy, ap length c.requires.serial, ap length c.requires.oid, c.requires.imprint));
}
