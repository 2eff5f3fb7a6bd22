use Rattle.std.proofs.Common.{◌^◌}
use Rattle.tst_info.specs.Info.{tst_seen, with_text}
use Rattle.tst_info.proofs.Lengths.{tst_shorter, nonce_seen_shorter}
use Rattle.tst_info.proofs.info.contents_bytes.Goals as goal

pub imprint_bytes-requires : goal.imprint_bytes-requires
imprint_bytes-requires c = (tst_shorter (with_text c.args.time.now (tst_seen c.args.info.now)) (2 ^ 32) c.requires).imprint

pub write_tlv-requires-2-clause-short : goal.write_tlv-requires-2-clause-short
write_tlv-requires-2-clause-short c = (tst_shorter (with_text c.args.time.now (tst_seen c.args.info.now)) (2 ^ 32) c.requires).policy

pub write_tlv-requires-3-clause-short : goal.write_tlv-requires-3-clause-short
write_tlv-requires-3-clause-short c =
    let short = (tst_shorter (with_text c.args.time.now (tst_seen c.args.info.now)) (2 ^ 32) c.requires).imprint in
    simp (c.as_slice.ensures.value, c.in_ok-imprint.ensures) short

pub write_tlv-requires-4-clause-short : goal.write_tlv-requires-4-clause-short
write_tlv-requires-4-clause-short c = (tst_shorter (with_text c.args.time.now (tst_seen c.args.info.now)) (2 ^ 32) c.requires).serial

pub write_tlv-requires-5-clause-short : goal.write_tlv-requires-5-clause-short
write_tlv-requires-5-clause-short c = (tst_shorter (with_text c.args.time.now (tst_seen c.args.info.now)) (2 ^ 32) c.requires).time

pub write_nonce-requires : goal.write_nonce-requires
write_nonce-requires c =
    nonce_seen_shorter c.args.info.now.nonce (2 ^ 32) (tst_shorter (with_text c.args.time.now (tst_seen c.args.info.now)) (2 ^ 32) c.requires).nonce
