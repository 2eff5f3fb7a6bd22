use Rattle.std.proofs.Common.{◌^◌}
use Rattle.tst_info.specs.Request.{request_seen}
use Rattle.tst_info.proofs.Lengths.{request_shorter, nonce_seen_shorter}
use Rattle.tst_info.proofs.request.contents_bytes.Goals as goal

pub imprint_bytes-requires : goal.imprint_bytes-requires
imprint_bytes-requires c = (request_shorter (request_seen c.args.request.now) (2 ^ 32) c.requires).imprint

pub write_tlv-requires-2-clause-short : goal.write_tlv-requires-2-clause-short
write_tlv-requires-2-clause-short c =
    let short = (request_shorter (request_seen c.args.request.now) (2 ^ 32) c.requires).imprint in
    simp (c.as_slice.ensures.value, c.in_ok-imprint.ensures) short

pub write_nonce-requires : goal.write_nonce-requires
write_nonce-requires c =
    nonce_seen_shorter c.args.request.now.nonce (2 ^ 32) (request_shorter (request_seen c.args.request.now) (2 ^ 32) c.requires).nonce
