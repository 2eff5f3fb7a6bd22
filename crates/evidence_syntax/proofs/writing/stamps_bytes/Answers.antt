use Rattle.std.proofs.Common.{◌<◌, ◌^◌, length}
use Rattle.der_values.proofs.Lengths.{inner_shorter}
use Rattle.evidence_syntax.specs.Stamps.{stamp_seen}
use Rattle.evidence_syntax.specs.Text.{stamp_contents, stamp_text}
use Rattle.evidence_syntax.proofs.Parts.{one_seen_shorter}
use Rattle.evidence_syntax.proofs.writing.stamps_bytes.Goals as goal

pub stamp_bytes-requires : goal.stamp_bytes-requires
stamp_bytes-requires c =
    let x = c.stamp-item.result in
    inner_shorter 48 (stamp_contents (stamp_seen x)) _ (one_seen_shorter stamp_seen stamp_text c.args.stamps.now c.loop-stamp.stamp-index x _ c.loop-stamp-test.true c.stamp-item.is c.requires)

pub write_tlv-requires-clause-short : goal.write_tlv-requires-clause-short
write_tlv-requires-clause-short c =
    let x = c.stamp-item.result in
    let short : length (stamp_contents (stamp_seen x)) < 2 ^ 32 = inner_shorter 48 (stamp_contents (stamp_seen x)) _ (one_seen_shorter stamp_seen stamp_text c.args.stamps.now c.loop-stamp.stamp-index x _ c.loop-stamp-test.true c.stamp-item.is c.requires) in
    simp (c.as_slice.ensures.value, c.in_ok-inner.ensures) short
