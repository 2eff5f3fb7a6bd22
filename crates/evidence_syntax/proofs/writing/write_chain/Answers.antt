use Rattle.std.proofs.Common.{◌<◌, ◌^◌, length}
use Rattle.std.specs.List.{flat_map}
use Rattle.der_values.proofs.Lengths.{inner_shorter}
use Rattle.evidence_syntax.specs.Stamps.{chain_seen}
use Rattle.evidence_syntax.specs.Text.{stamp_text}
use Rattle.evidence_syntax.proofs.writing.write_chain.Goals as goal

pub stamps_bytes-requires : goal.stamps_bytes-requires
stamps_bytes-requires c =
    let stamps = flat_map stamp_text (chain_seen c.args.chain.now) in
    let short : length stamps < 2 ^ 32 = inner_shorter 48 stamps _ c.requires in
    rw c.as_slice.ensures short

pub write_tlv-requires-clause-short : goal.write_tlv-requires-clause-short
write_tlv-requires-clause-short c =
    let stamps = flat_map stamp_text (chain_seen c.args.chain.now) in
    let short : length stamps < 2 ^ 32 = inner_shorter 48 stamps _ c.requires in
    simp (c.as_slice-2.ensures.value, c.in_ok-stamps.ensures, c.as_slice.ensures) short
