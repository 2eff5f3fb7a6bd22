use Rattle.std.proofs.Common.{◌<◌, ◌^◌, length}
use Rattle.std.specs.List.{flat_map}
use Rattle.der_values.proofs.Lengths.{inner_shorter}
use Rattle.evidence_syntax.specs.Text.{list_text}
use Rattle.evidence_syntax.proofs.writing.write_tree.Goals as goal

pub lists_bytes-requires : goal.lists_bytes-requires
lists_bytes-requires c =
    let short : length (flat_map list_text c.in-Some.lists) < 2 ^ 32 = inner_shorter 162 (flat_map list_text c.in-Some.lists) _ (rw c.in-Some.is at c.requires) in
    rw c.as_slice.ensures short

pub write_tlv-requires-clause-short : goal.write_tlv-requires-clause-short
write_tlv-requires-clause-short c =
    let short : length (flat_map list_text c.in-Some.lists) < 2 ^ 32 = inner_shorter 162 (flat_map list_text c.in-Some.lists) _ (rw c.in-Some.is at c.requires) in
    simp (c.as_slice-in-Some.ensures.value, c.in_ok-contents-in-Some.ensures, c.as_slice.ensures) short
