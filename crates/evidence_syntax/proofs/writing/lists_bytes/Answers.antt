use Rattle.std.proofs.Common.{ℕ, List, ◌<◌, ◌^◌, length}
use Rattle.std.specs.List.{flat_map}
use Rattle.der_values.specs.Value.{value}
use Rattle.der_values.proofs.Lengths.{inner_shorter}
use Rattle.evidence_syntax.specs.Text.{list_text}
use Rattle.evidence_syntax.proofs.Parts.{one_shorter}
use Rattle.evidence_syntax.proofs.writing.lists_bytes.Goals as goal

pub write_tlv-requires-clause-short : goal.write_tlv-requires-clause-short
write_tlv-requires-clause-short c =
    let x = c.list-item.result in
    let values = flat_map (λ (v : List ℕ). value 4 v) x in
    let short : length values < 2 ^ 32 = inner_shorter 48 values _ (one_shorter list_text c.args.lists.now c.loop-list.list-index x _ c.loop-list-test.true c.list-item.is c.requires) in
    simp (c.as_slice-in-loop-list.ensures.value, c.in_ok-values.ensures, c.as_slice.ensures) short
