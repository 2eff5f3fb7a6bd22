use Rattle.std.specs.List.{flat_map}
use Rattle.der_values.proofs.Lengths.{content_shorter}
use Rattle.evidence_syntax.specs.Text.{list_text}
use Rattle.evidence_syntax.proofs.SizeLemmas.{too_long, same_size, value_of}
use Rattle.evidence_syntax.proofs.sizes.tree_size.Goals as goal

pub returns-in_err-lists_size-in-Some : goal.returns-in_err-lists_size-in-Some
returns-in_err-lists_size-in-Some c =
    rw c.in-Some.is (too_long _ _ _ (content_shorter 162 (flat_map list_text c.in-Some.lists)) (rw c.as_slice.ensures at c.in_err-lists_size-in-Some.ensures) c.from_residual.ensures)

pub returns-in_ok-lists_size-in-Some : goal.returns-in_ok-lists_size-in-Some
returns-in_ok-lists_size-in-Some c =
    rw c.in-Some.is (same_size _ _ _ (value_of 162 (flat_map list_text c.in-Some.lists) _ (rw c.as_slice.ensures at c.in_ok-lists_size-in-Some.ensures.1)) c.with_value.ensures)
