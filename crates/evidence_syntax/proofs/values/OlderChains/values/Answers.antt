use Rattle.std.proofs.Common.{◌∙◌}
use Rattle.evidence_syntax.proofs.Parts.{if_ok}
use Rattle.evidence_syntax.proofs.LaterValues.{first_values, later_values}
use Rattle.evidence_syntax.proofs.values.OlderChains.values.Goals as goal

pub returns-then-is_empty : goal.returns-then-is_empty
returns-then-is_empty c =
    let bytes = c.as_slice-contents.result.now in
    let same = c.as_slice-contents.ensures.value ∙ c.self.view_is in
    λ chains are. if_ok c.digests.result (λ values is. is ∙ first_values c.args.alg bytes c.args.self.now chains c.args.documents.now c.if-is_empty.ensures same are) c.digests.ensures

pub returns : goal.returns
returns c =
    let bytes = c.as_slice-contents.result.now in
    let same = c.as_slice-contents.ensures.value ∙ c.self.view_is in
    λ chains are. c.in_ok-values.ensures ∙ later_values c.args.alg bytes c.args.self.now chains c.in_ok-sequence.sequence c.args.documents.now c.if-is_empty.ensures same are c.in_ok-sequence.ensures
