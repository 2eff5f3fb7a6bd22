use Rattle.std.proofs.Common.{ℕ, ◌+◌, ◌≤◌, ◌<◌, List, [], ◌∷◌, ◌++◌, ap, ◌∙◌, arith}
use Rattle.evidence_syntax.proofs.LaterValues.{long_header}
use Rattle.evidence_syntax.proofs.values.sequence_header.Goals as goal

pub returns : goal.returns
returns c =
    let short = c.extra_of-extra.ensures.short in
    let long : 128 ≤ c.args.contents = omega (arith, λ (lt : c.args.contents < 128). c.if-extra-eq0.false (short.1 lt)) in
    long_header c.to_be_bytes.result _ _ c.args.contents c.extra_of-extra.result long c.extra_of-extra.ensures.extra c.extra_of-extra.ensures.few c.to_be_bytes.ensures (c.in_ok-push-3.ensures.items ∙ ap (λ (l : List ℕ). l ++ (128 + c.extra_of-extra.result) ∷ []) (c.in_ok-push.ensures.items ∙ ap (λ (l : List ℕ). l ++ 48 ∷ []) c.new-header.ensures.items)) c.in_ok-extend_from_slice.ensures.items
