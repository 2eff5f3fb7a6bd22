use Rattle.std.proofs.Common.{◌∷◌, ◌++◌, ap, ◌∙◌}
use Rattle.hex.specs.Hex.{encode_lower}
use Rattle.algorithm_policy.proofs.WriteLemmas.{authority_written}
use Rattle.algorithm_policy.proofs.writing.push_signer.Goals as goal

pub returns : goal.returns
returns c =
    authority_written _ _ _ _ _ _ _ c.args.signer.now c.in_ok-extend_from_slice.ensures.items
    (c.in_ok-push_word.ensures ∙ ap (λ w. c.extend_from_slice.new.self.items ++ 32 ∷ w) c.as_slice.ensures)
    (c.in_ok-push_hex.ensures ∙ ap (λ w. c.push_word.new.text.items ++ 32 ∷ encode_lower w) c.as_slice-2.ensures)
    (c.in_ok-push_hex-2.ensures ∙ ap (λ w. c.push_hex.new.text.items ++ 32 ∷ encode_lower w) c.bytes.ensures.bytes)
    (c.in_ok-push_hex-3.ensures ∙ ap (λ w. c.push_hex-2.new.text.items ++ 32 ∷ encode_lower w) c.bytes-2.ensures.bytes)
    c.in_ok-push_end.ensures
