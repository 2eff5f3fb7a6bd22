use Rattle.std.proofs.Common.{ap, ◌∙◌, subst, sym}
use Rattle.der_values.specs.Value.{value}
use Rattle.evidence_syntax.specs.Stamps.{chains_seen, SpellsSequence}
use Rattle.evidence_syntax.proofs.Parts.{if_ok}
use Rattle.evidence_syntax.proofs.Readable.{sequence_readable}
use Rattle.evidence_syntax.proofs.writing.write_sequence.Goals as goal

pub returns-clause-read : goal.returns-clause-read
returns-clause-read c =
    let chains = chains_seen c.args.chains.now in
    let contents = c.as_slice.ensures.value ∙ c.in_ok-chains.ensures in
    if_ok c.tlv_bytes.result (λ written is valid. subst (λ b. SpellsSequence b chains) (sym (is ∙ ap (λ t. value 48 t) contents)) (sequence_readable chains valid c.requires)) c.tlv_bytes.ensures.ok
