use Rattle.std.proofs.Common.{ap, ◌∙◌, subst, sym}
use Rattle.der_values.specs.Value.{value}
use Rattle.evidence_syntax.specs.Record.{record_seen, Spells}
use Rattle.evidence_syntax.proofs.Parts.{if_ok}
use Rattle.evidence_syntax.proofs.Readable.{record_readable}
use Rattle.evidence_syntax.proofs.writing.write_record.Goals as goal

pub returns-clause-read : goal.returns-clause-read
returns-clause-read c =
    let parts = record_seen c.args.parts.now in
    let contents = c.as_slice.ensures.value ∙ c.in_ok-contents.ensures in
    if_ok c.tlv_bytes.result (λ written is valid. subst (λ b. Spells b parts) (sym (is ∙ ap (λ t. value 48 t) contents)) (record_readable parts valid)) c.tlv_bytes.ensures.ok
