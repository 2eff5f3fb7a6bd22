use Rattle.std.proofs.Common.{take, refl, ap}
use Rattle.evidence_tool.specs.Served.{input_limit}
use Rattle.evidence_tool.specs.Status.{code_of}
use Rattle.evidence_tool.specs.Verifying.{answered, cut_off}
use Rattle.evidence_tool.proofs.VerifyingLemmas.{left_is, same_line, same_bytes, answer_no_words}
use Rattle.evidence_tool.proofs.verifying.verify_input.Goals as goal

pub returns-in-Ok-write_all-clause-verified : goal.returns-in-Ok-write_all-clause-verified
returns-in-Ok-write_all-clause-verified g c =
    answered c.deref.result.now c.in-Ok-answer.answered.line.items c.in-Ok.ensures.end
    (left_is _ _ c.in-Ok.bytes.items c.deref.result.now c.in-Ok.ensures.whole c.in-Ok.ensures.end c.deref.ensures.value)
    (same_bytes _ _ c.deref.ensures.value input_limit c.in-Ok.ensures.short) c.in-Ok-answer.ensures
    (same_line _ _ _ _ c.as_slice.ensures.value c.in-Ok-write_all.ensures.whole)

pub returns-in-Ok-write_all-clause-words : goal.returns-in-Ok-write_all-clause-words
returns-in-Ok-write_all-clause-words g c = answer_no_words c.deref.result.now (code_of c.in-Ok-answer.answered.status) c.in-Ok-answer.answered.line.items c.in-Ok-answer.ensures

pub returns-clause-verified : goal.returns-clause-verified
returns-clause-verified g c =
    cut_off refl c.in-Err-write_all.ensures.cause.failed c.deref.result.now (code_of c.in-Ok-answer.answered.status) c.in-Ok-answer.answered.line.items c.in-Ok.ensures.end
    (left_is _ _ c.in-Ok.bytes.items c.deref.result.now c.in-Ok.ensures.whole c.in-Ok.ensures.end c.deref.ensures.value)
    (same_bytes _ _ c.deref.ensures.value input_limit c.in-Ok.ensures.short) c.in-Ok-answer.ensures
    c.in-Err-write_all.ensures.part.0 (same_line _ _ _ _ (ap (λ l. take c.in-Err-write_all.ensures.part.0 l) c.as_slice.ensures.value) c.in-Err-write_all.ensures.part.1)
