use Rattle.std.proofs.Common.{◌++◌, length, ap, ◌∙◌, arith}
use Rattle.lms_verify.proofs.Messages.{behind, head_of}
use Rattle.lms_verify.proofs.ots.step_message.Goals as goal

pub returns-clause-head : goal.returns-clause-head
returns-clause-head c =
    let leaf = ap length c.to_be_bytes.ensures in
    let i = ap length c.to_be_bytes-2.ensures in
    head_of c.write_at.new.bytes c.write_at-2.new.bytes c.write_at-3.new.bytes c.write_at-4.new.bytes c.args.identifier.now c.to_be_bytes.result c.to_be_bytes-2.result c.args.value.now c.requires.identifier leaf i c.write_at.ensures.written c.write_at-2.ensures.written c.write_at-3.ensures.written c.write_at-4.ensures.written (omega arith)
    ∙ (λ k. c.args.identifier.now ++ c.to_be_bytes.ensures k ++ c.to_be_bytes-2.ensures k)

pub returns-clause-value : goal.returns-clause-value
returns-clause-value c = behind _ _ _ 23 c.write_at-4.ensures.written (omega arith) (omega arith)
