use Rattle.std.proofs.Common.{length, ap, ◌∙◌, arith, length-set}
use Rattle.std.proofs.lemmas.List.{set_split}
use Rattle.hash_kit.specs.Digest.{digest_of}
use Rattle.hash_kit.specs.declared.algorithm.HashAlg.TheVariants.{Sha256}
use Rattle.lms_verify.proofs.Messages.{behind}
use Rattle.lms_verify.proofs.ots.chain_step.Goals as goal

pub returns-clause-value : goal.returns-clause-value
returns-clause-value c =
    let old = c.args.message.now in
    let size = length-set old 22 c.args.j in
    let long = ap length c.bytes.ensures.bytes in
    let asked = set_split old 22 c.args.j (omega arith) in
    behind _ c.write_at.new.bytes c.bytes.result.now 23 c.write_at.ensures.written (omega (arith, size)) (omega (arith, size, long, c.digest-value.ensures.size))
    ∙ c.bytes.ensures.bytes ∙ c.digest-value.ensures.value ∙ ap (digest_of Sha256) asked
