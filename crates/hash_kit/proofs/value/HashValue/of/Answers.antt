use Rattle.hash_kit.proofs.Filling.{written_over}
use Rattle.hash_kit.proofs.value.HashValue.of.Goals as goal

pub invariant_of-result : goal.invariant_of-result
invariant_of-result c =
    written_over c.args.bytes.now c.copy_from_slice.new.self c.copy_from_slice.ensures.after c.requires.some c.requires.most
