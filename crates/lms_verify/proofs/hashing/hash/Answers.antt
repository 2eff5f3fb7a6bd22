use Rattle.std.proofs.Common.{ap, ◌++◌, ◌∙◌, append_assoc}
use Rattle.std.specs.Int.{w16, w32, to_be_bytes}
use Rattle.hash_kit.specs.Digest.{digest_of}
use Rattle.hash_kit.specs.declared.algorithm.HashAlg.TheVariants.{Sha256}
use Rattle.lms_verify.specs.Ots.{hash_of}
use Rattle.lms_verify.proofs.hashing.hash.Goals as goal

pub returns-clause-value : goal.returns-clause-value
unfolding hash_of
returns-clause-value c =
    let front = c.args.identifier.now ++ to_be_bytes w32 c.args.number ++ to_be_bytes w16 c.args.mark in
    c.finish.ensures.value _ _ (c.update-2.ensures _ _ (c.update.ensures _ _ c.marked-hasher.ensures))
    ∙ ap (digest_of Sha256) (append_assoc front c.args.first.now c.args.second.now)
