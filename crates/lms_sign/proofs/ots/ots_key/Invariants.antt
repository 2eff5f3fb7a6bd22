use Rattle.std.proofs.Common.{◌-◌, ◌^◌, ◌++◌}
use Rattle.std.specs.Int.{w16, w32, to_be_bytes}
use Rattle.hash_kit.specs.Hashing.{Hashes}
use Rattle.hash_kit.specs.declared.algorithm.HashAlg.TheVariants.{Sha256}
use Rattle.lms_verify.specs.Ots.{joined}
use Rattle.lms_sign.specs.Ots.{value_after}
use Rattle.lms_sign.proofs.ots.ots_key.Given as goal

abbrev pub invariant-loop-i : goal.invariant-loop-i
invariant-loop-i l =
    Hashes l.hasher Sha256 ((l.tree.identifier ++ to_be_bytes w32 l.leaf ++ to_be_bytes w16 0x8080)
    ++ joined (λ i. value_after l.tree l.leaf i (2 ^ l.set.width - 1)) l.i)
