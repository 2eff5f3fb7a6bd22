use Rattle.std.proofs.Common.{◌++◌}
use Rattle.std.specs.Int.{w16, w32, to_be_bytes}
use Rattle.hash_kit.specs.Hashing.{Hashes}
use Rattle.hash_kit.specs.declared.algorithm.HashAlg.TheVariants.{Sha256}
use Rattle.lms_verify.specs.Ots.{joined, end_of, with_checksum}
use Rattle.lms_verify.proofs.ots.ots_candidate.Given as goal

abbrev pub invariant-loop-i : goal.invariant-loop-i
invariant-loop-i l =
    Hashes l.hasher Sha256 ((l.identifier ++ to_be_bytes w32 l.leaf ++ to_be_bytes w16 0x8080)
    ++ joined (end_of l.set l.identifier l.leaf (with_checksum l.set l.message_hash) l.values) l.i)
