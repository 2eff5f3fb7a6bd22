use Rattle.std.proofs.Common.{◌≡◌, ◌+◌, ◌-◌, ◌*◌, ◌^◌, length}
use Rattle.lms_verify.specs.Ots.{hash_of}
use Rattle.lms_verify.specs.Lms.{climbed}
use Rattle.lms_verify.proofs.lms.root_candidate.Given as goal

abbrev pub invariant-loop-level : goal.invariant-loop-level
invariant-loop-level l =
    (climbed (l.height - l.level) l.identifier l.r l.rest l.node ≡ climbed l.fn.height l.fn.identifier (2 ^ l.fn.height + l.fn.leaf) l.fn.path (hash_of l.fn.identifier (2 ^ l.fn.height + l.fn.leaf) 0x8282 l.fn.ots_key))
    × (length l.rest ≡ 32 * (l.height - l.level))
