use Rattle.std.proofs.Common.{◌≡◌, drop, map}
use Rattle.evidence_verify.specs.Hashes.{mixed_after}
use Rattle.evidence_verify.specs.Inside.{checked_seen}
use Rattle.evidence_verify.proofs.hashes.mixed_after.Given as goal

abbrev pub invariant-loop-stamp : goal.invariant-loop-stamp
invariant-loop-stamp l =
    mixed_after l.hash (map checked_seen (drop l.stamp-index l.stamps)) ≡ mixed_after l.fn.first (map checked_seen l.fn.stamps)
