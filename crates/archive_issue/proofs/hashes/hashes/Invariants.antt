use Rattle.std.proofs.Common.{◌≡◌, [], map, drop}
use Rattle.archive_chain.specs.declared.coverings.Covering.{Covering}
use Rattle.archive_issue.specs.Record.{each_once}
use Rattle.archive_issue.proofs.hashes.hashes.Given as goal

abbrev pub invariant-loop-covering : goal.invariant-loop-covering
invariant-loop-covering l =
    each_once l.found.items (map (λ (c : Covering). c.alg) (drop l.covering-index l.coverings)) ≡ each_once [] (map (λ (c : Covering). c.alg) l.coverings)
