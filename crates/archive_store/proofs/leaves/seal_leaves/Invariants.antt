use Rattle.std.proofs.Common.{◌≡◌, ◌≤◌, [], length, map, take, drop, IsTrue}
use Rattle.gate_journal.specs.View.{IsKept}
use Rattle.tree_renewal.specs.Leaf.{leaf_of}
use Rattle.archive_store.specs.InsideReplay.{documents_in}
use Rattle.archive_store.proofs.leaves.seal_leaves.Given as goal

abbrev pub invariant-loop-number : goal.invariant-loop-number
invariant-loop-number g l =
    let d = g.D.Disk in
    record {
      within : l.number ≤ l.count;
      count : length l.leaves.items ≡ l.number;
      leaves : IsTrue d.tells → l.leaves.items ≡ map (leaf_of l.alg [])
          (take l.number (drop (length l.archive.kept.sealed) (documents_in d.tells l.catalogue.rows l.fn.journal.payloads)));
      kept : IsKept d.tells d.reads d.images d.clock d.since d.faults l.fn.journal l.journal;
    }
