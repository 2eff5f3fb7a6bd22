use Rattle.std.proofs.Common.{◌≡◌, length, map, take, IsTrue}
use Rattle.gate_journal.specs.View.{IsKept}
use Rattle.archive_store.specs.InsideReplay.{documents_in}
use Rattle.archive_store.proofs.LeavesRead.{leaf_at}
use Rattle.archive_store.proofs.leaves.tree_leaves.Given as goal

abbrev pub invariant-loop-id : goal.invariant-loop-id
invariant-loop-id g l =
    let d = g.D.Disk in
    record {
      count : length l.leaves.items ≡ l.id-index;
      leaves : IsTrue d.tells → l.leaves.items ≡ map (leaf_at l.archive.trees l.alg l.archive.kept.sealed (documents_in d.tells l.catalogue.rows l.fn.journal.payloads))
          (take l.id-index l.id-items);
      kept : IsKept d.tells d.reads d.images d.clock d.since d.faults l.fn.journal l.journal;
    }
