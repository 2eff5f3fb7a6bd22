use Rattle.std.proofs.Common.{◌≡◌, ◌<◌, ◌≤◌, ◌^◌, length, take}
use Rattle.gate_journal.specs.View.{IsKept}
use Rattle.archive_store.specs.InsideReplay.{AreReplayed}
use Rattle.archive_store.proofs.replay.replay.Given as goal

abbrev pub invariant-loop-entry : goal.invariant-loop-entry
invariant-loop-entry g l =
    let d = g.D.Disk in
    record {
      count : l.count ≡ length l.fn.journal.lengths;
      within : l.entry ≤ l.count;
      few : l.count < 2 ^ 32;
      kept : IsKept d.tells d.reads d.images d.clock d.since d.faults l.fn.journal l.journal;
      so_far : AreReplayed d.tells (take l.entry l.journal.lengths) (take l.entry l.journal.payloads) l.catalogue.rows l.archive;
    }
