use Rattle.std.proofs.Common.{◌≡◌, map, ◌+◌, ◌-◌, ◌≤◌, length, IsTrue}
use Rattle.std.specs.Prelude.{vec_capacity}
use Rattle.ev_world.specs.Disk.{OnlyReads}
use Rattle.gate_journal.specs.Journal.{max_journal}
use Rattle.gate_journal.specs.View.{end_from}
use Rattle.gate_journal.specs.Inside.{max_write, places_from}
use Rattle.gate_journal.specs.declared.frame.Frame.{Frame}
use Rattle.gate_journal.proofs.SoFar.{SoFar}
use Rattle.gate_journal.proofs.opening.read_frames.Given as goal

abbrev pub invariant-frames : goal.invariant-frames
invariant-frames g l =
    let d = g.D.Disk in
    let lengths = map (λ (f : Frame). f.length) l.frames.items in
    record {
      room : l.place + 1 ≤ l.size;
      low : l.place + 1 ≤ max_journal;
      buffer : max_write ≤ vec_capacity l.buffer;
      places : map (λ (f : Frame). f.place) l.frames.items ≡ places_from 16 lengths;
      end : l.place ≡ end_from 16 lengths;
      only_reads : OnlyReads d.tells d.reads d.images d.clock d.since d.faults l.fn.disk l.disk;
      size : IsTrue d.tells → l.size ≡ length (d.reads l.fn.disk);
      so_far : IsTrue d.tells → SoFar (d.reads l.fn.disk) l.place lengths;
    }

abbrev pub decreases-frames : goal.decreases-frames
decreases-frames g l = l.size - l.place
