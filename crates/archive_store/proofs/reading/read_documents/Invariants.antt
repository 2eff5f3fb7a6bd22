use Rattle.std.proofs.Common.{◌≡◌, ℕ, List, map, length, take, IsTrue, Some}
use Rattle.std.specs.Prelude.{slice_get}
use Rattle.gate_journal.specs.View.{IsKept}
use Rattle.entry_codec.specs.declared.places.Place.{Place}
use Rattle.entry_codec.specs.Places.{bytes_at}
use Rattle.archive_store.proofs.reading.read_documents.Given as goal

abbrev pub invariant-loop-place : goal.invariant-loop-place
invariant-loop-place g l =
    let d = g.D.Disk in
    record {
      sizes : map length l.documents.items ≡ map (λ (p : Place). p.size) (take l.place-index l.places);
      bytes : IsTrue d.tells → (payload : List ℕ) → slice_get l.fn.journal.payloads l.entry ≡ Some payload → l.documents.items ≡ map (bytes_at payload) (take l.place-index l.places);
      kept : IsKept d.tells d.reads d.images d.clock d.since d.faults l.fn.journal l.journal;
    }
