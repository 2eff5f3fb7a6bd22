use Rattle.std.proofs.Common.{ℕ, List, ap, sym, ◌∙◌, refl, subst, arith, length, get_or}
use Rattle.std.specs.Prelude.{slice_get, slice_index}
use Rattle.std.specs.List.{AllByRecursion}
use Rattle.entry_codec.specs.declared.places.Place.{Place}
use Rattle.entry_codec.specs.Places.{bytes_at}
use Rattle.entry_codec.specs.Inside.{IsWithin}
use Rattle.archive_store.proofs.KeptJournal.{kept_none, kept_then}
use Rattle.archive_store.proofs.ReadBack.{list_more, map_more, any_default, all_get}
use Rattle.archive_store.proofs.reading.read_documents.Goals as goal

pub loop-place-init : goal.loop-place-init
loop-place-init g c =
    let d = g.D.Disk in
    let none = c.new-documents.ensures.items in
    record {
      sizes = rw none refl;
      bytes = λ known payload there. rw none refl;
      kept = kept_none d.tells d.reads d.images d.clock d.since d.faults _ (λ f known left. g.met.D.Disk.only_now _ f known left);
    }

pub read_document-requires-clause-entry : goal.read_document-requires-clause-entry
read_document-requires-clause-entry g c = omega (arith, c.requires.entry, ap length c.loop-place.invariant.kept.lengths)

pub read_document-requires-clause-within : goal.read_document-requires-clause-within
read_document-requires-clause-within g c =
    let k = c.loop-place.place-index in
    let places = c.args.places.now in
    let none : Place = record { from = 0; size = 0 } in
    let place : Place = get_or places k none in
    all_get (IsWithin (slice_index c.loop-place.journal.lengths c.args.entry)) places k place
    (subst (λ (l : List ℕ). AllByRecursion (IsWithin (slice_index l c.args.entry)) c.args.places.now) (sym c.loop-place.invariant.kept.lengths) c.requires.within)
    c.loop-place-test.true (any_default places k none place c.loop-place-test.true)

pub loop-place-preserved : goal.loop-place-preserved
loop-place-preserved g c =
    let d = g.D.Disk in
    let before = c.loop-place.invariant in
    let k = c.loop-place.place-index in
    let places = c.args.places.now in
    let none : Place = record { from = 0; size = 0 } in
    let place : Place = get_or places k none in
    let is = any_default places k none place c.loop-place-test.true in
    let pushed = c.in_ok-push-in-Ok.ensures.items in
    record {
      sizes = map_more length (λ (p : Place). p.size) _ _ _ places k place c.loop-place-test.true is before.sizes c.in-Ok.ensures.size pushed;
      bytes = λ known payload there. list_more (bytes_at payload) _ _ _ places k place c.loop-place-test.true is (before.bytes known payload there)
          (c.in-Ok.ensures.bytes known payload (ap (λ (ps : List (List ℕ)). slice_get ps c.args.entry) (before.kept.payloads known) ∙ there)) pushed;
      kept = kept_then d.tells d.reads d.images d.clock d.since d.faults _ _ _ before.kept c.read_document.ensures.kept;
    }
