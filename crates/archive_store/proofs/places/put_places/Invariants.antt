use Rattle.std.proofs.Common.{◌≡◌, ◌+◌, ◌*◌, ◌++◌, take}
use Rattle.object_groups.specs.Groups.{bytes_in}
use Rattle.entry_codec.specs.Places.{document_places}
use Rattle.archive_store.proofs.places.put_places.Given as goal

abbrev pub invariant-loop-document : goal.invariant-loop-document
invariant-loop-document l = record {
  places : l.places.items ≡ l.fn.places.items ++ document_places l.place (take l.document-index l.documents);
  size : l.size ≡ bytes_in (take l.document-index l.documents);
  next : l.next ≡ l.place + 4 * l.document-index + l.size;
}
