use Rattle.std.proofs.Common.{map, ap, ◌∙◌, arith}
use Rattle.std.specs.Prelude.{slice_get}
use Rattle.entry_codec.specs.declared.places.Place.{Place}
use Rattle.entry_codec.specs.Places.{bytes_at}
use Rattle.entry_codec.proofs.Lying.{not_refused}
use Rattle.archive_store.proofs.Homes.{home_there, entry_there, places_within, group_is, told_is}
use Rattle.archive_store.proofs.reading.read_group.Goals as goal

pub places-requires : goal.places-requires
places-requires g c =
    home_there g.D.Disk.tells c.args.journal.now.lengths c.args.catalogue.now.rows c.args.journal.now.payloads c.args.id c.home-home.result c.requires.readable c.home-home.ensures

pub read_documents-requires-clause-entry : goal.read_documents-requires-clause-entry
read_documents-requires-clause-entry g c =
    omega (
      arith,
      c.from-entry.ensures,
      entry_there g.D.Disk.tells c.args.journal.now.lengths c.args.catalogue.now.rows c.args.journal.now.payloads c.args.id c.home-home.result c.requires.readable c.home-home.ensures,
    )

pub read_documents-requires-clause-within : goal.read_documents-requires-clause-within
read_documents-requires-clause-within g c =
    rw (c.from-entry.ensures, c.places.ensures)
    (places_within g.D.Disk.tells c.args.journal.now.lengths c.args.catalogue.now.rows c.args.journal.now.payloads c.args.id c.home-home.result c.requires.readable c.home-home.ensures)

pub new-requires : goal.new-requires
new-requires g c =
    let d = g.D.Disk in
    omega (
      arith,
      (group_is d.tells c.args.journal.now.lengths c.args.catalogue.now.rows c.args.journal.now.payloads c.args.id c.home-home.result c.requires.readable c.home-home.ensures
          c.in_ok-documents.documents
          (c.in_ok-documents.ensures.sizes ∙ ap (map (λ (p : Place). p.size)) c.places.ensures)
          (λ known payload there. c.in_ok-documents.ensures.bytes known payload (ap (slice_get c.args.journal.now.payloads) c.from-entry.ensures ∙ there) ∙ ap (map (bytes_at payload)) c.places.ensures)).few,
    )

pub unreachable-requires : goal.unreachable-requires
unreachable-requires g c =
    let d = g.D.Disk in
    not_refused c.in_ok-documents.documents _ (group_is d.tells c.args.journal.now.lengths c.args.catalogue.now.rows c.args.journal.now.payloads c.args.id c.home-home.result c.requires.readable c.home-home.ensures
    c.in_ok-documents.documents
    (c.in_ok-documents.ensures.sizes ∙ ap (map (λ (p : Place). p.size)) c.places.ensures)
    (λ known payload there. c.in_ok-documents.ensures.bytes known payload (ap (slice_get c.args.journal.now.payloads) c.from-entry.ensures ∙ there) ∙ ap (map (bytes_at payload)) c.places.ensures)) c.in_default.ensures.fault

pub returns-clause-group : goal.returns-clause-group
returns-clause-group g c =
    let d = g.D.Disk in
    rw (c.in-Ok.ensures.group) (told_is d.tells c.args.journal.now.lengths c.args.catalogue.now.rows c.args.journal.now.payloads c.args.id c.home-home.result c.requires.readable c.home-home.ensures
    c.in_ok-documents.documents
    (c.in_ok-documents.ensures.sizes ∙ ap (map (λ (p : Place). p.size)) c.places.ensures)
    (λ known payload there. c.in_ok-documents.ensures.bytes known payload (ap (slice_get c.args.journal.now.payloads) c.from-entry.ensures ∙ there) ∙ ap (map (bytes_at payload)) c.places.ensures) c.requires.many)
