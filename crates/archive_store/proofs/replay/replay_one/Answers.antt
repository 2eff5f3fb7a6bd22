use Rattle.std.proofs.Common.{◌∙◌, length, sym, ap, arith}
use Rattle.std.proofs.lemmas.List.{length-map}
use Rattle.std.proofs.lemmas.Result.{IfErr-weaker, on_ok_weaker}
use Rattle.archive_store.proofs.KeptJournal.{kept_then}
use Rattle.archive_store.proofs.Refusing.{outside_spoils, outside_answers}
use Rattle.archive_store.proofs.Replaying.{row_count, readable, groups, entries, more_over, spoils_over, answers}
use Rattle.archive_store.proofs.replay.replay_one.Goals as goal

-- ---- the payload wasn't read

pub returns-in-Err-clause-spoils : goal.returns-in-Err-clause-spoils
returns-in-Err-clause-spoils g c = λ known. rw (c.of_outside.ensures) (outside_spoils _ _)

pub returns-in-Err-clause-answers : goal.returns-in-Err-clause-answers
returns-in-Err-clause-answers g c = rw (c.of_outside.ensures) (outside_answers _)

-- ---- the payload

pub take_payload-requires-clause-rows : goal.take_payload-requires-clause-rows
take_payload-requires-clause-rows g c =
    let d = g.D.Disk in
    omega (
      arith,
      c.requires.entry,
      c.requires.few,
      row_count d.tells c.args.journal.now.lengths c.args.journal.now.payloads c.args.entry c.args.catalogue.now.rows c.args.archive.now c.requires.so_far
          c.in-Ok.payload.items c.in-Ok.ensures.size c.in-Ok.ensures.bytes,
    )

pub take_payload-requires-clause-entries : goal.take_payload-requires-clause-entries
take_payload-requires-clause-entries g c =
    let d = g.D.Disk in
    omega (
      arith,
      c.requires.entry,
      c.requires.few,
      entries d.tells c.args.journal.now.lengths c.args.journal.now.payloads c.args.entry c.args.catalogue.now.rows c.args.archive.now c.requires.so_far
          c.in-Ok.payload.items c.in-Ok.ensures.size c.in-Ok.ensures.bytes,
    )

pub take_payload-requires-clause-groups : goal.take_payload-requires-clause-groups
take_payload-requires-clause-groups g c =
    let d = g.D.Disk in
    groups d.tells c.args.journal.now.lengths c.args.journal.now.payloads c.args.entry c.args.catalogue.now.rows c.args.archive.now c.requires.so_far
    c.in-Ok.payload.items c.in-Ok.ensures.size c.in-Ok.ensures.bytes

pub take_payload-requires-clause-readable : goal.take_payload-requires-clause-readable
take_payload-requires-clause-readable g c =
    let d = g.D.Disk in
    rw (c.read_payload.ensures.kept.lengths) (readable d.tells c.args.journal.now.lengths c.args.journal.now.payloads c.args.entry c.args.catalogue.now.rows c.args.archive.now c.requires.so_far
    c.in-Ok.payload.items c.in-Ok.ensures.size c.in-Ok.ensures.bytes)

pub take_payload-requires-clause-many : goal.take_payload-requires-clause-many
take_payload-requires-clause-many g c =
    let k = c.read_payload.ensures.kept in
    λ known. ap length (k.payloads known) ∙ sym (length-map c.args.journal.now.payloads length) ∙ ap length (c.requires.sizes known) ∙ sym (ap length k.lengths)

pub returns-clause-more : goal.returns-clause-more
returns-clause-more g c =
    let d = g.D.Disk in
    on_ok_weaker c.take_payload.result (more_over d.tells c.args.journal.now.lengths c.args.journal.now.payloads c.args.entry c.args.catalogue.now.rows c.args.archive.now c.requires.so_far
    c.in-Ok.payload.items c.in-Ok.ensures.size c.in-Ok.ensures.bytes c.read_payload.new.journal.payloads c.read_payload.ensures.kept.payloads
    _ c.as_slice.ensures.value _ _) c.take_payload.ensures.next

pub returns-clause-spoils : goal.returns-clause-spoils
returns-clause-spoils g c =
    let d = g.D.Disk in
    IfErr-weaker c.take_payload.result _ _ (λ e not. spoils_over d.tells c.args.journal.now.lengths c.args.journal.now.payloads c.args.entry c.args.catalogue.now.rows c.args.archive.now c.requires.so_far
    c.in-Ok.payload.items c.in-Ok.ensures.size c.in-Ok.ensures.bytes c.read_payload.new.journal.payloads c.read_payload.ensures.kept.payloads
    _ c.as_slice.ensures.value e not) c.take_payload.ensures.not_next

pub returns-clause-answers : goal.returns-clause-answers
returns-clause-answers g c = IfErr-weaker c.take_payload.result _ _ (λ e not. answers _ _ _ _ _ e not) c.take_payload.ensures.not_next

pub returns-clause-kept : goal.returns-clause-kept
returns-clause-kept g c =
    let d = g.D.Disk in
    kept_then d.tells d.reads d.images d.clock d.since d.faults _ _ _ c.read_payload.ensures.kept c.take_payload.ensures.kept
