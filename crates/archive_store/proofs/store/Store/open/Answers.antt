use Rattle.std.proofs.Common.{◌∙◌, None, Err, refl, sym, ap, arith}
use Rattle.ev_world.proofs.QuietCalls.{reads_then}
use Rattle.archive_store.proofs.Telling.{closed-told}
use Rattle.archive_store.proofs.Opened.{no_marks, opened, read_history}
use Rattle.archive_store.proofs.Refusing.{journal_answers, journal_unopens, journal_disk, spoilt_unopens, refusal_of}
use Rattle.archive_store.proofs.store.Store.open.Goals as goal

-- ---- the bytes are no journal

pub returns-in-Err-clause-answers : goal.returns-in-Err-clause-answers
returns-in-Err-clause-answers g c = rw (c.of_journal.ensures) (journal_answers _ c.in-Err.ensures.answers)

pub returns-in-Err-clause-unopened : goal.returns-in-Err-clause-unopened
returns-in-Err-clause-unopened g c =
    λ known. rw (c.of_journal.ensures)
    (refusal_of c.bytes_are_refused_for_one_fault.ensures c.what_is_read_is_not_refused.ensures _ _ (journal_unopens _ _ (c.in-Err.ensures.damage known).fault))

pub returns-in-Err-clause-failed : goal.returns-in-Err-clause-failed
returns-in-Err-clause-failed g c = λ same. c.in-Err.ensures.failed (journal_disk _ (sym c.of_journal.ensures ∙ same))

-- ---- an entry isn't taken

pub returns-in-Err-replay-clause-unopened : goal.returns-in-Err-replay-clause-unopened
returns-in-Err-replay-clause-unopened g c =
    λ known. refusal_of c.bytes_are_refused_for_one_fault.ensures c.what_is_read_is_not_refused.ensures _ _
    (spoilt_unopens _ _ _ (c.in-Ok.ensures.read known).reads (c.in-Err-replay.ensures.spoils known))

pub returns-in-Err-replay-clause-failed : goal.returns-in-Err-replay-clause-failed
returns-in-Err-replay-clause-failed g c = λ same. rw (c.close.ensures) (grind (arith, c.in-Ok.ensures.only_reads.later, c.in-Err-replay.ensures.failed (ap Err same)))

pub returns-in-Err-replay-clause-err_only_reads : goal.returns-in-Err-replay-clause-err_only_reads
returns-in-Err-replay-clause-err_only_reads g c =
    let d = g.D.Disk in
    let k = c.replay.ensures.kept in
    rw (c.close.ensures) (reads_then d.reads d.images d.clock d.since d.tells d.faults _ _ _ c.in-Ok.ensures.only_reads (record { quiet = k.quiet; later = k.later }))

-- ---- opened

pub invariant_of-result : goal.invariant_of-result
invariant_of-result g c =
    let whole = c.replay.ensures.kept.broken ∙ c.in-Ok.ensures.whole in
    rw (c.of-opened.ensures, whole)
    (opened _ _ _ _ _ _ _ c.in-Ok-replay.ensures.replayed (omega (arith, c.frames.ensures.count, c.frames.ensures.few))
    (λ known f image. c.every_crash_leaves_its_frames.ensures known whole f image))

pub returns-in-Ok-replay-clause-opened : goal.returns-in-Ok-replay-clause-opened
returns-in-Ok-replay-clause-opened g c =
    let d = g.D.Disk in
    let rows = c.in-Ok-replay.field-0.catalogue.rows in
    let archive = c.in-Ok-replay.field-0.archive in
    let j = c.replay.new.journal in
    let is = c.in-Ok-replay.ensures.replayed in
    record {
      history = λ known.
          let reads = read_history d.tells j.lengths j.payloads rows archive _ _ is known (c.in-Ok.ensures.read known).reads (c.replay.ensures.kept.payloads known) in
          record { reads = reads; only = λ k others. c.bytes_read_one_history.ensures _ k _ others reads };
      unmarked = no_marks d.tells j.lengths j.payloads rows archive is;
      not_closed = closed-told d.tells rows j.payloads 0 None;
      base = rw (c.of-opened.ensures) refl;
    }

pub returns-in-Ok-replay-clause-only_reads : goal.returns-in-Ok-replay-clause-only_reads
returns-in-Ok-replay-clause-only_reads g c =
    let d = g.D.Disk in
    let k = c.replay.ensures.kept in
    reads_then d.reads d.images d.clock d.since d.tells d.faults _ _ _ c.in-Ok.ensures.only_reads (record { quiet = k.quiet; later = k.later })
