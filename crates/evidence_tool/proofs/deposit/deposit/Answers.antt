use Rattle.std.proofs.Common.{refl, sym, ap, ◌∙◌, subst}
use Rattle.entry_codec.specs.declared.entry.Entry.{Entry}
use Rattle.entry_codec.specs.Spelling.{IsEntry}
use Rattle.archive_chain.specs.Kept.{groups_of}
use Rattle.archive_chain.specs.Held.{Held, leaf_count}
use Rattle.evidence_tool.proofs.AnsweringLemmas.{done_of, undone_of, step_answerable, step_unmet}
use Rattle.evidence_tool.proofs.StopLemmas.{moment_of, met_stops, unmet_stops, no_step, quiet_same}
use Rattle.evidence_tool.proofs.deposit.deposit.Goals as goal

pub step-requires-clause-spelled : goal.step-requires-clause-spelled
step-requires-clause-spelled g c = subst IsEntry (sym c.in-Ok.ensures.entry) c.in-Ok.ensures.valid

pub step-requires-clause-leaves : goal.step-requires-clause-leaves
step-requires-clause-leaves g c = λ fits. ap (λ (e : Entry). leaf_count c.args.store.now.archive.kept e) (sym c.in-Ok.ensures.entry)

pub step-requires-clause-true_leaves : goal.step-requires-clause-true_leaves
step-requires-clause-true_leaves g c = λ told fits. rw c.in-Ok.ensures.entry refl

pub returns-in-Ok-step-clause-answer : goal.returns-in-Ok-step-clause-answer
returns-in-Ok-step-clause-answer g c =
    let done = done_of g.D.Disk.tells g.D.Disk.images g.D.Disk.faults c.args.store.now c.step.new.self c.args.document.now _ _ _ c.in-Ok.ensures.entry refl c.in-Ok-step.ensures.done in
    record {
      cause = (done, c.groups-first.ensures.number ∙ ap (λ (held : Held). groups_of held.kept) c.archive.ensures.archive, refl);
      place = done.number_is;
      later = c.step.ensures.later;
    }

pub returns-in-Ok-step-clause-stops : goal.returns-in-Ok-step-clause-stops
returns-in-Ok-step-clause-stops g c = λ told.
    let d = g.D.Disk in
    met_stops d.tells d.reads d.images d.clock d.since d.faults c.args.store.now c.step.new.self c.args.document.now
    (moment_of d.tells d.clock d.since c.args.store.now c.step.new.self c.args.document.now _ c.in-Ok.ensures.entry c.step.ensures.any_moment)
    (λ f left. g.met.D.Disk.only_now c.args.store.now.disk f told left) told c.in-Ok-step.number c.groups-first.result
    (done_of d.tells d.images d.faults c.args.store.now c.step.new.self c.args.document.now _ _ _ c.in-Ok.ensures.entry refl c.in-Ok-step.ensures.done)

pub reply_to-requires : goal.reply_to-requires
reply_to-requires g c =
    let d = g.D.Disk in
    step_answerable d.tells d.images d.faults c.args.store.now c.step.new.self c.args.document.now c.in-Err.fault
    (undone_of d.tells d.images d.faults c.args.store.now c.step.new.self c.args.document.now _ _ _ c.in-Ok.ensures.entry refl c.in-Err.ensures.undone)

pub returns-clause-answer : goal.returns-clause-answer
returns-clause-answer g c =
    let d = g.D.Disk in
    rw c.reply_to.ensures
    (step_unmet d.tells d.images d.faults c.args.store.now c.step.new.self c.args.document.now c.place_in-place.result c.in-Err.fault c.place_in-place.ensures c.step.ensures.later
    (undone_of d.tells d.images d.faults c.args.store.now c.step.new.self c.args.document.now _ _ _ c.in-Ok.ensures.entry refl c.in-Err.ensures.undone))

pub returns-clause-stops : goal.returns-clause-stops
returns-clause-stops g c = λ told.
    let d = g.D.Disk in
    rw c.reply_to.ensures
    (unmet_stops d.tells d.reads d.images d.clock d.since d.faults c.args.store.now c.step.new.self c.args.document.now
    (moment_of d.tells d.clock d.since c.args.store.now c.step.new.self c.args.document.now _ c.in-Ok.ensures.entry c.step.ensures.any_moment)
    (λ f left. g.met.D.Disk.only_now c.args.store.now.disk f told left) told c.place_in-place.result c.in-Err.fault
    (undone_of d.tells d.images d.faults c.args.store.now c.step.new.self c.args.document.now _ _ _ c.in-Ok.ensures.entry refl c.in-Err.ensures.undone))

pub returns-in_default-clause-stops : goal.returns-in_default-clause-stops
returns-in_default-clause-stops g c = λ told.
    let d = g.D.Disk in
    no_step d.reads d.images d.clock d.since c.args.store.now.disk c.args.store.now.disk _
    (quiet_same d.reads d.images d.clock d.since c.args.store.now.disk c.args.store.now.disk refl (λ f left. g.met.D.Disk.only_now c.args.store.now.disk f told left))
