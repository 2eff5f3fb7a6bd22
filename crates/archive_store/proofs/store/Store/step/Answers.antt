use Rattle.std.proofs.Common.{refl, sym, ap, subst, ◌≡◌, ◌∙◌, ◌++◌, ◌∷◌, [], List, ℕ, IsTrue, arith, inr, is_some, length, false}
use Rattle.std.proofs.lemmas.List.{length-map}
use Rattle.gate_journal.specs.Journal.{Reads}
use Rattle.gate_journal.specs.Appending.{IsNotAdded, IsAppendRefused, IsBrokenBy}
use Rattle.gate_journal.specs.declared.fault.JournalFault.{JournalFault}
use Rattle.gate_journal.specs.declared.fault.JournalFault.TheVariants as journal
use Rattle.entry_codec.specs.Spelling.{entry_spelling}
use Rattle.archive_chain.specs.declared.refusal.Refusal.TheVariants as rule
use Rattle.archive_chain.specs.declared.refusal.Full.TheVariants as full
use Rattle.archive_chain.specs.Held.{Readied, Takes}
use Rattle.archive_store.specs.Store.{Telling}
use Rattle.archive_store.specs.Rows.{told_of}
use Rattle.archive_store.specs.InsideRows.{entries_at}
use Rattle.archive_store.proofs.Telling.{closed-told, entries_of-told, count_entries}
use Rattle.archive_store.proofs.Short.{short}
use Rattle.archive_store.proofs.Few.{few_cohorts}
use Rattle.archive_store.proofs.Keeping.{takes_before}
use Rattle.archive_store.proofs.Fields.{store_of, idle, as_open, none_of, history_left, no_moment, few_kept, few_grouped, unready, reads_as, true_leaves, left_one, moment, told_then, done, told_torn, torn, fits, passes, full_or_failed}
use Rattle.archive_store.proofs.store.Store.step.Goals as goal

pub reserve-requires-clause-few : goal.reserve-requires-clause-few
reserve-requires-clause-few g c = few_kept _ _ _ _ _ _ _ _ _ _ _ c.self.invariant

pub reserve-requires-clause-leaves : goal.reserve-requires-clause-leaves
reserve-requires-clause-leaves g c = rw (ap (λ (t : Telling _). t.archive.kept) c.self.view_is) c.requires.leaves

-- ---- not ready

pub invariant_of-self : goal.invariant_of-self
invariant_of-self g c = idle _ _ _ _ _ _ _ _ _ _ _ c.self.invariant _ c.reserve.ensures.before

pub returns-in-Err-clause-undone : goal.returns-in-Err-clause-undone
returns-in-Err-clause-undone g c =
    rw (← c.self.view_is) (unready _ _ _ _ _ _ _ _ (record { disk = refl; base = refl; told = refl; archive = c.reserve.ensures.before }) c.in-Err.ensures.unready)

pub returns-in-Err-clause-any_moment : goal.returns-in-Err-clause-any_moment
returns-in-Err-clause-any_moment g c =
    let d = g.D.Disk in
    rw (← c.self.view_is) (λ known not. no_moment d.tells d.images d.clock d.since _ _ _ _ _ _ (store_of _ _ _ _ _ _ _ _ _ _ _ c.self.invariant)
    (λ f left. g.met.D.Disk.only_now _ f known left) known not)

-- ---- closed

pub invariant_of-self-then-is_some : goal.invariant_of-self-then-is_some
invariant_of-self-then-is_some g c = idle _ _ _ _ _ _ _ _ _ _ _ c.self.invariant _ c.reserve.ensures.before

pub returns-then-is_some-clause-undone : goal.returns-then-is_some-clause-undone
returns-then-is_some-clause-undone g c =
    let d = g.D.Disk in
    let i = c.self.inside in
    rw (← c.self.view_is) (
      record { disk = refl; base = refl; told = refl; archive = c.reserve.ensures.before },
      record {
        keeps = c.in-Ok.ensures.keeps;
        closed = closed-told d.tells i.catalogue.rows i.journal.payloads i.here i.failed ∙ sym c.is_some.ensures ∙ c.if-is_some.true;
        place_is = c.len-place.ensures
            ∙ sym (ap length (entries_of-told d.tells i.catalogue.rows i.journal.payloads i.here i.failed) ∙ count_entries d.tells i.catalogue.rows i.journal.payloads);
      },
    )

pub returns-then-is_some-clause-any_moment : goal.returns-then-is_some-clause-any_moment
returns-then-is_some-clause-any_moment g c =
    let d = g.D.Disk in
    rw (← c.self.view_is) (λ known not. no_moment d.tells d.images d.clock d.since _ _ _ _ _ _ (store_of _ _ _ _ _ _ _ _ _ _ _ c.self.invariant)
    (λ f left. g.met.D.Disk.only_now _ f known left) known not)

-- ---- no memory

pub invariant_of-self-in_default : goal.invariant_of-self-in_default
invariant_of-self-in_default g c =
    let p = c.prepare.ensures in
    rw (p.disk, p.lengths, p.payloads, p.broken, p.rows) (idle _ _ _ _ _ _ _ _ _ _ _ c.self.invariant _ c.reserve.ensures.before)

pub returns-in_default-clause-undone : goal.returns-in_default-clause-undone
returns-in_default-clause-undone g c =
    let p = c.prepare.ensures in
    rw (← c.self.view_is) record { disk = p.disk; base = refl; told = rw (p.rows, p.payloads) refl; archive = c.reserve.ensures.before }

pub returns-in_default-clause-any_moment : goal.returns-in_default-clause-any_moment
returns-in_default-clause-any_moment g c =
    let d = g.D.Disk in
    rw (← c.self.view_is, c.prepare.ensures.disk)
    (λ known not. no_moment d.tells d.images d.clock d.since _ _ _ _ _ _ (store_of _ _ _ _ _ _ _ _ _ _ _ c.self.invariant)
    (λ f left. g.met.D.Disk.only_now _ f known left) known not)

pub returns-in_default-clause-later : goal.returns-in_default-clause-later
returns-in_default-clause-later g c = rw (← c.self.view_is, c.prepare.ensures.disk) (omega arith)

pub append-requires-clause-size : goal.append-requires-clause-size
append-requires-clause-size g c =
    omega (
      arith,
      ap length (c.deref.ensures.value ∙ c.in-Ok-prepare.ensures.payload),
      short c.args.entry.now c.requires.spelled
          (few_cohorts c.self.inside.archive.kept c.args.entry.now c.requires.spelled (few_grouped _ _ _ _ _ _ _ _ _ _ _ c.self.invariant) c.in-Ok.ensures.keeps.0),
    )

pub push-requires-clause-few : goal.push-requires-clause-few
push-requires-clause-few g c = omega (arith, c.self.invariant.few, ap length c.prepare.ensures.rows)

-- ---- done

pub invariant_of-self-in-Ok-append : goal.invariant_of-self-in-Ok-append
invariant_of-self-in-Ok-append g c =
    let d = g.D.Disk in
    let i = c.self.inside in
    let e = c.args.entry.now in
    let p = c.prepare.ensures in
    let all = entries_of-told d.tells i.catalogue.rows i.journal.payloads i.here i.failed in
    let no : is_some i.failed ≡ false = sym c.is_some.ensures ∙ c.if-is_some.false in
    let is = as_open _ _ _ _ _ _ _ _ _ _ _ no c.self.invariant in
    let are = true_leaves d.tells _ _ e c.args.leaves.now _ c.self.view_is all c.requires.true_leaves c.in-Ok.ensures.keeps in
    let text : c.deref.result.now ≡ entry_spelling e = c.deref.ensures.value ∙ c.in-Ok-prepare.ensures.payload in
    let a = c.in-Ok-append.ensures.added in
    let lengths = a.lengths ∙ ap (λ (l : List ℕ). l ++ length c.deref.result.now ∷ []) p.lengths ∙ ap (λ (t : List ℕ). i.journal.lengths ++ length t ∷ []) text in
    let more = λ (known : IsTrue d.tells). a.payloads known ∙ ap (λ (l : List (List ℕ)). l ++ c.deref.result.now ∷ []) p.payloads ∙ ap (λ (t : List ℕ). i.journal.payloads ++ t ∷ []) text in
    let takes = takes_before _ _ _ _ _ c.reserve.ensures.before (subst (λ (r : Readied). Takes c.reserve.new.archive r.entry r.leaves c.commit.new.self) c.in-Ok.ensures.ready c.commit.ensures.takes) in
    rw (none_of i.failed no, a.still_open, c.push.ensures, p.rows)
    (done _ _ _ _ _ _ _ _ _ _ is e c.args.leaves.now c.requires.spelled c.in-Ok.ensures.keeps are
    (d.images c.append.new.self.disk) (d.faults c.append.new.self.disk) c.commit.new.self c.append.new.self.lengths c.append.new.self.payloads c.in-Ok-prepare.field-0.stored c.in-Ok-prepare.ensures.stored
    lengths more takes
    (omega (arith, c.frames.ensures.count, c.frames.ensures.few)) (omega (arith, ap d.faults p.disk, c.append.ensures.later))
    (λ known f image. subst (λ (b : List ℕ). Reads b c.append.new.self.payloads) (sym (a.durable known f image)) (a.frames known)))

pub returns-in-Ok-append-clause-done : goal.returns-in-Ok-append-clause-done
returns-in-Ok-append-clause-done g c =
    let d = g.D.Disk in
    let i = c.self.inside in
    let e = c.args.entry.now in
    let p = c.prepare.ensures in
    let all = entries_of-told d.tells i.catalogue.rows i.journal.payloads i.here i.failed in
    let no : is_some i.failed ≡ false = sym c.is_some.ensures ∙ c.if-is_some.false in
    let is = as_open _ _ _ _ _ _ _ _ _ _ _ no c.self.invariant in
    let are = true_leaves d.tells _ _ e c.args.leaves.now _ c.self.view_is all c.requires.true_leaves c.in-Ok.ensures.keeps in
    let text : c.deref.result.now ≡ entry_spelling e = c.deref.ensures.value ∙ c.in-Ok-prepare.ensures.payload in
    let a = c.in-Ok-append.ensures.added in
    let lengths = a.lengths ∙ ap (λ (l : List ℕ). l ++ length c.deref.result.now ∷ []) p.lengths ∙ ap (λ (t : List ℕ). i.journal.lengths ++ length t ∷ []) text in
    let more = λ (known : IsTrue d.tells). a.payloads known ∙ ap (λ (l : List (List ℕ)). l ++ c.deref.result.now ∷ []) p.payloads ∙ ap (λ (t : List ℕ). i.journal.payloads ++ t ∷ []) text in
    let takes = takes_before _ _ _ _ _ c.reserve.ensures.before (subst (λ (r : Readied). Takes c.reserve.new.archive r.entry r.leaves c.commit.new.self) c.in-Ok.ensures.ready c.commit.ensures.takes) in
    let inv = invariant_of-self-in-Ok-append g c in
    rw (← c.self.view_is) record {
      may_follow = record {
        keeps = c.in-Ok.ensures.keeps;
        not_closed = closed-told d.tells i.catalogue.rows i.journal.payloads i.here i.failed ∙ no;
        fits = fits _ (told_of d.tells i.catalogue.rows i.journal.payloads i.here i.failed) (entries_at d.tells i.catalogue.rows i.journal.payloads) e c.deref.result.now all (p.lengths ∙ c.self.invariant.rows_are.sizes) text a.not_refused;
      };
      number_is = a.number_is ∙ ap length (p.lengths ∙ c.self.invariant.rows_are.sizes) ∙ length-map _ _ ∙ sym (ap length all);
      told = rw (none_of i.failed no, c.push.ensures, p.rows)
          (told_then _ _ _ _ _ _ _ _ _ _ is e c.args.leaves.now c.requires.spelled c.in-Ok.ensures.keeps are
          (d.images c.append.new.self.disk) (d.faults c.append.new.self.disk) c.commit.new.self c.append.new.self.lengths c.append.new.self.payloads c.in-Ok-prepare.field-0.stored c.in-Ok-prepare.ensures.stored
          lengths more);
      takes = takes;
      base = refl;
      durable = λ known f image. history_left _ _ _ (closed-told d.tells c.push.new.self.rows c.append.new.self.payloads 0 i.failed ∙ no)
          ((store_of _ _ _ _ _ _ _ _ _ _ _ inv).left known f image);
    }

pub returns-in-Ok-append-clause-any_moment : goal.returns-in-Ok-append-clause-any_moment
returns-in-Ok-append-clause-any_moment g c =
    let d = g.D.Disk in
    let i = c.self.inside in
    let e = c.args.entry.now in
    let p = c.prepare.ensures in
    let all = entries_of-told d.tells i.catalogue.rows i.journal.payloads i.here i.failed in
    let no : is_some i.failed ≡ false = sym c.is_some.ensures ∙ c.if-is_some.false in
    let is = as_open _ _ _ _ _ _ _ _ _ _ _ no c.self.invariant in
    let are = true_leaves d.tells _ _ e c.args.leaves.now _ c.self.view_is all c.requires.true_leaves c.in-Ok.ensures.keeps in
    let text : c.deref.result.now ≡ entry_spelling e = c.deref.ensures.value ∙ c.in-Ok-prepare.ensures.payload in
    let not_broken = p.broken ∙ c.self.invariant.broken_is ∙ no in
    rw (← c.self.view_is, none_of i.failed no) (λ known not. moment _ _ _ _ _ _ _ _ _ _ is e c.args.leaves.now c.requires.spelled c.in-Ok.ensures.keeps are
    d.clock d.since _ _ _ _ _ p.disk p.payloads text known (c.append.ensures.any_moment known not_broken))

pub returns-in-Ok-append-clause-later : goal.returns-in-Ok-append-clause-later
returns-in-Ok-append-clause-later g c = rw (← c.self.view_is) (omega (arith, ap g.D.Disk.faults c.prepare.ensures.disk, c.append.ensures.later))

-- ---- the journal is full

pub invariant_of-self-in-Full : goal.invariant_of-self-in-Full
invariant_of-self-in-Full g c =
    let d = g.D.Disk in
    let p = c.prepare.ensures in
    let r : IsAppendRefused c.prepare.new.journal c.deref.result.now (journal.Full c.in-Full.size) c.append.new.self =
    subst (λ (f : JournalFault). IsNotAdded d.tells d.reads d.faults c.prepare.new.journal c.deref.result.now f c.append.new.self) c.in-Full.is c.in-Err-append.ensures.refused in
    rw (r.same, p.disk, p.lengths, p.payloads, p.broken, p.rows) (idle _ _ _ _ _ _ _ _ _ _ _ c.self.invariant _ c.reserve.ensures.before)

pub returns-in-Full-clause-undone : goal.returns-in-Full-clause-undone
returns-in-Full-clause-undone g c =
    let d = g.D.Disk in
    let i = c.self.inside in
    let e = c.args.entry.now in
    let p = c.prepare.ensures in
    let all = entries_of-told d.tells i.catalogue.rows i.journal.payloads i.here i.failed in
    let no : is_some i.failed ≡ false = sym c.is_some.ensures ∙ c.if-is_some.false in
    let is = as_open _ _ _ _ _ _ _ _ _ _ _ no c.self.invariant in
    let are = true_leaves d.tells _ _ e c.args.leaves.now _ c.self.view_is all c.requires.true_leaves c.in-Ok.ensures.keeps in
    let text : c.deref.result.now ≡ entry_spelling e = c.deref.ensures.value ∙ c.in-Ok-prepare.ensures.payload in
    let r : IsAppendRefused c.prepare.new.journal c.deref.result.now (journal.Full c.in-Full.size) c.append.new.self =
    subst (λ (f : JournalFault). IsNotAdded d.tells d.reads d.faults c.prepare.new.journal c.deref.result.now f c.append.new.self) c.in-Full.is c.in-Err-append.ensures.refused in
    let past = passes _ (told_of d.tells i.catalogue.rows i.journal.payloads i.here i.failed) (entries_at d.tells i.catalogue.rows i.journal.payloads) e c.deref.result.now all (p.lengths ∙ c.self.invariant.rows_are.sizes) text c.in-Full.size r.first in
    rw (← c.self.view_is) (
      record {
        disk = ap (λ v. v.disk) r.same ∙ p.disk;
        base = refl;
        told = rw (ap (λ v. v.payloads) r.same ∙ p.payloads, p.rows) refl;
        archive = c.reserve.ensures.before;
      },
      inr (record {
        keeps = c.in-Ok.ensures.keeps;
        not_closed = closed-told d.tells i.catalogue.rows i.journal.payloads i.here i.failed ∙ no;
        past = past.1;
        is = ap (λ (n : ℕ). rule.Limit (full.Journal n)) past.0;
      }),
    )

pub returns-in-Full-clause-any_moment : goal.returns-in-Full-clause-any_moment
returns-in-Full-clause-any_moment g c =
    let d = g.D.Disk in
    let r : IsAppendRefused c.prepare.new.journal c.deref.result.now (journal.Full c.in-Full.size) c.append.new.self =
    subst (λ (f : JournalFault). IsNotAdded d.tells d.reads d.faults c.prepare.new.journal c.deref.result.now f c.append.new.self) c.in-Full.is c.in-Err-append.ensures.refused in
    rw (← c.self.view_is, ap (λ v. v.disk) r.same ∙ c.prepare.ensures.disk)
    (λ known not. no_moment d.tells d.images d.clock d.since _ _ _ _ _ _ (store_of _ _ _ _ _ _ _ _ _ _ _ c.self.invariant)
    (λ f left. g.met.D.Disk.only_now _ f known left) known not)

pub returns-in-Full-clause-later : goal.returns-in-Full-clause-later
returns-in-Full-clause-later g c = rw (← c.self.view_is) (omega (arith, ap g.D.Disk.faults c.prepare.ensures.disk, c.append.ensures.later))

-- ---- the disk failed

pub invariant_of-self-in-DiskFault : goal.invariant_of-self-in-DiskFault
invariant_of-self-in-DiskFault g c =
    let d = g.D.Disk in
    let i = c.self.inside in
    let e = c.args.entry.now in
    let p = c.prepare.ensures in
    let all = entries_of-told d.tells i.catalogue.rows i.journal.payloads i.here i.failed in
    let no : is_some i.failed ≡ false = sym c.is_some.ensures ∙ c.if-is_some.false in
    let is = as_open _ _ _ _ _ _ _ _ _ _ _ no c.self.invariant in
    let are = true_leaves d.tells _ _ e c.args.leaves.now _ c.self.view_is all c.requires.true_leaves c.in-Ok.ensures.keeps in
    let text : c.deref.result.now ≡ entry_spelling e = c.deref.ensures.value ∙ c.in-Ok-prepare.ensures.payload in
    let not_broken = p.broken ∙ c.self.invariant.broken_is ∙ no in
    let b : IsBrokenBy d.tells d.reads d.faults c.prepare.new.journal c.deref.result.now c.append.new.self =
    subst (λ (f : JournalFault). IsNotAdded d.tells d.reads d.faults c.prepare.new.journal c.deref.result.now f c.append.new.self) c.in-DiskFault.is c.in-Err-append.ensures.refused in
    rw (b.lengths ∙ p.lengths, b.broken, p.rows)
    (torn _ _ _ _ _ _ _ _ _ _ is e c.args.leaves.now c.requires.spelled c.in-Ok.ensures.keeps are
    (d.images c.append.new.self.disk) (d.faults c.append.new.self.disk) c.reserve.new.archive c.append.new.self.payloads
    (λ known. b.payloads known ∙ p.payloads) c.reserve.ensures.before
    (omega (arith, ap d.faults p.disk, c.append.ensures.later)) (rw (← p.disk) b.rose)
    (λ known f image. reads_as f _ _ _ _ p.payloads text (c.append.ensures.left known not_broken f image)))

pub returns-in-DiskFault-clause-undone : goal.returns-in-DiskFault-clause-undone
returns-in-DiskFault-clause-undone g c =
    let d = g.D.Disk in
    let i = c.self.inside in
    let e = c.args.entry.now in
    let p = c.prepare.ensures in
    let all = entries_of-told d.tells i.catalogue.rows i.journal.payloads i.here i.failed in
    let no : is_some i.failed ≡ false = sym c.is_some.ensures ∙ c.if-is_some.false in
    let is = as_open _ _ _ _ _ _ _ _ _ _ _ no c.self.invariant in
    let are = true_leaves d.tells _ _ e c.args.leaves.now _ c.self.view_is all c.requires.true_leaves c.in-Ok.ensures.keeps in
    let text : c.deref.result.now ≡ entry_spelling e = c.deref.ensures.value ∙ c.in-Ok-prepare.ensures.payload in
    let not_broken = p.broken ∙ c.self.invariant.broken_is ∙ no in
    let b : IsBrokenBy d.tells d.reads d.faults c.prepare.new.journal c.deref.result.now c.append.new.self =
    subst (λ (f : JournalFault). IsNotAdded d.tells d.reads d.faults c.prepare.new.journal c.deref.result.now f c.append.new.self) c.in-DiskFault.is c.in-Err-append.ensures.refused in
    rw (← c.self.view_is) record {
      may_follow = record {
        keeps = c.in-Ok.ensures.keeps;
        not_closed = closed-told d.tells i.catalogue.rows i.journal.payloads i.here i.failed ∙ no;
        fits = fits _ (told_of d.tells i.catalogue.rows i.journal.payloads i.here i.failed) (entries_at d.tells i.catalogue.rows i.journal.payloads) e c.deref.result.now all (p.lengths ∙ c.self.invariant.rows_are.sizes) text b.not_refused;
      };
      rose = rw (← p.disk) b.rose;
      told = rw (none_of i.failed no, p.rows) (told_torn _ _ _ _ _ _ _ _ _ _ is e c.args.leaves.now c.requires.spelled c.in-Ok.ensures.keeps are
          c.append.new.self.payloads (λ known. b.payloads known ∙ p.payloads));
      base = refl;
      archive = c.reserve.ensures.before;
      left = λ known f image. rw (all) (left_one _ _ _ _ _ _ _ _ _ _ is e c.args.leaves.now c.requires.spelled c.in-Ok.ensures.keeps are known f
          (reads_as f _ _ _ _ p.payloads text (c.append.ensures.left known not_broken f image)));
    }

pub returns-in-DiskFault-clause-any_moment : goal.returns-in-DiskFault-clause-any_moment
returns-in-DiskFault-clause-any_moment g c =
    let d = g.D.Disk in
    let i = c.self.inside in
    let e = c.args.entry.now in
    let p = c.prepare.ensures in
    let all = entries_of-told d.tells i.catalogue.rows i.journal.payloads i.here i.failed in
    let no : is_some i.failed ≡ false = sym c.is_some.ensures ∙ c.if-is_some.false in
    let is = as_open _ _ _ _ _ _ _ _ _ _ _ no c.self.invariant in
    let are = true_leaves d.tells _ _ e c.args.leaves.now _ c.self.view_is all c.requires.true_leaves c.in-Ok.ensures.keeps in
    let text : c.deref.result.now ≡ entry_spelling e = c.deref.ensures.value ∙ c.in-Ok-prepare.ensures.payload in
    let not_broken = p.broken ∙ c.self.invariant.broken_is ∙ no in
    rw (← c.self.view_is, none_of i.failed no) (λ known not. moment _ _ _ _ _ _ _ _ _ _ is e c.args.leaves.now c.requires.spelled c.in-Ok.ensures.keeps are
    d.clock d.since _ _ _ _ _ p.disk p.payloads text known (c.append.ensures.any_moment known not_broken))

pub returns-in-DiskFault-clause-later : goal.returns-in-DiskFault-clause-later
returns-in-DiskFault-clause-later g c = rw (← c.self.view_is) (omega (arith, ap g.D.Disk.faults c.prepare.ensures.disk, c.append.ensures.later))

-- ---- a whole journal refuses an append for no other fault

pub unreachable-requires : goal.unreachable-requires
unreachable-requires g c =
    let d = g.D.Disk in
    let i = c.self.inside in
    let no : is_some i.failed ≡ false = sym c.is_some.ensures ∙ c.if-is_some.false in
    full_or_failed d.tells d.reads d.faults c.prepare.new.journal c.deref.result.now c.in-Err-append.fault c.append.new.self
    (c.prepare.ensures.broken ∙ c.self.invariant.broken_is ∙ no) c.in-Err-append.ensures.refused c.in_default-fault.not-Full c.in_default-fault.not-DiskFault
