use Rattle.std.proofs.Common.{◌≡◌, ◌∙◌, Err, refl, sym, ap, arith}
use Rattle.archive_store.proofs.Telling.{entries_of-told, told_same}
use Rattle.archive_store.proofs.Histories.{documents_of}
use Rattle.archive_store.proofs.Homes.{groups_found}
use Rattle.archive_store.proofs.Keeping.{many, count}
use Rattle.archive_store.proofs.Marking.{read, misread, told_marked}
use Rattle.archive_store.proofs.store.Store.fetch.Goals as goal

-- ---- no such group

pub returns-then-id-groups-clause-unfetched : goal.returns-then-id-groups-clause-unfetched
returns-then-id-groups-clause-unfetched g c =
    rw (← c.self.view_is) (
      record { base = refl; told = refl; archive = refl },
      record { number_is = refl; groups_are = c.groups-groups.ensures.number; past = c.if-id-groups.true },
    )

-- ---- the documents

pub read_group-requires-clause-known : goal.read_group-requires-clause-known
read_group-requires-clause-known g c =
    omega (arith, c.if-id-groups.false, c.groups-groups.ensures.number, groups_found _ _ _ _ _ c.self.invariant.rows_are)

pub read_group-requires-clause-readable : goal.read_group-requires-clause-readable
read_group-requires-clause-readable g c = c.self.invariant.rows_are.readable

pub read_group-requires-clause-many : goal.read_group-requires-clause-many
read_group-requires-clause-many g c =
    λ known. many _ _ _ _ _ c.self.invariant.rows_are known ∙ sym (count _ _ _ _ _ c.self.invariant.rows_are)

pub invariant_of-self : goal.invariant_of-self
invariant_of-self g c =
    let e = c.read_group.ensures.kept in
    rw (e.lengths, e.broken) (read _ _ _ _ _ _ _ _ _ _ _ c.self.invariant _ _ _ e.later (λ known f image. (e.quiet known).no_more f image) e.payloads)

pub returns-in-Ok-clause-fetched : goal.returns-in-Ok-clause-fetched
returns-in-Ok-clause-fetched g c =
    let d = g.D.Disk in
    let i = c.self.inside in
    let all = entries_of-told d.tells i.catalogue.rows i.journal.payloads i.here i.failed in
    rw (← c.self.view_is) record {
      known = omega (arith, c.if-id-groups.false, c.groups-groups.ensures.number);
      documents = rw (all, documents_of _) c.in-Ok.ensures.group;
      untold = record { base = refl; told = told_same _ _ _ _ _ _ c.read_group.ensures.kept.payloads; archive = refl };
    }

-- ---- the disk failed

pub invariant_of-self-in-Err-DiskFault : goal.invariant_of-self-in-Err-DiskFault
invariant_of-self-in-Err-DiskFault g c =
    let e = c.read_group.ensures.kept in
    let failed : c.read_group.result ≡ Err c.in-Err-DiskFault.field-0 = c.in-Err-DiskFault.is in
    rw (e.lengths, e.broken) (misread _ _ _ _ _ _ _ _ _ _ _ c.self.invariant _ _ _ e.later (λ known f image. (e.quiet known).no_more f image) e.payloads
    _ _ c.mark.ensures.mark c.mark.ensures.cap (c.read_group.ensures.failed (failed ∙ ap Err c.in-Err-DiskFault.field-0-is)))

pub returns-in-Err-DiskFault-clause-unfetched : goal.returns-in-Err-DiskFault-clause-unfetched
returns-in-Err-DiskFault-clause-unfetched g c =
    let i = c.self.inside in
    let e = c.read_group.ensures.kept in
    let failed : c.read_group.result ≡ Err c.in-Err-DiskFault.field-0 = c.in-Err-DiskFault.is in
    rw (← c.self.view_is) record {
      known = omega (arith, c.if-id-groups.false, c.groups-groups.ensures.number);
      rose = c.read_group.ensures.failed (failed ∙ ap Err c.in-Err-DiskFault.field-0-is);
      told = rw (told_same g.D.Disk.tells i.catalogue.rows i.journal.payloads c.read_group.new.journal.payloads c.mark.new.here c.mark.new.failed e.payloads)
          (told_marked _ _ _ _ _ _ _ c.mark.ensures.mark);
      base = refl;
      archive = refl;
    }

-- ---- no memory

pub invariant_of-self-in-Err-Memory : goal.invariant_of-self-in-Err-Memory
invariant_of-self-in-Err-Memory g c =
    let e = c.read_group.ensures.kept in
    rw (e.lengths, e.broken) (read _ _ _ _ _ _ _ _ _ _ _ c.self.invariant _ _ _ e.later (λ known f image. (e.quiet known).no_more f image) e.payloads)

pub returns-in-Err-Memory-clause-unfetched : goal.returns-in-Err-Memory-clause-unfetched
returns-in-Err-Memory-clause-unfetched g c =
    rw (← c.self.view_is) record { base = refl; told = told_same _ _ _ _ _ _ c.read_group.ensures.kept.payloads; archive = refl }
