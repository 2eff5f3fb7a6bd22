use Rattle.std.proofs.Common.{◌∙◌, sym}
use Rattle.archive_store.proofs.Judged.{refused, misshapen}
use Rattle.archive_store.proofs.Refusing.{outside_not_taken}
use Rattle.archive_store.proofs.taking.take_entry.Goals as goal

-- ---- its counts, hashes or cohorts break a rule

pub returns-in-Some-clause-not_taken : goal.returns-in-Some-clause-not_taken
returns-in-Some-clause-not_taken g c =
    rw (c.of_rule.ensures) (misshapen g.D.Disk.tells c.args.archive.now _ c.args.entry.now c.args.number c.in-Some.refusal (sym c.shape.ensures ∙ c.in-Some.is))

-- ---- a group can't be read

pub returns-in-Err-clause-not_taken : goal.returns-in-Err-clause-not_taken
returns-in-Err-clause-not_taken g c = rw (c.of_outside.ensures) (outside_not_taken _ _ _ _ _ _)

-- ---- its leaves are known

pub returns-in-Ok-add-clause-taken : goal.returns-in-Ok-add-clause-taken
returns-in-Ok-add-clause-taken g c = record { leaves = c.in-Ok.leaves.items; leaves_are = c.in-Ok.ensures.leaves; taken = rw (← c.deref.ensures.value) c.in-Ok-add.ensures.taken }

pub returns-clause-not_taken : goal.returns-clause-not_taken
returns-clause-not_taken g c =
    rw (c.of_rule-in-Err-add.ensures) (refused g.D.Disk.tells c.args.archive.now _ c.args.entry.now c.args.number c.in-Ok.leaves.items c.in-Err-add.refusal c.in-Ok.ensures.leaves
    (rw (← c.deref.ensures.value) c.in-Err-add.ensures.breaks))
