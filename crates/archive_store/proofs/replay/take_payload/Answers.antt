use Rattle.std.proofs.lemmas.Result.{IfErr-weaker, on_ok_weaker}
use Rattle.archive_store.proofs.Judged.{bad_payload, not_next, deposit_next}
use Rattle.archive_store.proofs.replay.take_payload.Goals as goal

-- ---- a deposit

pub take_deposit-requires-clause-deposit : goal.take_deposit-requires-clause-deposit
take_deposit-requires-clause-deposit g c =
    let is = rw c.in-Ok-Some.field-0-is at c.in-Ok-Some.ensures.places in
    (is.groups, is.valid, is.lie)

pub returns-in-Ok-Some-clause-next : goal.returns-in-Ok-Some-clause-next
returns-in-Ok-Some-clause-next g c =
    let is = rw c.in-Ok-Some.field-0-is at c.in-Ok-Some.ensures.places in
    on_ok_weaker c.take_deposit.result (deposit_next _ _ _ _ _ is.groups _ _ is.valid is.is) (c.take_deposit.ensures.taken is.groups is.valid is.lie)

pub returns-in-Ok-Some-clause-not_next : goal.returns-in-Ok-Some-clause-not_next
returns-in-Ok-Some-clause-not_next g c =
    let is = rw c.in-Ok-Some.field-0-is at c.in-Ok-Some.ensures.places in
    IfErr-weaker c.take_deposit.result _ _ (λ f not. not_next _ _ _ _ _ _ f is.valid is.is not) (c.take_deposit.ensures.not_taken g.D.Disk.tells is.groups is.valid is.lie _)

pub returns-in-Ok-Some-clause-failed : goal.returns-in-Ok-Some-clause-failed
returns-in-Ok-Some-clause-failed g c = λ same. absurd (c.take_deposit.ensures.not_disk same)

-- ---- another kind

pub returns-in-Ok-clause-next : goal.returns-in-Ok-clause-next
returns-in-Ok-clause-next g c =
    let is = c.in-Ok.ensures.spelled in
    on_ok_weaker c.take_entry.result (λ taken. record { entry = c.in-Ok.other; spelled = is.0; is = is.1; taken = taken }) c.take_entry.ensures.taken

pub returns-in-Ok-clause-not_next : goal.returns-in-Ok-clause-not_next
returns-in-Ok-clause-not_next g c =
    let is = c.in-Ok.ensures.spelled in
    IfErr-weaker c.take_entry.result _ _ (λ f not. not_next _ _ _ _ _ _ f is.0 is.1 not) c.take_entry.ensures.not_taken

-- ---- no entry

pub returns-in-Err-read_entry-clause-not_next : goal.returns-in-Err-read_entry-clause-not_next
returns-in-Err-read_entry-clause-not_next g c =
    rw (c.of_entry.ensures) (bad_payload g.D.Disk.tells c.args.archive.now _ c.args.payload.now c.args.entry c.in-Err-read_entry.fault c.in-Err-read_entry.ensures.fault)

pub returns-in-Err-clause-not_next : goal.returns-in-Err-clause-not_next
returns-in-Err-clause-not_next g c =
    rw (c.of_entry-in-Err.ensures) (bad_payload g.D.Disk.tells c.args.archive.now _ c.args.payload.now c.args.entry c.in-Err.fault c.in-Err.ensures.fault)
