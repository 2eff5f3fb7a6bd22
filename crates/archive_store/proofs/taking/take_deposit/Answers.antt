use Rattle.std.proofs.Common.{List, sym, ◌∙◌, ◌∷◌, ◌++◌, [], refl, ap}
use Rattle.entry_codec.specs.declared.entry.Entry.TheVariants.{Deposit}
use Rattle.archive_store.specs.declared.row.Stored.TheVariants.{OnDisk}
use Rattle.archive_store.specs.declared.row.Row.{Row}
use Rattle.archive_store.proofs.Judged.{counted, refused, deposit_taken}
use Rattle.archive_store.proofs.Refusing.{rule_no_disk}
use Rattle.archive_store.proofs.taking.take_deposit.Goals as goal

pub take_deposit-requires-clause-deposit : goal.take_deposit-requires-clause-deposit
take_deposit-requires-clause-deposit c =
    let is = c.requires.deposit in
    (is.0, is.1, rw (c.as_slice-counts.ensures, c.as_slice.ensures) (counted is.0 c.args.places is.2))

pub returns-in-Ok-take_deposit-clause-taken : goal.returns-in-Ok-take_deposit-clause-taken
returns-in-Ok-take_deposit-clause-taken c groups valid lie =
    let is = rw (← c.as_slice-counts.ensures, ← c.as_slice.ensures) at (counted groups c.args.places lie) in
    let row : Row = record { marks = 0; entry = OnDisk c.args.places } in
    deposit_taken _ _ _ groups c.args.places _ lie (c.in-Ok-take_deposit.ensures.keeps groups is) (c.in-Ok-take_deposit.ensures.takes groups is)
    (c.push.ensures ∙ ap (λ (rows : List Row). rows ++ row ∷ []) c.reserve.ensures.rows)

pub returns-in-Err-clause-not_taken : goal.returns-in-Err-clause-not_taken
returns-in-Err-clause-not_taken c tells groups valid lie documents =
    let is = rw (← c.as_slice-counts.ensures, ← c.as_slice.ensures) at (counted groups c.args.places lie) in
    rw (c.of_rule.ensures) (refused tells c.args.archive.now documents (Deposit groups) c.args.number [] c.in-Err.refusal (λ known. refl) (c.in-Err.ensures.breaks groups is))

pub returns-in-Err-clause-not_disk : goal.returns-in-Err-clause-not_disk
returns-in-Err-clause-not_disk c = λ same. rule_no_disk c.args.number c.in-Err.refusal (sym c.of_rule.ensures ∙ cc same)
