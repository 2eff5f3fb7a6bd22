use Rattle.std.proofs.Common.{List, ℕ, ap, sym, ◌∙◌, Ok}
use Rattle.entry_codec.specs.declared.entry.Entry.TheVariants.{Deposit}
use Rattle.entry_codec.proofs.Lying.{deposit_lies}
use Rattle.entry_codec.proofs.reading.deposit.Goals as goal

pub groups_at-requires : goal.groups_at-requires
groups_at-requires c =
    let deposit = c.in_ok-places.ensures.ok in
    (deposit_lies c.args.bytes.now c.args.payload.now c.deposit_places.new.payload deposit.0 c.in_ok-places.places c.requires.bytes deposit.1 deposit.2).1

pub returns-clause-ok : goal.returns-clause-ok
returns-clause-ok c =
    let deposit = c.in_ok-places.ensures.ok in
    let are = (deposit_lies c.args.bytes.now c.args.payload.now c.deposit_places.new.payload deposit.0 c.in_ok-places.places c.requires.bytes deposit.1 deposit.2).0 in
    deposit.1 ∙ ap (λ (gs : List (List (List ℕ))). Ok (Deposit gs, c.deposit_places.new.payload)) (sym (c.in_ok-groups.ensures ∙ are))
