use Rattle.std.proofs.Common.{length, ◌-◌, refl, arith}
use Rattle.std.proofs.lemmas.List.{length-take}
use Rattle.der_values.proofs.Octets.{IsBytes}
use Rattle.der_values.proofs.Values.{whole_spells, front_is, begins_with, begins_not, err_not_ok}
use Rattle.der_values.proofs.header.split_value.Goals as goal

pub returns-in_err-tag-clause-exactly : goal.returns-in_err-tag-clause-exactly
returns-in_err-tag-clause-exactly c = (λ ok. absurd (err_not_ok c.from_residual.result c.from_residual.ensures.0 ok), λ begins. absurd (begins_not c.args.place c.args.bytes.now _ c.in_err-tag.ensures.read begins))

pub returns-clause-exactly : goal.returns-clause-exactly
returns-clause-exactly c =
    let fits : IsBytes c.args.bytes.now = λ i. omega (arith, c.type_inv.bytes i) in
    (λ ok. begins_with c.args.place c.args.bytes.now _ c.in_ok-tag.rest.now fits c.in_ok-tag.ensures.read, λ begins. refl)

pub returns-clause-value : goal.returns-clause-value
returns-clause-value c =
    let fits : IsBytes c.args.bytes.now = λ i. omega (arith, c.type_inv.bytes i) in
    record {
      whole = whole_spells c.args.place c.args.bytes.now _ c.in_ok-tag.rest.now fits c.in_ok-tag.ensures.read;
      room = omega (arith, length-take (length c.args.bytes.now - length c.in_ok-tag.rest.now) c.args.bytes.now);
    }

pub returns-clause-front : goal.returns-clause-front
returns-clause-front c =
    let fits : IsBytes c.args.bytes.now = λ i. omega (arith, c.type_inv.bytes i) in
    front_is c.args.place c.args.bytes.now _ c.in_ok-tag.rest.now fits c.in_ok-tag.ensures.read
