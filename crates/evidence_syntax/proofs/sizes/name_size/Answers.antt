use Rattle.std.proofs.Common.{arith, length, length-append}
use Rattle.std.specs.Option.{option_map}
use Rattle.der_values.specs.Value.{value, bytes_or_none}
use Rattle.der_values.proofs.Lengths.{content_shorter}
use Rattle.evidence_syntax.proofs.SizeLemmas.{too_long, same_size, name_size}
use Rattle.evidence_syntax.proofs.sizes.name_size.Goals as goal

pub returns-in_err-size_of : goal.returns-in_err-size_of
returns-in_err-size_of c =
    let oid = c.args.name.now.oid.now in
    let params = bytes_or_none (option_map (λ b. b.now) c.args.name.now.params) in
    too_long (length oid) _ _ (omega (arith, content_shorter 6 oid, length-append (value 6 oid) params)) c.in_err-size_of.ensures c.from_residual-in_err-size_of.ensures

pub returns : goal.returns
returns c =
    let oid = c.args.name.now.oid.now in
    let params = bytes_or_none (option_map (λ b. b.now) c.args.name.now.params) in
    same_size _ _ _ (name_size oid params _ _ c.in_ok-size_or_none.ensures.1 c.in_ok-size_of.ensures.1) c.with_value.ensures
