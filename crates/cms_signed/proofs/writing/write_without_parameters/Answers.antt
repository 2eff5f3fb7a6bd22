use Rattle.std.proofs.Common.{ℕ, ◌+◌, ◌≤◌, [], length, Result, Ok, Err, arith, length-append}
use Rattle.std.specs.Prelude.{vec_len, OnOk}
use Rattle.der_values.specs.Value.{value}
use Rattle.der_values.proofs.Values.{value_length}
use Rattle.cms_signed.proofs.writing.write_without_parameters.Goals as goal

bounded : {F : Type 0} (r : Result (Unit {0}) F) (new old size small : ℕ) → small ≤ size + 6 → OnOk r (new ≤ old + small + 6) → OnOk r (new ≤ old + size + 12)
bounded (Ok x) new old size small few le = omega arith
bounded (Err e) new old size small few le = tt

pub write_algorithm-requires-clause-short : goal.write_algorithm-requires-clause-short
write_algorithm-requires-clause-short c = omega (arith, length-append (value 6 c.args.oid.now) [], value_length 6 c.args.oid.now)

pub returns-clause-len : goal.returns-clause-len
returns-clause-len c =
    bounded c.write_algorithm.result _ (vec_len c.args.out.now) (length c.args.oid.now) _ (omega (arith, length-append (value 6 c.args.oid.now) [], value_length 6 c.args.oid.now)) c.write_algorithm.ensures.len
