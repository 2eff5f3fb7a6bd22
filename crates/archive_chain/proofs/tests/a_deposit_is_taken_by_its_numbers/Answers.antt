use Rattle.std.proofs.Common.{[], ◌∷◌, refl, arith}
use Rattle.archive_chain.proofs.tests.a_deposit_is_taken_by_its_numbers.Goals as goal

pub take_deposit-taken-requires-clause-deposit : goal.take_deposit-taken-requires-clause-deposit
take_deposit-taken-requires-clause-deposit c c' = (
  ((97 ∷ 98 ∷ []) ∷ []) ∷ [],
  record {
    some = omega arith;
    few = omega arith;
    each = (record { some = omega arith; few = omega arith; short = (omega arith, tt); together = omega arith }, tt);
    together = omega arith;
  },
  record { groups_are = refl; documents_are = refl; bytes_are = refl },
)
