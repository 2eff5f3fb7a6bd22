use Rattle.std.proofs.Common.{◌≡◌, sym, subst}
use Rattle.std.specs.Prelude.{MatchOption, slice_get, Option, Some, false}
use Rattle.archive_chain.specs.Kept.{has_name}
use Rattle.archive_chain.proofs.Finding.{found}
use Rattle.archive_chain.proofs.cohort.find.Goals as goal

pub returns : goal.returns
returns c =
    subst (λ (o : Option _). MatchOption o (has_name c.args.numbers.now c.args.number ≡ false) (λ place. slice_get c.args.numbers.now place ≡ Some c.args.number)) (sym c.ok.ensures.value)
    (found c.args.numbers.now c.args.number c.binary_search.result c.requires.rising c.binary_search.ensures.position)
