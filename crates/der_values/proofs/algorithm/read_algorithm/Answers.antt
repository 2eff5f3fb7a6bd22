use Rattle.der_values.specs.Next.{contents, seen}
use Rattle.der_values.specs.Algorithm.{plain, algorithm_shape, algorithm_of, name_of, name_seen}
use Rattle.der_values.proofs.Meaning.{is_meant, is_only}
use Rattle.der_values.proofs.algorithm.read_algorithm.Goals as goal

pub returns-clause-found : goal.returns-clause-found
unfolding algorithm_of
returns-clause-found c =
    is_meant plain algorithm_shape tt (λ p σ. name_of p) (contents (seen c.args.t.now)) name_seen c.name_in.result c.are_octets.ensures c.name_in.ensures

pub returns-clause-only : goal.returns-clause-only
unfolding algorithm_of
returns-clause-only c = λ name m. is_only plain algorithm_shape tt (λ p σ. name_of p) (contents (seen c.args.t.now)) name_seen c.name_in.result c.name_in.ensures name m
