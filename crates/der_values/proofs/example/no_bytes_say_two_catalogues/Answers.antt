use Rattle.der_values.specs.Grammar.{from_start}
use Rattle.der_values.specs.Example.{start, catalogue_checks, catalogue_shape, parts_of}
use Rattle.der_values.proofs.Meaning.{one_meaning}
use Rattle.der_values.proofs.example.no_bytes_say_two_catalogues.Goals as goal

pub returns : goal.returns
returns c = λ bytes a b m n. one_meaning catalogue_checks catalogue_shape start (λ p before. parts_of p.0) (from_start bytes) a b m n
