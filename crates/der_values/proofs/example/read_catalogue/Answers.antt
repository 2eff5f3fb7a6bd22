use Rattle.std.proofs.Common.{arith}
use Rattle.der_values.specs.Grammar.{from_start}
use Rattle.der_values.specs.Example.{start, catalogue_checks, catalogue_shape, parts_of, parts_seen}
use Rattle.der_values.proofs.Meaning.{is_meant, is_only}
use Rattle.der_values.proofs.example.read_catalogue.Goals as goal

pub returns-clause-found : goal.returns-clause-found
returns-clause-found c = is_meant catalogue_checks catalogue_shape start (λ p before. parts_of p.0) (from_start c.args.bytes.now) parts_seen c.whole_catalogue.result (λ i. omega (arith, c.type_inv.bytes i)) c.whole_catalogue.ensures

pub returns-clause-only : goal.returns-clause-only
returns-clause-only c = λ parts m. is_only catalogue_checks catalogue_shape start (λ p before. parts_of p.0) (from_start c.args.bytes.now) parts_seen c.whole_catalogue.result c.whole_catalogue.ensures parts m
