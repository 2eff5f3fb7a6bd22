use Rattle.der_values.specs.Algorithm.{name_seen, name_contents}
use Rattle.der_values.proofs.Lengths.{content_shorter}
use Rattle.evidence_syntax.proofs.SizeLemmas.{too_long, same_size, value_of}
use Rattle.evidence_syntax.proofs.sizes.algorithm_size.Goals as goal

pub returns-in_err-name_size-in-Some : goal.returns-in_err-name_size-in-Some
returns-in_err-name_size-in-Some c =
    rw c.in-Some.is (too_long _ _ _ (content_shorter 160 (name_contents (name_seen c.in-Some.name))) c.in_err-name_size-in-Some.ensures c.from_residual.ensures)

pub returns-in_ok-name_size-in-Some : goal.returns-in_ok-name_size-in-Some
returns-in_ok-name_size-in-Some c =
    rw c.in-Some.is (same_size _ _ _ (value_of 160 (name_contents (name_seen c.in-Some.name)) _ c.in_ok-name_size-in-Some.ensures.1) c.with_value.ensures)
