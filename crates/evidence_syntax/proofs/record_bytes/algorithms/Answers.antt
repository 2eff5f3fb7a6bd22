use Rattle.std.proofs.Common.{refl}
use Rattle.std.specs.Prelude.{map}
use Rattle.der_values.specs.Next.{seen}
use Rattle.der_values.specs.Shape.{tagged, unchecked}
use Rattle.der_values.specs.Algorithm.{name_seen, algorithm_shape}
use Rattle.evidence_syntax.specs.Record.{algorithms_of}
use Rattle.evidence_syntax.proofs.Each.{each_refused}
use Rattle.evidence_syntax.proofs.record_bytes.algorithms.Goals as goal

pub returns-in_err-names : goal.returns-in_err-names
returns-in_err-names c =
    each_refused 48 unchecked (tagged 48) unchecked algorithm_shape 0 (seen c.args.t.now) (refl, λ n. refl) c.contents.result c.contents.ensures (λ ps. algorithms_of (ps, tt)) (λ l. map name_seen l) (λ l. 0) c.from_residual.result _ c.from_residual.ensures.1 c.in_err-names.ensures
