use Rattle.std.proofs.Common.{refl}
use Rattle.der_values.specs.Next.{seen}
use Rattle.der_values.specs.Shape.{tagged, checked}
use Rattle.evidence_syntax.specs.Checks.{not_empty}
use Rattle.evidence_syntax.specs.Stamps.{chain_shape, chains_of, chains_seen}
use Rattle.evidence_syntax.proofs.Each.{each_found, each_refused}
use Rattle.evidence_syntax.proofs.stamps.sequence.Goals as goal

pub returns-in_err-all : goal.returns-in_err-all
returns-in_err-all c =
    each_refused 48 (checked not_empty) (tagged 48) (checked not_empty) chain_shape c.args.so_far.stamps (seen c.args.t.now) (rw c.in_ok-check_filled.ensures refl, λ n. refl) c.contents.result c.contents.ensures (λ ps. chains_of (ps, tt)) (λ x. chains_seen x.read) (λ x. x.stamps) c.from_residual-in_err-all.result _ c.from_residual-in_err-all.ensures.1 c.in_err-all.ensures

pub returns : goal.returns
returns c =
    rw c.from_vec.ensures (each_found 48 (checked not_empty) (tagged 48) (checked not_empty) chain_shape c.args.so_far.stamps (seen c.args.t.now) (rw c.in_ok-check_filled.ensures refl, λ n. refl) c.contents.result c.contents.ensures (λ ps. chains_of (ps, tt)) _ c.in_ok-all.ensures)
