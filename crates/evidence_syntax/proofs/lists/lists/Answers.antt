use Rattle.std.proofs.Common.{refl}
use Rattle.der_values.specs.Next.{seen}
use Rattle.der_values.specs.Shape.{tagged, checked}
use Rattle.evidence_syntax.specs.Checks.{not_empty}
use Rattle.evidence_syntax.specs.Lists.{list_shape, lists_of}
use Rattle.evidence_syntax.proofs.Each.{each_found}
use Rattle.evidence_syntax.proofs.lists.lists.Goals as goal

pub returns : goal.returns
returns c =
    rw c.from_vec.ensures (each_found 162 (checked not_empty) (tagged 48) (checked not_empty) list_shape c.args.so_far.stamps (seen c.args.t.now) (rw c.in_ok-check_filled.ensures refl, λ n. refl) c.contents.result c.contents.ensures (λ ps. lists_of (ps, tt)) _ c.in_ok-lists.ensures)
