use Rattle.std.proofs.Common.{ℕ, List, length, drop, ap, sym, ◌∙◌, arith}
use Rattle.std.proofs.lemmas.Slice.{between_to_end}
use Rattle.ev_devices.proofs.SourceLemmas.{source_read}
use Rattle.ev_devices.specs.Devices.{Device}
use Rattle.ev_devices.proofs.source.MemSourceSource.read.Goals as goal

pub returns-clause-bytes : goal.returns-clause-bytes
returns-clause-bytes c =
    let place = c.self.inside.place in
    let left = between_to_end c.as_slice.result.now place (length c.as_slice.result.now) (omega arith) ∙ ap (λ (t : List ℕ). drop place t) c.as_slice.ensures in
    let view = ap (λ (d : Device). d.bytes) c.self.view_is in
    let read = source_read c.self.inside.bytes _ _ c.args.out.now place _ c.self.invariant left c.min-count.ensures c.copy_from_slice.ensures.after in
    (sym view ∙ read.0, read.1)
