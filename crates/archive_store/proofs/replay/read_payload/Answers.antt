use Rattle.std.proofs.Common.{◌∙◌, ℕ, List, Some, take, sym, ap}
use Rattle.archive_store.proofs.Replaying.{whole_payload, written_over}
use Rattle.archive_store.proofs.replay.read_payload.Goals as goal

pub returns-clause-bytes : goal.returns-clause-bytes
returns-clause-bytes g c =
    let out = c.read_frame.new.out in
    let whole = written_over out c.in_ok-payload.payload.items c.in_ok-payload.payload.len (c.read_frame.auto.out ∙ c.deref_mut.ensures.len) in
    λ known. whole_payload c.args.journal.now.payloads c.args.journal.now.lengths c.args.entry c.length.result out (c.requires.sizes known) c.length.ensures.get
    (λ p there. c.in-Ok.ensures.bytes known p there ∙ ap (λ (n : ℕ). take n p) (c.deref_mut.ensures.len ∙ c.in_ok-payload.ensures.len))
    ∙ ap (λ (l : List ℕ). Some l) (sym whole)
