use Rattle.std.proofs.Common.{◌≡◌, ◌∙◌, ℕ, [], ◌∷◌, ◌++◌, Ok, sym, ap}
use Rattle.std.specs.Prelude.{map}
use Rattle.std.proofs.lemmas.List.{map_push}
use Rattle.der_values.specs.Next.{seen}
use Rattle.der_values.specs.Shape.{tagged}
use Rattle.der_values.proofs.Loop.{one_more, all_read}
use Rattle.evidence_syntax.specs.Checks.{der}
use Rattle.evidence_syntax.specs.Stamps.{Stamp, stamp_of, stamp_seen}
use Rattle.evidence_syntax.specs.Inside.{stamp_at, each_stamp}
use Rattle.evidence_syntax.proofs.stamps.all_stamps.Goals as goal

pub loop-reader-preserved : goal.loop-reader-preserved
loop-reader-preserved c =
    let h = c.in_ok-stamp.ensures in
    let s = c.in_ok-stamp.stamp in
    let v = seen c.in_ok-expect.field-0 in
    let before = c.loop-reader.stamps.items in
    let named : stamp_of h.parts ≡ stamp_seen s.read = ap (λ (x : Stamp × ℕ). x.0) h.named in
    let counted : h.state ≡ s.stamps = ap (λ (x : Stamp × ℕ). x.1) h.named in
    let one : stamp_at c.loop-reader.so_far.stamps v ≡ Ok (h.parts, s.stamps) = h.is ∙ ap (λ (n : ℕ). Ok (h.parts, n)) counted in
    let e : map stamp_seen c.push.new.self.items ≡ map stamp_seen before ++ stamp_seen s.read ∷ [] = rw c.in_ok-push.ensures.items (map_push _ before s.read) in
    rw (e, ← named) (one_more der (tagged 48) stamp_at (each_stamp c.args.so_far.stamps c.args.reader) stamp_of (map stamp_seen before) c.loop-reader.so_far.stamps c.loop-reader.reader v c.expect.new.self h.parts s.stamps (sym c.at_end.ensures ∙ c.loop-reader-test.true) c.in_ok-expect.ensures.shorter c.loop-reader.invariant c.in_ok-expect.ensures.ok one)

pub returns : goal.returns
returns c = all_read der (tagged 48) stamp_at (each_stamp c.args.so_far.stamps c.args.reader) stamp_of (map stamp_seen c.loop-reader.stamps.items) c.loop-reader.so_far.stamps c.loop-reader.reader (sym c.at_end.ensures ∙ c.loop-reader-test.false) c.loop-reader.invariant
