use Rattle.std.proofs.Common.{◌≡◌, ◌∙◌, ℕ, [], ◌∷◌, ◌++◌, Ok, sym, ap}
use Rattle.std.specs.Prelude.{map}
use Rattle.std.proofs.lemmas.List.{map_push}
use Rattle.der_values.specs.Next.{seen}
use Rattle.der_values.specs.Shape.{tagged}
use Rattle.der_values.specs.Algorithm.{Name, name_of, name_seen}
use Rattle.der_values.proofs.Loop.{one_more, all_read}
use Rattle.evidence_syntax.specs.Checks.{der}
use Rattle.evidence_syntax.specs.Inside.{algorithm_at, each_algorithm}
use Rattle.evidence_syntax.proofs.record_bytes.all_algorithms.Goals as goal

pub loop-reader-preserved : goal.loop-reader-preserved
loop-reader-preserved c =
    let h = c.in_ok-name.ensures in
    let name = c.in_ok-name.name in
    let v = seen c.in_ok-expect.field-0 in
    let before = c.loop-reader.names.items in
    let named : name_of h.parts ≡ name_seen name = ap (λ (x : Name × ℕ). x.0) h.named in
    let counted : h.state ≡ 0 = ap (λ (x : Name × ℕ). x.1) h.named in
    let one : algorithm_at 0 v ≡ Ok (h.parts, 0) = h.is ∙ ap (λ (n : ℕ). Ok (h.parts, n)) counted in
    let e : map name_seen c.push.new.self.items ≡ map name_seen before ++ name_seen name ∷ [] = rw c.in_ok-push.ensures.items (map_push _ before name) in
    rw (e, ← named) (one_more der (tagged 48) algorithm_at (each_algorithm c.args.reader) name_of (map name_seen before) 0 c.loop-reader.reader v c.expect.new.self h.parts 0 (sym c.at_end.ensures ∙ c.loop-reader-test.true) c.in_ok-expect.ensures.shorter c.loop-reader.invariant c.in_ok-expect.ensures.ok one)

pub returns : goal.returns
returns c = all_read der (tagged 48) algorithm_at (each_algorithm c.args.reader) name_of (map name_seen c.loop-reader.names.items) 0 c.loop-reader.reader (sym c.at_end.ensures ∙ c.loop-reader-test.false) c.loop-reader.invariant
