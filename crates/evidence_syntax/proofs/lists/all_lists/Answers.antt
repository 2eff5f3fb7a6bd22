use Rattle.std.proofs.Common.{◌≡◌, ◌∙◌, ℕ, List, [], ◌∷◌, ◌++◌, Ok, sym, ap}
use Rattle.der_values.specs.Next.{seen}
use Rattle.der_values.specs.Shape.{tagged}
use Rattle.der_values.proofs.Loop.{one_more, all_read}
use Rattle.evidence_syntax.specs.Checks.{der}
use Rattle.evidence_syntax.specs.Lists.{ListParts}
use Rattle.evidence_syntax.specs.Inside.{list_at, each_list}
use Rattle.evidence_syntax.proofs.lists.all_lists.Goals as goal

pub loop-reader-preserved : goal.loop-reader-preserved
loop-reader-preserved c =
    let h = c.in_ok-list.ensures in
    let list = c.in_ok-list.list in
    let v = seen c.in_ok-expect.field-0 in
    let stamps = c.args.so_far.stamps in
    let before = c.loop-reader.lists.items in
    let named : h.parts.0 ≡ list = ap (λ (x : List (List ℕ) × ℕ). x.0) h.named in
    let counted : h.state ≡ stamps = ap (λ (x : List (List ℕ) × ℕ). x.1) h.named in
    let one : list_at stamps v ≡ Ok (h.parts, stamps) = h.is ∙ ap (λ (n : ℕ). Ok (h.parts, n)) counted in
    let e : c.push.new.self.items ≡ before ++ h.parts.0 ∷ [] = c.in_ok-push.ensures.items ∙ ap (λ (l : List (List ℕ)). before ++ l ∷ []) (sym named) in
    rw e (one_more der (tagged 48) list_at (each_list stamps c.args.reader) (λ (p : ListParts). p.0) before stamps c.loop-reader.reader v c.expect.new.self h.parts stamps (sym c.at_end.ensures ∙ c.loop-reader-test.true) c.in_ok-expect.ensures.shorter c.loop-reader.invariant c.in_ok-expect.ensures.ok one)

pub returns : goal.returns
returns c = all_read der (tagged 48) list_at (each_list c.args.so_far.stamps c.args.reader) (λ (p : ListParts). p.0) c.loop-reader.lists.items c.args.so_far.stamps c.loop-reader.reader (sym c.at_end.ensures ∙ c.loop-reader-test.false) c.loop-reader.invariant
