use Rattle.std.proofs.Common.{◌≡◌, ◌∙◌, ℕ, List, [], ◌∷◌, ◌++◌, Ok, refl, sym, ap}
use Rattle.std.proofs.lemmas.List.{map-id}
use Rattle.der_values.specs.Next.{seen}
use Rattle.der_values.specs.Shape.{tagged}
use Rattle.der_values.specs.Reading.{read}
use Rattle.der_values.proofs.Loop.{one_more, all_read}
use Rattle.evidence_syntax.specs.Checks.{der}
use Rattle.evidence_syntax.specs.Inside.{value_at, each_value}
use Rattle.evidence_syntax.proofs.lists.all_values.Goals as goal

pub loop-reader-preserved : goal.loop-reader-preserved
unfolding read
loop-reader-preserved c =
    let t = c.in_ok-expect.field-0 in
    let stamps = c.args.so_far.stamps in
    let before = c.loop-reader.values.items in
    let e : c.push.new.self.items ≡ before ++ t.content.now ∷ [] = c.in_ok-push.ensures.items ∙ ap (λ (v : List ℕ). before ++ v ∷ []) c.in_ok-value.ensures.value in
    let one : value_at stamps (seen t) ≡ Ok (t.content.now, stamps) = rw c.in_ok-value.ensures.checked refl in
    rw e (one_more der (tagged 4) value_at (each_value stamps c.args.reader) (λ (p : List ℕ). p) before stamps c.loop-reader.reader (seen t) c.expect.new.self t.content.now stamps (sym c.at_end.ensures ∙ c.loop-reader-test.true) c.in_ok-expect.ensures.shorter c.loop-reader.invariant c.in_ok-expect.ensures.ok one)

pub returns : goal.returns
returns c =
    let e = all_read der (tagged 4) value_at (each_value c.args.so_far.stamps c.args.reader) (λ (p : List ℕ). p) c.loop-reader.values.items c.args.so_far.stamps c.loop-reader.reader (sym c.at_end.ensures ∙ c.loop-reader-test.false) c.loop-reader.invariant in
    record { parts = e.parts; state = e.state; is = e.is; named = ap (λ (ps : List (List ℕ)). (ps, e.state)) (sym (map-id e.parts)) ∙ e.named }
