use Rattle.std.proofs.Common.{◌≡◌, ◌∙◌, ℕ, List, [], ◌∷◌, ◌++◌, Ok, sym, ap}
use Rattle.std.proofs.lemmas.List.{map_push}
use Rattle.der_values.specs.Next.{seen}
use Rattle.der_values.specs.Shape.{tagged}
use Rattle.der_values.proofs.Loop.{one_more, all_read}
use Rattle.evidence_syntax.specs.Checks.{der}
use Rattle.evidence_syntax.specs.Stamps.{Stamp, chain_of, chain_seen, chains_seen}
use Rattle.evidence_syntax.specs.Inside.{chain_at, each_chain}
use Rattle.evidence_syntax.proofs.stamps.all_chains.Goals as goal

pub loop-reader-preserved : goal.loop-reader-preserved
loop-reader-preserved c =
    let h = c.in_ok-chain.ensures in
    let s = c.in_ok-chain.chain in
    let v = seen c.in_ok-expect.field-0 in
    let before = c.loop-reader.chains.items in
    let named : chain_of h.parts ≡ chain_seen s.read = ap (λ (x : List Stamp × ℕ). x.0) h.named in
    let counted : h.state ≡ s.stamps = ap (λ (x : List Stamp × ℕ). x.1) h.named in
    let one : chain_at c.loop-reader.so_far.stamps v ≡ Ok (h.parts, s.stamps) = h.is ∙ ap (λ (n : ℕ). Ok (h.parts, n)) counted in
    let e : chains_seen c.push.new.self.items ≡ chains_seen before ++ chain_seen s.read ∷ [] = rw c.in_ok-push.ensures.items (map_push _ before s.read) in
    rw (e, ← named) (one_more der (tagged 48) chain_at (each_chain c.args.so_far.stamps c.args.reader) chain_of (chains_seen before) c.loop-reader.so_far.stamps c.loop-reader.reader v c.expect.new.self h.parts s.stamps (sym c.at_end.ensures ∙ c.loop-reader-test.true) c.in_ok-expect.ensures.shorter c.loop-reader.invariant c.in_ok-expect.ensures.ok one)

pub returns : goal.returns
returns c = all_read der (tagged 48) chain_at (each_chain c.args.so_far.stamps c.args.reader) chain_of (chains_seen c.loop-reader.chains.items) c.loop-reader.so_far.stamps c.loop-reader.reader (sym c.at_end.ensures ∙ c.loop-reader-test.false) c.loop-reader.invariant
