use Rattle.std.proofs.Common.{arith, ◌≡◌, ◌<◌, ◌≤◌, ◌++◌, ◌∷◌, [], ℕ, List, Option, Some, map, length, sym, ap, subst, ◌∙◌, append-nil}
use Rattle.std.proofs.lemmas.List.{map-append}
use Rattle.std.specs.List.{flat_map}
use Rattle.evidence_syntax.specs.Text.{chain_text}
use Rattle.evidence_syntax.specs.Stamps.{chain_seen, chains_seen}
use Rattle.evidence_syntax.specs.declared.stamps.Chain.{Chain}
use Rattle.archive_chain.specs.Kept.{Cover}
use Rattle.archive_chain.specs.Sequence.{sequence_of}
use Rattle.archive_chain.specs.InsideRows.{begun, walk}
use Rattle.archive_chain.proofs.RowsRenewing.{nothing}
use Rattle.archive_chain.specs.InsideTable.{leaves_in, later_seen, row_seen, rows_seen}
use Rattle.archive_chain.specs.InsideReadable.{chain_made}
use Rattle.archive_chain.proofs.Walking.{left}
use Rattle.archive_chain.proofs.Reading.{Reached, short_reached, row_reached, reached_next}
use Rattle.archive_chain.proofs.sequence.sequence.Goals as goal

pub chain-requires-clause-treed : goal.chain-requires-clause-treed
chain-requires-clause-treed c =
    (row_reached c.args.stamps.now c.args.rows.now c.args.id c.args.start c.in-Some.place c.args.group.now c.index-rows-place.result c.loop-at.at (chains_seen c.loop-at.chains.items)
    c.requires c.loop-at.invariant c.in-Some.is c.index-rows-place.is).0

pub chain-requires-clause-member : goal.chain-requires-clause-member
chain-requires-clause-member c =
    (row_reached c.args.stamps.now c.args.rows.now c.args.id c.args.start c.in-Some.place c.args.group.now c.index-rows-place.result c.loop-at.at (chains_seen c.loop-at.chains.items)
    c.requires c.loop-at.invariant c.in-Some.is c.index-rows-place.is).1

pub chain-requires-clause-short : goal.chain-requires-clause-short
chain-requires-clause-short c =
    let few = short_reached c.args.stamps.now c.args.rows.now c.args.id c.args.start c.args.group.now c.loop-at.at (chains_seen c.loop-at.chains.items) c.requires c.loop-at.invariant in
    subst (λ (cs : List Chain). length (flat_map chain_text (chains_seen cs)) < 4294967296) (sym c.as_slice.ensures.value) (omega (arith, few))

step : (c : goal.After-at-in-Some-1) → Reached c.args.stamps.now c.args.rows.now c.args.id c.args.start c.args.group.now c.index-rows-place.result.next (chains_seen c.loop-at.chains.items ++ chain_seen c.in_ok-chain.chain ∷ [])
    × (left (length c.args.rows.now) c.index-rows-place.result.next < left (length c.args.rows.now) c.loop-at.at)
step c =
    reached_next c.args.stamps.now c.args.rows.now c.args.id c.args.start c.in-Some.place c.args.group.now c.index-rows-place.result c.loop-at.at (chains_seen c.loop-at.chains.items) (chain_seen c.in_ok-chain.chain)
    c.requires c.loop-at.invariant c.in-Some.is c.index-rows-place.is
    (c.in_ok-chain.ensures.made ∙ ap (λ (cs : List Chain). chain_made (map leaves_in c.args.stamps.now) c.args.group.now (chains_seen cs) (begun (row_seen c.args.stamps.now c.index-rows-place.result) c.args.id) (map (later_seen c.args.stamps.now) c.index-rows-place.result.later.items)) c.as_slice.ensures.value) c.in_ok-chain.ensures.short

pub loop-at-smaller : goal.loop-at-smaller
loop-at-smaller c = (step c).1

pub loop-at-preserved : goal.loop-at-preserved
loop-at-preserved c =
    subst (Reached c.args.stamps.now c.args.rows.now c.args.id c.args.start c.args.group.now c.index-rows-place.result.next)
    (sym (ap chains_seen c.in_ok-push.ensures.items ∙ map-append chain_seen c.loop-at.chains.items (c.in_ok-chain.chain ∷ []))) (step c).0

pub returns-clause-made : goal.returns-clause-made
returns-clause-made c =
    let r = c.loop-at.invariant in
    let done : walk c.args.id 0 c.loop-at.at (rows_seen c.args.stamps.now c.args.rows.now) ≡ [] =
    ap (λ (o : Option ℕ). walk c.args.id 0 o (rows_seen c.args.stamps.now c.args.rows.now)) c.in_default.is ∙ nothing c.args.id 0 (rows_seen c.args.stamps.now c.args.rows.now) in
    let all : r.before ≡ walk c.args.id 0 (Some c.args.start) (rows_seen c.args.stamps.now c.args.rows.now) =
    sym (append-nil r.before) ∙ ap (λ (l : List Cover). r.before ++ l) (sym done) ∙ r.all in
    ap chains_seen c.from_vec.ensures ∙ r.made ∙ ap (sequence_of (map leaves_in c.args.stamps.now) c.args.group.now) all

pub returns-clause-short : goal.returns-clause-short
returns-clause-short c =
    subst (λ (cs : List Chain). length (flat_map chain_text (chains_seen cs)) ≤ 14521200) (sym c.from_vec.ensures)
    (short_reached c.args.stamps.now c.args.rows.now c.args.id c.args.start c.args.group.now c.loop-at.at (chains_seen c.loop-at.chains.items) c.requires c.loop-at.invariant)
