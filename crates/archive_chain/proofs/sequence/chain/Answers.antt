use Rattle.std.proofs.Common.{rules, ◌≡◌, ◌+◌, ◌*◌, ◌<◌, ◌≤◌, ◌++◌, ◌∷◌, [], ℕ, List, map, length, refl, sym, ap, subst, ◌∙◌}
use Rattle.std.proofs.lemmas.List.{map-append}
use Rattle.evidence_syntax.specs.declared.stamps.Ats.{Ats}
use Rattle.evidence_syntax.specs.Stamps.{Stamp, stamp_seen}
use Rattle.evidence_syntax.specs.Text.{chain_text}
use Rattle.archive_chain.specs.InsideTable.{leaves_in, later_seen}
use Rattle.archive_chain.specs.InsideReadable.{further_all}
use Rattle.archive_chain.proofs.Reading.{treed_next, chain_step}
use Rattle.archive_chain.proofs.Sizes.{AreSized, one_sized, more_sized, chain_size}
use Rattle.archive_chain.proofs.sequence.chain.Goals as goal

pub further-requires : goal.further-requires
further-requires c =
    let less : c.loop-later.later-index < length c.args.row.now.later.items = search rules in
    treed_next c.args.stamps.now c.args.row.now.later.items c.deref-later-items.result.now c.loop-later.later-index c.deref-later-items.ensures.value less c.loop-later.invariant.2

pub loop-later-preserved : goal.loop-later-preserved
loop-later-preserved c =
    let less : c.loop-later.later-index < length c.args.row.now.later.items = search rules in
    let grown : map stamp_seen c.push-in-loop-later.new.self.items ≡ map stamp_seen c.loop-later.all.items ++ stamp_seen c.in_ok-next.next ∷ [] =
    ap (map stamp_seen) c.in_ok-push-2.ensures.items ∙ map-append stamp_seen c.loop-later.all.items (c.in_ok-next.next ∷ []) in
    let step = chain_step c.args.stamps.now c.args.row.now.later.items c.deref-later-items.result.now c.loop-later.later-index _ _ c.loop-later.token.now (stamp_seen c.in_ok-next.next) _
    c.deref-later-items.ensures.value less c.in_ok-next.ensures.made grown c.loop-later.invariant.0 c.loop-later.invariant.1 c.loop-later.invariant.2 in
    (step.0, step.1, step.2, more_sized (map stamp_seen c.loop-later.all.items) (map stamp_seen c.push-in-loop-later.new.self.items) (stamp_seen c.in_ok-next.next) (c.loop-later.later-index + 1) c.loop-later.invariant.3 grown c.in_ok-next.ensures.short)

pub loop-later-init : goal.loop-later-init
loop-later-init c =
    let trees = map leaves_in c.args.stamps.now in
    let later = map (later_seen c.args.stamps.now) c.args.row.now.later.items in
    let all = c.in_ok-push.ensures.items ∙ ap (λ (l : List Ats). l ++ c.in_ok-begin.begin ∷ []) c.new-all.ensures.items in
    let made : map stamp_seen c.push.new.self.items ≡ stamp_seen c.in_ok-begin.begin ∷ [] = ap (map stamp_seen) all in (
      ap (λ (l : List Stamp). further_all trees l later) (made ∙ ap (λ (s : Stamp). s ∷ []) c.in_ok-begin.ensures.made),
      record { init = []; last = stamp_seen c.in_ok-begin.begin; made_is = made; token_is = refl },
      c.requires.treed.later,
      subst (λ (l : List Stamp). AreSized l 1) (sym made) (one_sized (stamp_seen c.in_ok-begin.begin) c.in_ok-begin.ensures.short),
    )

pub returns-clause-short : goal.returns-clause-short
returns-clause-short c =
    let end : c.loop-later.later-index ≡ length c.args.row.now.later.items = search rules in
    let sized : AreSized (map stamp_seen c.loop-later.all.items) (length c.args.row.now.later.items + 1) =
    subst (λ (n : ℕ). AreSized (map stamp_seen c.loop-later.all.items) (n + 1)) end c.loop-later.invariant.3 in
    subst (λ (l : List Ats). length (chain_text (map stamp_seen l)) ≤ 72606 * (length c.args.row.now.later.items + 1)) (sym c.from_vec.ensures)
    (chain_size (map stamp_seen c.loop-later.all.items) (length c.args.row.now.later.items) sized)
