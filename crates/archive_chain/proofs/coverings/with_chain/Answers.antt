use Rattle.std.proofs.Common.{rules, ◌<◌, ◌++◌, ◌∷◌, [], List, map, length, ap, ◌∙◌, append_assoc}
use Rattle.std.proofs.lemmas.List.{map-append}
use Rattle.archive_chain.specs.InsideCovers.{Told, covering_seen, told_by}
use Rattle.archive_chain.specs.InsideTable.{later_seen}
use Rattle.archive_chain.proofs.Reading.{treed_next, treed_rest}
use Rattle.archive_chain.proofs.Meeting.{first_told, next_told}
use Rattle.archive_chain.proofs.coverings.with_chain.Goals as goal

pub stamp_in-requires-in-loop-later-clause-some : goal.stamp_in-requires-in-loop-later-clause-some
stamp_in-requires-in-loop-later-clause-some c =
    let less : c.loop-later.later-index < length c.args.row.now.later.items = search rules in
    let next = treed_next c.args.stamps.now c.args.row.now.later.items c.deref-later-items.result.now c.loop-later.later-index c.deref-later-items.ensures.value less c.loop-later.invariant.1 in
    (next.stamp, next.there)

pub loop-later-init : goal.loop-later-init
loop-later-init c =
    let rest = map (told_by c.args.stamps.now) (map (later_seen c.args.stamps.now) c.args.row.now.later.items) in
    let first = first_told c.args.stamps.now c.args.row.now c.stamp_in.result.now (covering_seen c.said_by.result) c.stamp_in.ensures c.said_by.ensures in (
      ap (λ (l : List Told). l ++ rest) (ap (map covering_seen) c.in_ok-push.ensures.items ∙ map-append covering_seen c.args.coverings.items (c.said_by.result ∷ []))
          ∙ append_assoc (map covering_seen c.args.coverings.items) (covering_seen c.said_by.result ∷ []) rest
          ∙ ap (λ (t : Told). map covering_seen c.args.coverings.items ++ t ∷ rest) first,
      c.requires.later,
    )

pub loop-later-preserved : goal.loop-later-preserved
loop-later-preserved c =
    let less : c.loop-later.later-index < length c.args.row.now.later.items = search rules in
    let grown = ap (map covering_seen) c.in_ok-push-2.ensures.items ∙ map-append covering_seen c.loop-later.all.items (c.said_by-in-loop-later.result ∷ []) in (
      next_told c.args.stamps.now c.args.row.now.later.items c.deref-later-items.result.now c.loop-later.later-index c.stamp_in-in-loop-later.result.now
          (map covering_seen c.loop-later.all.items) (map covering_seen c.push-in-loop-later.new.self.items) _ (covering_seen c.said_by-in-loop-later.result)
          c.deref-later-items.ensures.value less c.stamp_in-in-loop-later.ensures c.said_by-in-loop-later.ensures grown c.loop-later.invariant.0,
      treed_rest c.args.stamps.now c.args.row.now.later.items c.loop-later.later-index less c.loop-later.invariant.1,
    )
