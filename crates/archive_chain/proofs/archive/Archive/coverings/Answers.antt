use Rattle.std.proofs.Common.{◌<◌, ◌≤◌, ◌++◌, ◌∷◌, ℕ, Option, List, map, length, slice_get, sym, ap, subst, ◌∙◌}
use Rattle.archive_chain.specs.Kept.{Cover, covers_of}
use Rattle.archive_chain.specs.Coverings.{AreCoverings}
use Rattle.archive_chain.specs.Held.{Held}
use Rattle.archive_chain.specs.declared.coverings.Covering.{Covering}
use Rattle.archive_chain.specs.InsideRows.{begun, walk}
use Rattle.archive_chain.specs.InsideTable.{Stamps, later_seen, row_seen, rows_seen, sealed_in, IsTreed}
use Rattle.archive_chain.specs.InsideCovers.{told_by, covering_seen}
use Rattle.archive_chain.proofs.Walking.{Within, left, started, short_at}
use Rattle.archive_chain.proofs.Reading.{treed_at}
use Rattle.archive_chain.proofs.Meeting.{here, told_more, of_walk, all_told, few_told}
use Rattle.archive_chain.proofs.archive.Archive.coverings.Goals as goal

pub with_chain-requires : goal.with_chain-requires
with_chain-requires c =
    subst (λ (s : Stamps). IsTreed s c.index-row.result.now) (sym c.as_slice-in-Some.ensures.value)
    (treed_at c.self.inside.stamps.items c.self.inside.rows.items c.in-Some.place c.index-row.result.now c.self.invariant.0.treed (subst (Within (length c.self.inside.rows.items)) c.in-Some.is c.loop-at.invariant.1) c.index-row.ensures)

pub loop-at-init : goal.loop-at-init
loop-at-init c =
    let begin = started c.self.inside.stamps.items c.self.inside.rows.items c.self.inside.firsts.items c.args.id c.first_of-at.result c.self.invariant.0.starts
    (c.first_of-at.ensures ∙ ap (λ (xs : List ℕ). slice_get xs c.args.id) c.as_slice.ensures.value) in
    (ap (λ (l : List Covering). map covering_seen l ++ map (told_by c.self.inside.stamps.items) (walk c.args.id 0 c.first_of-at.result (rows_seen c.self.inside.stamps.items c.self.inside.rows.items))) c.new-coverings.ensures.items, begin.1)

pub loop-at-smaller : goal.loop-at-smaller
loop-at-smaller c =
    let v = here c.self.inside.stamps.items c.self.inside.rows.items c.args.id c.in-Some.place 0 c.index-row.result.now c.loop-at.at c.self.invariant.0.are_rows c.index-row.ensures c.in-Some.is c.loop-at.invariant.1 in
    subst (λ (o : Option ℕ). left (length c.self.inside.rows.items) c.index-row.result.now.next < left (length c.self.inside.rows.items) o) (sym c.in-Some.is) v.smaller

pub loop-at-preserved : goal.loop-at-preserved
loop-at-preserved c =
    let v = here c.self.inside.stamps.items c.self.inside.rows.items c.args.id c.in-Some.place 0 c.index-row.result.now c.loop-at.at c.self.invariant.0.are_rows c.index-row.ensures c.in-Some.is c.loop-at.invariant.1 in (
      told_more c.self.inside.stamps.items c.self.inside.rows.items c.args.id c.in-Some.place 0 c.index-row.result.now c.loop-at.at c.self.invariant.0.are_rows c.index-row.ensures c.in-Some.is c.loop-at.invariant.1
          _ (map covering_seen c.loop-at.coverings.items) (map covering_seen c.in_ok-coverings.coverings.items) c.loop-at.invariant.0
          (c.in_ok-coverings.ensures ∙ ap (λ (s : Stamps). map covering_seen c.loop-at.coverings.items
          ++ map (told_by s) (begun (row_seen s c.index-row.result.now) 0 ∷ map (later_seen s) c.index-row.result.now.later.items)) c.as_slice-in-Some.ensures.value),
      v.within,
    )

pub returns-clause-said : goal.returns-clause-said
returns-clause-said c =
    let begin = started c.self.inside.stamps.items c.self.inside.rows.items c.self.inside.firsts.items c.args.id c.first_of-at.result c.self.invariant.0.starts
    (c.first_of-at.ensures ∙ ap (λ (xs : List ℕ). slice_get xs c.args.id) c.as_slice.ensures.value) in
    let covers = begin.0 ∙ ap (λ (h : Held). covers_of h.kept c.args.id) c.self.view_is in
    let of = of_walk c.self.inside.stamps.items c.args.id 0 c.first_of-at.result c.self.inside.rows.items c.self.invariant.0.treed in
    let told = all_told c.self.inside.policy c.self.inside.stamps.items c.self.inside.rows.items c.args.id c.loop-at.at (walk c.args.id 0 c.first_of-at.result (rows_seen c.self.inside.stamps.items c.self.inside.rows.items))
    c.loop-at.coverings.items c.self.invariant.4 of c.in_default.is c.loop-at.invariant.0 in
    subst (λ (h : Held). AreCoverings h.policy (covers_of c.args.self.now.kept c.args.id) c.from_vec.result) c.self.view_is
    (subst (λ (cs : List Cover). AreCoverings c.self.inside.policy cs c.from_vec.result) covers (subst (AreCoverings c.self.inside.policy _) (sym c.from_vec.ensures) told))

pub returns-clause-few : goal.returns-clause-few
returns-clause-few c =
    let begin = started c.self.inside.stamps.items c.self.inside.rows.items c.self.inside.firsts.items c.args.id c.first_of-at.result c.self.invariant.0.starts
    (c.first_of-at.ensures ∙ ap (λ (xs : List ℕ). slice_get xs c.args.id) c.as_slice.ensures.value) in
    let covers = walk c.args.id 0 c.first_of-at.result (rows_seen c.self.inside.stamps.items c.self.inside.rows.items) in
    let short : length covers ≤ 200 = subst (λ (cs : List Cover). length cs ≤ 200) (sym begin.0) (short_at (sealed_in c.self.inside.stamps.items c.self.inside.rows.items c.self.inside.firsts.items) c.args.id c.self.invariant.0.short) in
    subst (λ (l : List Covering). length l ≤ 200) (sym c.from_vec.ensures)
    (few_told c.self.inside.stamps.items c.self.inside.rows.items c.args.id c.loop-at.at covers c.loop-at.coverings.items c.in_default.is c.loop-at.invariant.0 short)
