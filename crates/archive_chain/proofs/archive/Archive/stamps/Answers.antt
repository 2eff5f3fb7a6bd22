use Rattle.std.proofs.Common.{arith, ◌≡◌, ◌<◌, ◌≤◌, ◌+◌, ℕ, Option, List, [], length, slice_get, slice_index_or, sym, ap, subst, ◌∙◌}
use Rattle.archive_chain.specs.Kept.{Cover, covers_of}
use Rattle.archive_chain.specs.Held.{Held}
use Rattle.archive_chain.proofs.Walking.{left, short_at, counts, started}
use Rattle.archive_chain.specs.InsideTable.{rows_seen, sealed_in}
use Rattle.archive_chain.specs.InsideRows.{walk}
use Rattle.archive_chain.proofs.RowsRenewing.{nothing}
use Rattle.archive_chain.proofs.archive.Archive.stamps.Goals as goal

pub loop-at-init : goal.loop-at-init
loop-at-init c =
    let s = started c.self.inside.stamps.items c.self.inside.rows.items c.self.inside.firsts.items c.args.id c.first_of-at.result c.self.invariant.0.starts (c.first_of-at.ensures ∙ ap (λ (xs : List ℕ). slice_get xs c.args.id) c.as_slice.ensures.value) in
    (omega (arith, ap (λ (l : List Cover). length l) s.0), s.1)

small : (c : goal.After-len) → c.loop-at.count + (c.len.result + 1) ≤ 200
small c =
    let all = (counts c.self.inside.stamps.items c.self.inside.rows.items c.args.id c.in-Some.place c.index-row.result.now c.loop-at.at c.loop-at.count c.len.result _
    c.self.invariant.0.are_rows c.index-row.ensures c.in-Some.is c.loop-at.invariant.1 c.loop-at.invariant.0 (c.len.ensures ∙ c.index-row.result.now.later.ok.0)).1 in
    let short = short_at (sealed_in c.self.inside.stamps.items c.self.inside.rows.items c.self.inside.firsts.items) c.args.id c.self.invariant.0.short in omega (arith, all, short)

pub overflow_cast-count : goal.overflow_cast-count
overflow_cast-count c = let h = small c in omega (arith, h)

pub overflow_add-count : goal.overflow_add-count
overflow_add-count c = let h = small c in omega (arith, h)

pub overflow_add-count-in-Some : goal.overflow_add-count-in-Some
overflow_add-count-in-Some c = let h = small c in omega (arith, h)

pub loop-at-smaller : goal.loop-at-smaller
loop-at-smaller c =
    let v = (counts c.self.inside.stamps.items c.self.inside.rows.items c.args.id c.in-Some.place c.index-row.result.now c.loop-at.at c.loop-at.count c.len.result _
    c.self.invariant.0.are_rows c.index-row.ensures c.in-Some.is c.loop-at.invariant.1 c.loop-at.invariant.0 (c.len.ensures ∙ c.index-row.result.now.later.ok.0)).0 in
    subst (λ (o : Option ℕ). left (length c.self.inside.rows.items) c.index-row.result.now.next < left (length c.self.inside.rows.items) o) (sym c.in-Some.is) v.smaller

pub loop-at-preserved : goal.loop-at-preserved
loop-at-preserved c =
    let all = counts c.self.inside.stamps.items c.self.inside.rows.items c.args.id c.in-Some.place c.index-row.result.now c.loop-at.at c.loop-at.count c.len.result _
    c.self.invariant.0.are_rows c.index-row.ensures c.in-Some.is c.loop-at.invariant.1 c.loop-at.invariant.0 (c.len.ensures ∙ c.index-row.result.now.later.ok.0) in
    let sum = all.1 in
    (omega (arith, sum), all.0.within)

pub returns : goal.returns
returns c =
    let done = ap (λ (o : Option ℕ). length (walk c.args.id 0 o (rows_seen c.self.inside.stamps.items c.self.inside.rows.items))) c.in_default.is in
    let none = ap (λ (l : List Cover). length l) (nothing c.args.id 0 (rows_seen c.self.inside.stamps.items c.self.inside.rows.items)) in
    let before = c.loop-at.invariant.0 in
    let here : c.loop-at.count ≡ length (slice_index_or (sealed_in c.self.inside.stamps.items c.self.inside.rows.items c.self.inside.firsts.items) c.args.id []) = omega (arith, done, none, before) in
    here ∙ ap (λ (h : Held). length (covers_of h.kept c.args.id)) c.self.view_is
