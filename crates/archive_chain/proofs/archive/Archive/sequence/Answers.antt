use Rattle.std.proofs.Common.{arith, ◌≡◌, ℕ, List, Some, IfOk, map, length, slice_get, sym, ap, subst, ◌∙◌}
use Rattle.std.proofs.lemmas.Option.{slice_get-get_or}
use Rattle.evidence_syntax.specs.Stamps.{chains_seen}
use Rattle.evidence_syntax.specs.declared.stamps.Chain.{Chain}
use Rattle.archive_chain.specs.Kept.{Cover, covers_of}
use Rattle.archive_chain.specs.Sequence.{Trees, sequence_of}
use Rattle.archive_chain.specs.InsideRows.{walk}
use Rattle.archive_chain.specs.declared.row.Row.{Row}
use Rattle.archive_chain.specs.Held.{Held}
use Rattle.archive_chain.specs.InsideTable.{Stamps, leaves_in, rows_seen}
use Rattle.archive_chain.specs.InsideReadable.{AreReadable}
use Rattle.archive_chain.proofs.Walking.{sealed_length}
use Rattle.archive_chain.proofs.Reading.{readable, covers_are}
use Rattle.archive_chain.proofs.archive.Archive.sequence.Goals as goal

pub index-start-requires : goal.index-start-requires
index-start-requires c =
    let many : length c.args.self.now.kept.sealed ≡ length c.self.inside.firsts.items =
    ap (λ (h : Held). length h.kept.sealed) (sym c.self.view_is) ∙ sealed_length (rows_seen c.self.inside.stamps.items c.self.inside.rows.items) 0 c.self.inside.firsts.items in
    let less = c.requires in
    let len = c.self.inside.firsts.ok.0 in
    omega (arith, many, less, len)

starts : (c : goal.After-as_slice-2) → slice_get c.self.inside.firsts.items c.args.id ≡ Some c.index-start.result.now
starts c =
    let many : length c.args.self.now.kept.sealed ≡ length c.self.inside.firsts.items =
    ap (λ (h : Held). length h.kept.sealed) (sym c.self.view_is) ∙ sealed_length (rows_seen c.self.inside.stamps.items c.self.inside.rows.items) 0 c.self.inside.firsts.items in
    let less = c.requires in
    slice_get-get_or c.self.inside.firsts.items c.args.id c.index-start.result.now (omega (arith, many, less)) ∙ ap (λ (n : ℕ). Some n) (sym c.index-start.ensures)

trees_are : (c : goal.After-as_slice-2) → c.args.self.now.trees ≡ map leaves_in c.as_slice.result.now
trees_are c = ap (λ (h : Held). h.trees) (sym c.self.view_is) ∙ ap (map leaves_in) (sym c.as_slice.ensures.value)

walk_is : (c : goal.After-as_slice-2) → walk c.args.id 0 (Some c.index-start.result.now) (rows_seen c.as_slice.result.now c.as_slice-2.result.now) ≡ covers_of c.args.self.now.kept c.args.id
walk_is c =
    (λ i. walk c.args.id 0 (Some c.index-start.result.now) (rows_seen (c.as_slice.ensures.value i) (c.as_slice-2.ensures.value i)))
    ∙ sym (covers_are c.self.inside.stamps.items c.self.inside.rows.items c.self.inside.firsts.items c.args.id c.index-start.result.now (starts c))
    ∙ ap (λ (h : Held). covers_of h.kept c.args.id) c.self.view_is

pub sequence-requires : goal.sequence-requires
sequence-requires c =
    subst (λ (s : Stamps). AreReadable s c.as_slice-2.result.now c.args.id c.index-start.result.now) (sym c.as_slice.ensures.value)
    (subst (λ (r : List Row). AreReadable c.self.inside.stamps.items r c.args.id c.index-start.result.now) (sym c.as_slice-2.ensures.value)
    (readable c.self.inside.stamps.items c.self.inside.rows.items c.self.inside.firsts.items c.self.inside.pending c.args.id c.index-start.result.now c.self.invariant.0 (starts c)))

starts_then : (c : goal.After-sequence) → slice_get c.self.inside.firsts.items c.args.id ≡ Some c.index-start.result.now
starts_then c =
    let many : length c.args.self.now.kept.sealed ≡ length c.self.inside.firsts.items =
    ap (λ (h : Held). length h.kept.sealed) (sym c.self.view_is) ∙ sealed_length (rows_seen c.self.inside.stamps.items c.self.inside.rows.items) 0 c.self.inside.firsts.items in
    let less = c.requires in
    slice_get-get_or c.self.inside.firsts.items c.args.id c.index-start.result.now (omega (arith, many, less)) ∙ ap (λ (n : ℕ). Some n) (sym c.index-start.ensures)

trees_are_then : (c : goal.After-sequence) → c.args.self.now.trees ≡ map leaves_in c.as_slice.result.now
trees_are_then c = ap (λ (h : Held). h.trees) (sym c.self.view_is) ∙ ap (map leaves_in) (sym c.as_slice.ensures.value)

walk_is_then : (c : goal.After-sequence) → walk c.args.id 0 (Some c.index-start.result.now) (rows_seen c.as_slice.result.now c.as_slice-2.result.now) ≡ covers_of c.args.self.now.kept c.args.id
walk_is_then c =
    (λ i. walk c.args.id 0 (Some c.index-start.result.now) (rows_seen (c.as_slice.ensures.value i) (c.as_slice-2.ensures.value i)))
    ∙ sym (covers_are c.self.inside.stamps.items c.self.inside.rows.items c.self.inside.firsts.items c.args.id c.index-start.result.now (starts_then c))
    ∙ ap (λ (h : Held). covers_of h.kept c.args.id) c.self.view_is

pub returns-clause-chains : goal.returns-clause-chains
returns-clause-chains c =
    subst (λ (ts : Trees). IfOk c.sequence.result (λ (chains : List Chain). chains_seen chains ≡ sequence_of ts c.args.group.now (covers_of c.args.self.now.kept c.args.id))) (sym (trees_are_then c))
    (subst (λ (ws : List Cover). IfOk c.sequence.result (λ (chains : List Chain). chains_seen chains ≡ sequence_of (map leaves_in c.as_slice.result.now) c.args.group.now ws)) (walk_is_then c) c.sequence.ensures.made)
