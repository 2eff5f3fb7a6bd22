use Rattle.std.proofs.Common.{◌≡◌, ◌∙◌, ◌∷◌, [], ℕ, length, map, take, get_or, refl, sym, ap, arith}
use Rattle.std.proofs.lemmas.List.{length-append, get_or_default}
use Rattle.archive_store.specs.InsideReplay.{documents_in}
use Rattle.archive_store.proofs.KeptJournal.{kept_none, kept_then}
use Rattle.archive_store.proofs.LeavesRead.{leaf_at, tree_step, tree_all, length-ids, id_below}
use Rattle.archive_store.proofs.Replaying.{take_whole}
use Rattle.archive_store.proofs.leaves.tree_leaves.Goals as goal

pub loop-id-init : goal.loop-id-init
loop-id-init g c =
    let d = g.D.Disk in
    let none = c.new-leaves.ensures.items in
    record {
      count = rw none refl;
      leaves = λ known. rw none refl;
      kept = kept_none d.tells d.reads d.images d.clock d.since d.faults _ (λ f known left. g.met.D.Disk.only_now _ f known left);
    }

-- each is the number of a sealed group

pub read_group-requires-clause-known : goal.read_group-requires-clause-known
read_group-requires-clause-known g c =
    let ids = c.as_slice-id-items.result.now in
    let n : ℕ = c.loop-id.id-index in
    let id : ℕ = get_or ids n 0 in
    let below = id_below c.args.cohorts.now c.args.archive.now.kept.sealed ids n id (c.as_slice-id-items.ensures ∙ c.in_ok-ids.ensures) c.loop-id-test.true (get_or_default ids n 0 id c.loop-id-test.true) in
    omega (arith, below, c.requires.groups)

pub tree_leaf-requires : goal.tree_leaf-requires
tree_leaf-requires g c =
    let ids = c.as_slice-id-items.result.now in
    let n : ℕ = c.loop-id.id-index in
    let id : ℕ = get_or ids n 0 in
    id_below c.args.cohorts.now c.args.archive.now.kept.sealed ids n id (c.as_slice-id-items.ensures ∙ c.in_ok-ids.ensures) c.loop-id-test.true (get_or_default ids n 0 id c.loop-id-test.true)

pub read_group-requires-clause-readable : goal.read_group-requires-clause-readable
read_group-requires-clause-readable g c = rw (c.loop-id.invariant.kept.lengths) c.requires.readable

pub read_group-requires-clause-many : goal.read_group-requires-clause-many
read_group-requires-clause-many g c =
    let i = c.loop-id.invariant in
    λ known. ap length (i.kept.payloads known) ∙ c.requires.many known ∙ sym (ap length i.kept.lengths)

pub loop-id-preserved : goal.loop-id-preserved
loop-id-preserved g c =
    let d = g.D.Disk in
    let i = c.loop-id.invariant in
    let pushed = c.in_ok-push-in-Ok.ensures.items in
    let ids = c.as_slice-id-items.result.now in
    let n : ℕ = c.loop-id.id-index in
    let id : ℕ = get_or ids n 0 in
    record {
      count = omega (arith, i.count, ap length pushed, length-append c.loop-id.leaves.items (c.in_ok-leaf-in-Ok.leaf ∷ []));
      leaves = tree_step d.tells c.args.catalogue.now.rows c.args.journal.now.payloads c.loop-id.journal.payloads i.kept.payloads c.args.archive.now.trees c.args.alg
          c.args.archive.now.kept.sealed ids n id _ _ _ _ c.loop-id-test.true (get_or_default ids n 0 id c.loop-id-test.true) i.leaves c.in-Ok.ensures.group
          c.in_ok-leaf-in-Ok.ensures pushed;
      kept = kept_then d.tells d.reads d.images d.clock d.since d.faults _ _ _ i.kept c.read_group.ensures.kept;
    }

pub returns-clause-count : goal.returns-clause-count
returns-clause-count g c =
    omega (arith, c.loop-id.invariant.count, c.loop-id-test.false, ap length (c.as_slice-id-items.ensures ∙ c.in_ok-ids.ensures), length-ids c.args.cohorts.now c.args.archive.now.kept.sealed)

pub returns-clause-leaves : goal.returns-clause-leaves
returns-clause-leaves g c =
    let d = g.D.Disk in
    let ids = c.as_slice-id-items.result.now in
    let whole : take c.loop-id.id-index ids ≡ ids = ap (λ (n : ℕ). take n ids) (omega (arith, c.loop-id-test.false)) ∙ take_whole ids in
    λ known. tree_all d.tells c.args.journal.now.lengths c.args.catalogue.now.rows c.args.journal.now.payloads c.args.archive.now.kept c.args.archive.now.trees c.args.alg c.args.cohorts.now ids _
    c.requires.readable c.requires.groups (c.as_slice-id-items.ensures ∙ c.in_ok-ids.ensures)
    (c.loop-id.invariant.leaves known ∙ ap (map (leaf_at c.args.archive.now.trees c.args.alg c.args.archive.now.kept.sealed (documents_in d.tells c.args.catalogue.now.rows c.args.journal.now.payloads))) whole)
