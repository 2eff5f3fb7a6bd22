use Rattle.std.proofs.Common.{◌≡◌, ◌∙◌, ◌-◌, ◌∷◌, [], length, refl, sym, ap, arith}
use Rattle.std.proofs.lemmas.List.{length-append}
use Rattle.tree_renewal.specs.Leaf.{leaf_of}
use Rattle.archive_store.proofs.KeptJournal.{kept_none, kept_then}
use Rattle.archive_store.proofs.LeavesRead.{seal_step}
use Rattle.archive_store.proofs.leaves.seal_leaves.Goals as goal

pub loop-number-init : goal.loop-number-init
loop-number-init g c =
    let d = g.D.Disk in
    let none = c.new-leaves.ensures.items in
    record {
      within = omega arith;
      count = rw none refl;
      leaves = λ known. rw none refl;
      kept = kept_none d.tells d.reads d.images d.clock d.since d.faults _ (λ f known left. g.met.D.Disk.only_now _ f known left);
    }

pub read_group-requires-clause-known : goal.read_group-requires-clause-known
read_group-requires-clause-known g c =
    omega (arith, c.requires.groups, c.requires.count, c.groups.ensures.number, c.pending.ensures, c.loop-number-test.true)

pub read_group-requires-clause-readable : goal.read_group-requires-clause-readable
read_group-requires-clause-readable g c = rw (c.loop-number.invariant.kept.lengths) c.requires.readable

pub read_group-requires-clause-many : goal.read_group-requires-clause-many
read_group-requires-clause-many g c =
    let i = c.loop-number.invariant in
    λ known. ap length (i.kept.payloads known) ∙ c.requires.many known ∙ sym (ap length i.kept.lengths)

pub loop-number-preserved : goal.loop-number-preserved
loop-number-preserved g c =
    let d = g.D.Disk in
    let i = c.loop-number.invariant in
    let pushed = c.in_ok-push-in-Ok.ensures.items in
    let first : c.groups.result - c.pending.result ≡ length c.args.archive.now.kept.sealed = omega (arith, c.groups.ensures.number, c.pending.ensures) in
    record {
      within = omega (arith, c.loop-number-test.true);
      count = omega (arith, i.count, ap length pushed, length-append c.loop-number.leaves.items (c.in_ok-leaf-in-Ok.leaf ∷ []));
      leaves = seal_step d.tells c.args.catalogue.now.rows c.args.journal.now.payloads c.loop-number.journal.payloads i.kept.payloads (leaf_of c.args.alg []) (length c.args.archive.now.kept.sealed)
          c.loop-number.number _ _ _ _ _ i.leaves (omega (arith, first)) c.in-Ok.ensures.group c.in_ok-leaf-in-Ok.ensures pushed;
      kept = kept_then d.tells d.reads d.images d.clock d.since d.faults _ _ _ i.kept c.read_group.ensures.kept;
    }
