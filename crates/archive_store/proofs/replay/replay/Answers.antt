use Rattle.std.proofs.Common.{◌∙◌, ◌+◌, sym, ap, subst, arith, length, map, take, ℕ, List}
use Rattle.archive_store.specs.Opening.{Spoils}
use Rattle.archive_store.proofs.KeptJournal.{kept_none, kept_then}
use Rattle.archive_store.proofs.Replaying.{replay_starts, replayed_as, replay_ends}
use Rattle.archive_store.proofs.replay.replay.Goals as goal

pub loop-entry-init : goal.loop-entry-init
loop-entry-init g c =
    let d = g.D.Disk in
    record {
      count = c.frames-count.ensures.count;
      within = omega arith;
      few = c.frames-count.ensures.few;
      kept = kept_none d.tells d.reads d.images d.clock d.since d.faults _ (λ f known left. g.met.D.Disk.only_now _ f known left);
      so_far = rw (c.new-catalogue.ensures) (replay_starts d.tells _ c.in-Ok.ensures);
    }

pub replay_one-requires-clause-entry : goal.replay_one-requires-clause-entry
replay_one-requires-clause-entry g c =
    let i = c.loop-entry.invariant in
    omega (arith, c.loop-entry-test.true, i.count, ap length i.kept.lengths)

pub replay_one-requires-clause-few : goal.replay_one-requires-clause-few
replay_one-requires-clause-few g c =
    let i = c.loop-entry.invariant in
    omega (arith, i.few, i.count, ap length i.kept.lengths)

pub replay_one-requires-clause-sizes : goal.replay_one-requires-clause-sizes
replay_one-requires-clause-sizes g c =
    let i = c.loop-entry.invariant in
    λ known. ap (map length) (i.kept.payloads known) ∙ c.requires.sizes known ∙ sym i.kept.lengths

pub loop-entry-preserved : goal.loop-entry-preserved
loop-entry-preserved g c =
    let d = g.D.Disk in
    let i = c.loop-entry.invariant in
    let e = c.in-Ok-replay_one.ensures in
    record {
      count = i.count;
      within = omega (arith, c.loop-entry-test.true, i.within);
      few = i.few;
      kept = kept_then d.tells d.reads d.images d.clock d.since d.faults _ _ _ i.kept e.kept;
      so_far = rw (e.kept.lengths) (replayed_as _ _ _ _ _ _ e.more (λ known. ap (take (c.loop-entry.entry + 1)) (e.kept.payloads known)));
    }

pub returns-in-Err-clause-spoils : goal.returns-in-Err-clause-spoils
returns-in-Err-clause-spoils g c =
    λ known. subst (λ (ps : List (List ℕ)). Spoils ps c.in-Err.fault) (c.loop-entry.invariant.kept.payloads known) (c.in-Err.ensures.spoils known)

pub returns-in-Err-clause-kept : goal.returns-in-Err-clause-kept
returns-in-Err-clause-kept g c =
    let d = g.D.Disk in
    kept_then d.tells d.reads d.images d.clock d.since d.faults _ _ _ c.loop-entry.invariant.kept c.replay_one.ensures.kept

pub returns-clause-replayed : goal.returns-clause-replayed
returns-clause-replayed g c =
    let i = c.loop-entry.invariant in
    replay_ends _ _ _ _ _ _ i.so_far (omega (arith, c.loop-entry-test.false, i.within, i.count, ap length i.kept.lengths))
    (λ known. ap (map length) (i.kept.payloads known) ∙ c.requires.sizes known ∙ sym i.kept.lengths)
