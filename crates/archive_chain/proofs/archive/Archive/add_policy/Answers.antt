use Rattle.std.proofs.Common.{arith, Option, None, ◌≡◌, ◌<◌, ◌++◌, ◌∷◌, [], map, refl, sym, ap, subst, ◌∙◌}
use Rattle.std.proofs.lemmas.List.{map-append}
use Rattle.archive_chain.specs.Kept.{cohort_of}
use Rattle.archive_chain.specs.declared.time_stamp.TimeStamp.{TimeStamp}
use Rattle.archive_chain.specs.Held.{Held}
use Rattle.archive_chain.specs.InsideTable.{leaves_in}
use Rattle.archive_chain.proofs.Listing.{listed_as}
use Rattle.archive_chain.proofs.Passing.{passed_sealed, passed_length, passed_table}
use Rattle.algorithm_policy.specs.Content.{first_dropped}
use Rattle.archive_chain.proofs.Saying.{Trusts, said_more, all_kept}
use Rattle.archive_chain.proofs.archive.Archive.add_policy.Goals as goal

pub invariant_of-self : goal.invariant_of-self
invariant_of-self c =
    let stamps = c.put.ensures.items ∙ ap (λ (o : Option TimeStamp). c.self.inside.stamps.items ++ o ∷ []) c.none.ensures in
    let kept : first_dropped c.self.inside.policy c.args.policy ≡ None = subst (λ (h : Held). first_dropped h.policy c.args.policy ≡ None) (sym c.self.view_is) c.requires.kept in
    let trusts : Trusts c.self.inside.policy c.args.policy = c.what_a_policy_keeps.ensures.found c.self.inside.policy c.args.policy c.requires.valid kept in (
      passed_table c.self.inside.stamps.items c.self.inside.rows.items c.self.inside.firsts.items c.self.inside.pending c.self.invariant.0 c.put.new.items.items stamps c.self.inside.pending c.self.invariant.0.few,
      (let old = c.self.invariant.1 in
          let os = old.stamps in let or = old.rows in
          let p = c.put.ensures.len in let pr = c.put.ensures.room in
          let s : 0 < c.self.inside.spare_stamps = subst (λ (h : Held). 0 < h.room.stamps) (sym c.self.view_is) c.requires.spare.stamps in
          record { stamps = omega (arith, os, p, pr, s); rows = omega (arith, or, s); groups = old.groups }),
      listed_as _ _ _ _ c.self.inside.names.items c.self.inside.names.items c.self.inside.live.items c.self.inside.live.items c.self.invariant.2 refl
          (ap (map cohort_of) (passed_sealed c.self.inside.stamps.items c.self.inside.rows.items c.self.inside.firsts.items c.self.inside.pending c.self.invariant.0 c.put.new.items.items stamps)) refl refl,
      (let old = c.self.invariant.3 in
          let on = old.names in let ol = old.live in
          record { names = omega (arith, on); live = omega (arith, ol) }),
      said_more c.args.policy c.self.inside.stamps.items c.put.new.items.items None stamps (all_kept c.self.inside.policy c.args.policy c.self.inside.stamps.items trusts c.self.invariant.4) tt,
      c.self.invariant.5,
    )

pub returns : goal.returns
returns c = λ text says.
    let stamps = c.put.ensures.items ∙ ap (λ (o : Option TimeStamp). c.self.inside.stamps.items ++ o ∷ []) c.none.ensures in
    let one = passed_length c.self.inside.stamps.items c.self.inside.rows.items c.self.inside.firsts.items c.self.inside.pending c.self.invariant.0 c.put.new.items.items stamps in
    let sealed = passed_sealed c.self.inside.stamps.items c.self.inside.rows.items c.self.inside.firsts.items c.self.inside.pending c.self.invariant.0 c.put.new.items.items stamps in
    let trees = ap (map leaves_in) stamps ∙ map-append leaves_in c.self.inside.stamps.items (None ∷ []) in
    rw (← c.self.view_is)
    (record {
      kept = (λ i. record { entries = one i; documents = c.self.inside.documents; bytes = c.self.inside.bytes; sealed = sealed i; pending = c.self.inside.pending });
      trees = trees;
      policy = says;
    })
