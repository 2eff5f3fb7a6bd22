use Rattle.std.proofs.Common.{Option, arith, ◌≡◌, ◌<◌, ◌≤◌, ◌+◌, ◌++◌, ◌∷◌, [], ℕ, true, List, Some, None, length, map, refl, sym, ap, subst, ◌∙◌}
use Rattle.std.specs.List.{AllByRecursion}
use Rattle.std.proofs.lemmas.List.{length-append, length-map, map-append}
use Rattle.archive_chain.specs.Kept.{has_name, ids_in}
use Rattle.archive_chain.specs.InsidePeak.{IsPeak}
use Rattle.archive_chain.specs.Rules.{first_full}
use Rattle.std.specs.Prelude.{vec_len, vec_capacity}
use Rattle.archive_chain.specs.Kept.{cohort_of}
use Rattle.archive_chain.specs.declared.time_stamp.TimeStamp.{TimeStamp}
use Rattle.archive_chain.specs.InsideIndex.{taken_bones, renamed}
use Rattle.archive_chain.specs.InsideListed.{IsListed}
use Rattle.archive_chain.specs.InsideSaid.{IsSaid}
use Rattle.archive_chain.proofs.Saying.{said_more}
use Rattle.archive_chain.proofs.Listing.{listed_as}
use Rattle.archive_chain.specs.InsideTable.{bones_of}
use Rattle.archive_chain.specs.InsidePieces.{bare}
use Rattle.archive_chain.specs.Held.{Held}
use Rattle.archive_chain.specs.InsideTable.{Stamps, plain_of, leaves_in, ids_seen, sealed_in}
use Rattle.archive_chain.specs.InsidePieces.{AreAt, TreesFit}
use Rattle.archive_chain.proofs.Named.{at_within}
use Rattle.archive_chain.proofs.Renewing.{trees_sealed_got, trees_table_got, trees_bones_got, trees_cohorts_got}
use Rattle.archive_chain.proofs.archive.Archive.add_trees.Goals as goal

pub lead-requires : goal.lead-requires
lead-requires c =
    let fit = c.requires.fits.1 in
    let places : AreAt (map plain_of c.self.inside.rows.items) c.args.places.items c.requires.fits.0 = subst (λ (h : Held). AreAt h.room.table c.args.places.items c.requires.fits.0) (sym c.self.view_is) fit.places in
    subst (λ (n : ℕ). AllByRecursion (λ (p : ℕ). p < n) c.args.places.items) (length-map c.self.inside.rows.items plain_of) (at_within (map plain_of c.self.inside.rows.items) c.args.places.items c.requires.fits.0 places)

-- the pieces fit the fields
record Fit (c : goal.After-self-1) (cohorts : List ℕ) : Type 0 where
  entry : c.args.row.stamp ≡ length c.self.inside.stamps.items
  members : ids_seen c.args.row.members ≡ ids_in cohorts 0 (sealed_in c.self.inside.stamps.items c.self.inside.rows.items c.self.inside.firsts.items)
  named : AreAt (map plain_of c.self.inside.rows.items) c.args.places.items cohorts
  full : first_full cohorts 0 (sealed_in c.self.inside.stamps.items c.self.inside.rows.items c.self.inside.firsts.items) ≡ None
  alone : c.args.row.later.items ≡ []
  open_ : c.args.row.next ≡ None
  listed : IsListed (map (taken_bones cohorts (length (map plain_of c.self.inside.rows.items))) (map bare (map plain_of c.self.inside.rows.items)) ++ bones_of c.args.row ∷ [])
      (map (renamed cohorts (length c.self.inside.stamps.items)) (map cohort_of (sealed_in c.self.inside.stamps.items c.self.inside.rows.items c.self.inside.firsts.items))) c.args.names.items c.args.live.items
  leaves : length c.args.stamp.value.tree.leaves ≡ length (ids_in cohorts 0 (sealed_in c.self.inside.stamps.items c.self.inside.rows.items c.self.inside.firsts.items))
  most : ℕ
  most_is : c.args.row.most ≡ most + 1
  peak : IsPeak (λ n. has_name cohorts n ≡ true) (sealed_in c.self.inside.stamps.items c.self.inside.rows.items c.self.inside.firsts.items) most c.args.row.least

fit_of : (c : goal.After-self-1) (cohorts : List ℕ) → TreesFit c.args.self.now c.args.stamp.value c.args.row c.args.places.items c.args.names.items c.args.live.items cohorts → Fit c cohorts
fit_of c cohorts f = record {
  entry = f.entry ∙ ap (λ (h : Held). h.kept.entries) (sym c.self.view_is);
  members = f.members ∙ ap (λ (h : Held). ids_in cohorts 0 h.kept.sealed) (sym c.self.view_is);
  named = subst (λ (h : Held). AreAt h.room.table c.args.places.items cohorts) (sym c.self.view_is) f.places;
  full = ap (λ (h : Held). first_full cohorts 0 h.kept.sealed) c.self.view_is ∙ f.full;
  alone = f.alone;
  open_ = f.open_;
  listed = subst (λ (h : Held). IsListed (map (taken_bones cohorts (length h.room.table)) (map bare h.room.table) ++ bones_of c.args.row ∷ [])
      (map (renamed cohorts h.kept.entries) (map cohort_of h.kept.sealed)) c.args.names.items c.args.live.items) (sym c.self.view_is) f.listed;
  leaves = f.leaves ∙ ap (λ (h : Held). length (ids_in cohorts 0 h.kept.sealed)) (sym c.self.view_is);
  most = f.most;
  most_is = f.most_is;
  peak = subst (λ (h : Held). IsPeak (λ n. has_name cohorts n ≡ true) h.kept.sealed f.most c.args.row.least) (sym c.self.view_is) f.peak;
}

pub invariant_of-self : goal.invariant_of-self
invariant_of-self c =
    let cohorts = c.requires.fits.0 in
    let f = fit_of c cohorts c.requires.fits.1 in (
      trees_table_got c.self.inside.stamps.items c.self.inside.rows.items c.self.inside.firsts.items c.self.inside.pending c.self.invariant.0 c.args.stamp.value c.args.row c.args.places.items cohorts
          f.entry f.alone f.open_ f.members f.named f.full c.requires.stamped.tree f.leaves c.requires.stamped.said.sound.read.is_signed.short f.most f.most_is f.peak
          c.put.new.items.items c.lead.new.rows.items c.put-2.new.items.items c.len-next.result (c.put.ensures.items ∙ ap (λ (o : Option TimeStamp). c.self.inside.stamps.items ++ o ∷ []) c.of.ensures) c.lead.ensures.items c.put-2.ensures.items (c.len-next.ensures ∙ c.self.inside.rows.ok.0),
      (let old = c.self.invariant.1 in
          let os = old.stamps in let or = old.rows in let og = old.groups in
          let p = c.put.ensures.len in let pr = c.put.ensures.room in let q = c.put-2.ensures.len in let qr = c.put-2.ensures.room in let f = c.lead.ensures.len in let fr = c.lead.ensures.room in
          let s : 0 < c.self.inside.spare_stamps = subst (λ (h : Held). 0 < h.room.stamps) (sym c.self.view_is) c.requires.spare.stamps in
          record { stamps = omega (arith, os, p, pr, s); rows = omega (arith, or, q, qr, f, fr, s); groups = og }),
      (let bones = trees_bones_got c.self.inside.stamps.items c.self.inside.rows.items c.self.inside.firsts.items c.self.inside.pending c.self.invariant.0 c.args.stamp.value c.args.row c.args.places.items cohorts
          f.entry f.alone f.open_ f.members f.named f.full c.requires.stamped.tree f.leaves c.requires.stamped.said.sound.read.is_signed.short f.most f.most_is f.peak
          c.put.new.items.items c.lead.new.rows.items c.put-2.new.items.items c.len-next.result (c.put.ensures.items ∙ ap (λ (o : Option TimeStamp). c.self.inside.stamps.items ++ o ∷ []) c.of.ensures) c.lead.ensures.items c.put-2.ensures.items (c.len-next.ensures ∙ c.self.inside.rows.ok.0) in
          let named = trees_cohorts_got c.self.inside.stamps.items c.self.inside.rows.items c.self.inside.firsts.items c.self.inside.pending c.self.invariant.0 c.args.stamp.value c.args.row c.args.places.items cohorts
          f.entry f.alone f.open_ f.members f.named f.full c.requires.stamped.tree f.leaves c.requires.stamped.said.sound.read.is_signed.short f.most f.most_is f.peak
          c.put.new.items.items c.lead.new.rows.items c.put-2.new.items.items c.len-next.result (c.put.ensures.items ∙ ap (λ (o : Option TimeStamp). c.self.inside.stamps.items ++ o ∷ []) c.of.ensures) c.lead.ensures.items c.put-2.ensures.items (c.len-next.ensures ∙ c.self.inside.rows.ok.0) in
          listed_as _ _ _ _ c.args.names.items c.args.names.items c.args.live.items c.args.live.items f.listed bones named refl refl),
      (let n = c.requires.room.names in let l = c.requires.room.live in
          let rn : vec_len c.args.names + c.self.inside.spare_stamps ≤ vec_capacity c.args.names + 1 = subst (λ (h : Held). vec_len c.args.names + h.room.stamps ≤ vec_capacity c.args.names + 1) (sym c.self.view_is) n in
          let rl : vec_len c.args.live + c.self.inside.spare_stamps ≤ vec_capacity c.args.live + 1 = subst (λ (h : Held). vec_len c.args.live + h.room.stamps ≤ vec_capacity c.args.live + 1) (sym c.self.view_is) l in
          let s : 0 < c.self.inside.spare_stamps = subst (λ (h : Held). 0 < h.room.stamps) (sym c.self.view_is) c.requires.spare.stamps in
          record { names = omega (arith, rn, s); live = omega (arith, rl, s) }),
      said_more c.self.inside.policy c.self.inside.stamps.items c.put.new.items.items (Some c.args.stamp.value)
          (c.put.ensures.items ∙ ap (λ (o : Option TimeStamp). c.self.inside.stamps.items ++ o ∷ []) c.of.ensures) c.self.invariant.4
          (subst (λ (h : Held). IsSaid h.policy c.args.stamp.value) (sym c.self.view_is) c.requires.stamped.said),
      c.self.invariant.5,
    )

pub returns : goal.returns
returns c = λ cohorts fits.
    let f = fit_of c cohorts fits in
    let sealed = trees_sealed_got c.self.inside.stamps.items c.self.inside.rows.items c.self.inside.firsts.items c.self.inside.pending c.self.invariant.0 c.args.stamp.value c.args.row c.args.places.items cohorts
    f.entry f.alone f.open_ f.members f.named f.full c.requires.stamped.tree f.leaves c.requires.stamped.said.sound.read.is_signed.short f.most f.most_is f.peak
    c.put.new.items.items c.lead.new.rows.items c.put-2.new.items.items c.len-next.result (c.put.ensures.items ∙ ap (λ (o : Option TimeStamp). c.self.inside.stamps.items ++ o ∷ []) c.of.ensures) c.lead.ensures.items c.put-2.ensures.items (c.len-next.ensures ∙ c.self.inside.rows.ok.0) in
    let one : length c.put.new.items.items ≡ length c.self.inside.stamps.items + 1 = ap (λ (x : Stamps). length x) (c.put.ensures.items ∙ ap (λ (o : Option TimeStamp). c.self.inside.stamps.items ++ o ∷ []) c.of.ensures) ∙ length-append c.self.inside.stamps.items (Some c.args.stamp.value ∷ []) in
    let trees : map leaves_in c.put.new.items.items ≡ map leaves_in c.self.inside.stamps.items ++ c.args.stamp.value.tree.leaves ∷ [] =
    ap (map leaves_in) (c.put.ensures.items ∙ ap (λ (o : Option TimeStamp). c.self.inside.stamps.items ++ o ∷ []) c.of.ensures) ∙ map-append leaves_in c.self.inside.stamps.items (Some c.args.stamp.value ∷ []) in
    rw (← c.self.view_is)
    (record {
      kept = (λ i. record { entries = one i; documents = c.self.inside.documents; bytes = c.self.inside.bytes; sealed = sealed i; pending = c.self.inside.pending });
      trees = trees;
      policy = refl;
    })
