use Rattle.std.proofs.Common.{Option, arith, ◌≡◌, ◌<◌, ◌+◌, ◌++◌, ◌∷◌, [], ℕ, List, Some, None, length, map, refl, sym, ap, subst, ◌∙◌}
use Rattle.std.specs.List.{AllByRecursion}
use Rattle.std.proofs.lemmas.List.{length-append, length-map, map-append}
use Rattle.archive_chain.specs.Rules.{first_full}
use Rattle.archive_chain.specs.declared.time_stamp.TimeStamp.{TimeStamp}
use Rattle.archive_chain.specs.declared.row.Longer.{Longer}
use Rattle.archive_chain.specs.Held.{Held}
use Rattle.archive_chain.specs.InsideTable.{Stamps, plain_of, leaves_in, sealed_in, IsShort}
use Rattle.archive_chain.specs.InsidePieces.{AreAdded, StampsFit}
use Rattle.archive_chain.proofs.Named.{added_within}
use Rattle.archive_chain.proofs.Renewing.{stamps_sealed_got, stamps_table_got, stamps_bones_got, stamps_cohorts_got}
use Rattle.archive_chain.specs.InsideSaid.{IsSaid}
use Rattle.archive_chain.proofs.Saying.{said_more}
use Rattle.archive_chain.proofs.Listing.{listed_as}
use Rattle.archive_chain.proofs.archive.Archive.add_stamps.Goals as goal

pub lengthen-requires : goal.lengthen-requires
lengthen-requires c =
    let fit = c.requires.fits.1 in
    let added : AreAdded (map plain_of c.self.inside.rows.items) (length c.self.inside.stamps.items) 0 c.args.longer.items c.requires.fits.0 =
    subst (λ (h : Held). AreAdded h.room.table h.kept.entries 0 c.args.longer.items c.requires.fits.0) (sym c.self.view_is) fit.added in
    subst (λ (n : ℕ). AllByRecursion (λ (l : Longer). l.row < n) c.args.longer.items) (length-map c.self.inside.rows.items plain_of)
    (added_within (map plain_of c.self.inside.rows.items) (length c.self.inside.stamps.items) 0 c.args.longer.items c.requires.fits.0 added)

-- the pieces fit the fields
record Fit (c : goal.After-self-1) (cohorts : List ℕ) : Type 0 where
  added : AreAdded (map plain_of c.self.inside.rows.items) (length c.self.inside.stamps.items) 0 c.args.longer.items cohorts
  full : first_full cohorts 0 (sealed_in c.self.inside.stamps.items c.self.inside.rows.items c.self.inside.firsts.items) ≡ None
  leaves : length c.args.stamp.value.tree.leaves ≡ length cohorts
  few : length cohorts < 4294967296

fit_of : (c : goal.After-self-1) (cohorts : List ℕ) → StampsFit c.args.self.now c.args.stamp.value c.args.longer.items cohorts → Fit c cohorts
fit_of c cohorts f = record {
  added = subst (λ (h : Held). AreAdded h.room.table h.kept.entries 0 c.args.longer.items cohorts) (sym c.self.view_is) f.added;
  full = ap (λ (h : Held). first_full cohorts 0 h.kept.sealed) c.self.view_is ∙ f.full;
  leaves = f.leaves;
  few = f.few;
}

short_is : (c : goal.After-self-1) {cohorts : List ℕ} → Fit c cohorts → IsShort c.args.stamp.value
short_is c f = let leaves = f.leaves in let few = f.few in record { few_leaves = omega (arith, leaves, few); short_token = c.requires.stamped.said.sound.read.is_signed.short }

pub invariant_of-self : goal.invariant_of-self
invariant_of-self c =
    let cohorts = c.requires.fits.0 in
    let f = fit_of c cohorts c.requires.fits.1 in (
      stamps_table_got c.self.inside.stamps.items c.self.inside.rows.items c.self.inside.firsts.items c.self.inside.pending c.self.invariant.0 c.args.stamp.value c.args.longer.items cohorts f.added f.full c.requires.stamped.tree f.leaves (short_is c f)
          c.put.new.items.items c.lengthen.new.rows.items (c.put.ensures.items ∙ ap (λ (o : Option TimeStamp). c.self.inside.stamps.items ++ o ∷ []) c.of.ensures) c.lengthen.ensures.items,
      (let old = c.self.invariant.1 in
          let os = old.stamps in let or = old.rows in let og = old.groups in
          let p = c.put.ensures.len in let pr = c.put.ensures.room in let f = c.lengthen.ensures.len in let fr = c.lengthen.ensures.room in
          let s : 0 < c.self.inside.spare_stamps = subst (λ (h : Held). 0 < h.room.stamps) (sym c.self.view_is) c.requires.spare.stamps in
          record { stamps = omega (arith, os, p, pr, s); rows = omega (arith, or, f, fr, s); groups = og }),
      (let bones = stamps_bones_got c.self.inside.stamps.items c.self.inside.rows.items c.self.inside.firsts.items c.self.inside.pending c.self.invariant.0 c.args.stamp.value c.args.longer.items cohorts f.added f.full c.requires.stamped.tree f.leaves (short_is c f)
          c.put.new.items.items c.lengthen.new.rows.items (c.put.ensures.items ∙ ap (λ (o : Option TimeStamp). c.self.inside.stamps.items ++ o ∷ []) c.of.ensures) c.lengthen.ensures.items in
          let named = stamps_cohorts_got c.self.inside.stamps.items c.self.inside.rows.items c.self.inside.firsts.items c.self.inside.pending c.self.invariant.0 c.args.stamp.value c.args.longer.items cohorts f.added f.full c.requires.stamped.tree f.leaves (short_is c f)
          c.put.new.items.items c.lengthen.new.rows.items (c.put.ensures.items ∙ ap (λ (o : Option TimeStamp). c.self.inside.stamps.items ++ o ∷ []) c.of.ensures) c.lengthen.ensures.items in
          listed_as _ _ _ _ c.self.inside.names.items c.self.inside.names.items c.self.inside.live.items c.self.inside.live.items c.self.invariant.2 bones named refl refl),
      (let old = c.self.invariant.3 in
          let on = old.names in let ol = old.live in
          record { names = omega (arith, on); live = omega (arith, ol) }),
      said_more c.self.inside.policy c.self.inside.stamps.items c.put.new.items.items (Some c.args.stamp.value)
          (c.put.ensures.items ∙ ap (λ (o : Option TimeStamp). c.self.inside.stamps.items ++ o ∷ []) c.of.ensures) c.self.invariant.4
          (subst (λ (h : Held). IsSaid h.policy c.args.stamp.value) (sym c.self.view_is) c.requires.stamped.said),
      c.self.invariant.5,
    )

pub returns : goal.returns
returns c = λ cohorts fits.
    let f = fit_of c cohorts fits in
    let sealed = stamps_sealed_got c.self.inside.stamps.items c.self.inside.rows.items c.self.inside.firsts.items c.self.inside.pending c.self.invariant.0 c.args.stamp.value c.args.longer.items cohorts f.added f.full c.requires.stamped.tree f.leaves (short_is c f)
    c.put.new.items.items c.lengthen.new.rows.items (c.put.ensures.items ∙ ap (λ (o : Option TimeStamp). c.self.inside.stamps.items ++ o ∷ []) c.of.ensures) c.lengthen.ensures.items in
    let one : length c.put.new.items.items ≡ length c.self.inside.stamps.items + 1 = ap (λ (x : Stamps). length x) (c.put.ensures.items ∙ ap (λ (o : Option TimeStamp). c.self.inside.stamps.items ++ o ∷ []) c.of.ensures) ∙ length-append c.self.inside.stamps.items (Some c.args.stamp.value ∷ []) in
    let trees : map leaves_in c.put.new.items.items ≡ map leaves_in c.self.inside.stamps.items ++ c.args.stamp.value.tree.leaves ∷ [] =
    ap (map leaves_in) (c.put.ensures.items ∙ ap (λ (o : Option TimeStamp). c.self.inside.stamps.items ++ o ∷ []) c.of.ensures) ∙ map-append leaves_in c.self.inside.stamps.items (Some c.args.stamp.value ∷ []) in
    rw (← c.self.view_is)
    (record {
      kept = (λ i. record { entries = one i; documents = c.self.inside.documents; bytes = c.self.inside.bytes; sealed = sealed i; pending = c.self.inside.pending });
      trees = trees;
      policy = refl;
    })
