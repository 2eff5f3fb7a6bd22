use Rattle.std.proofs.Common.{Option, arith, ◌≡◌, ◌<◌, ◌≤◌, ◌+◌, ◌-◌, ◌++◌, ◌∷◌, [], ℕ, Some, length, map, refl, sym, ap, subst, ◌∙◌}
use Rattle.std.proofs.lemmas.List.{length-append, map-append}
use Rattle.std.specs.List.{range_with_len}
use Rattle.std.specs.Prelude.{List, replicate}
use Rattle.std.proofs.lemmas.List.{length-map}
use Rattle.archive_chain.specs.Kept.{Cover, cohort_of}
use Rattle.archive_chain.specs.declared.time_stamp.TimeStamp.{TimeStamp}
use Rattle.archive_chain.specs.Held.{Held}
use Rattle.archive_chain.specs.InsideListed.{IsListed}
use Rattle.archive_chain.proofs.Listing.{listed_as, seal_listed}
use Rattle.archive_chain.proofs.Cohorts.{cohorts_sealed}
use Rattle.archive_chain.specs.InsideTable.{Stamps, rows_seen, leaves_in, ids_seen, bones_of, sealed_in}
use Rattle.archive_chain.specs.InsideSaid.{IsSaid}
use Rattle.archive_chain.proofs.Saying.{said_more}
use Rattle.archive_chain.proofs.Walking.{sealed_length}
use Rattle.archive_chain.proofs.Sealing.{sealed_got, table_got}
use Rattle.archive_chain.proofs.archive.Archive.add_seal.Goals as goal

entry_is : (c : goal.After-self-3-1) → c.args.row.stamp ≡ length c.self.inside.stamps.items
entry_is c = c.requires.fits.entry ∙ ap (λ (h : Held). h.kept.entries) (sym c.self.view_is)

members_are : (c : goal.After-self-3-1) → ids_seen c.args.row.members ≡ range_with_len (length c.self.inside.firsts.items) c.args.count
members_are c =
    let many = ap (λ (h : Held). length h.kept.sealed) (sym c.self.view_is) ∙ sealed_length (rows_seen c.self.inside.stamps.items c.self.inside.rows.items) 0 c.self.inside.firsts.items in
    c.requires.fits.members ∙ ap (λ (n : ℕ). range_with_len n c.args.count) many

least_is : (c : goal.After-self-3-1) → c.args.row.least ≡ length c.self.inside.firsts.items
least_is c =
    c.requires.fits.least ∙ ap (λ (h : Held). length h.kept.sealed) (sym c.self.view_is) ∙ sealed_length (rows_seen c.self.inside.stamps.items c.self.inside.rows.items) 0 c.self.inside.firsts.items

some_are : (c : goal.After-self-3-1) → c.args.count ≤ c.self.inside.pending
some_are c = subst (λ (h : Held). c.args.count ≤ h.kept.pending) (sym c.self.view_is) c.requires.fits.pending

place_is : (c : goal.After-self-3-1) → c.len-place.result ≡ length c.self.inside.rows.items
place_is c = c.len-place.ensures ∙ c.self.inside.rows.ok.0

listed : (c : goal.After-self-3-1) → IsListed (map bones_of c.put-2.new.items.items) (map cohort_of (sealed_in c.put.new.items.items c.put-2.new.items.items c.push_all.new.firsts.items)) c.put-3.new.items.items c.put-4.new.items.items
listed c =
    let sealed = sealed_got c.self.inside.stamps.items c.self.inside.rows.items c.self.inside.firsts.items c.self.inside.pending c.self.invariant.0 c.args.stamp.value c.args.row c.args.count
    (entry_is c) (members_are c) c.requires.fits.alone c.requires.fits.open_ (some_are c) c.requires.stamped.tree c.requires.fits.leaves c.requires.stamped.said.sound.read.is_signed.short c.requires.fits.some c.requires.fits.most (least_is c)
    c.put.new.items.items c.put-2.new.items.items c.push_all.new.firsts.items c.len-place.result (c.put.ensures.items ∙ ap (λ (o : Option TimeStamp). c.self.inside.stamps.items ++ o ∷ []) c.of.ensures) c.put-2.ensures.items c.push_all.ensures.items (place_is c) in
    let old_sealed : List (List Cover) = sealed_in c.self.inside.stamps.items c.self.inside.rows.items c.self.inside.firsts.items in
    listed_as (map bones_of c.self.inside.rows.items ++ bones_of c.args.row ∷ []) (map bones_of c.put-2.new.items.items)
    (map cohort_of old_sealed ++ replicate c.args.count (length c.self.inside.stamps.items)) (map cohort_of (sealed_in c.put.new.items.items c.put-2.new.items.items c.push_all.new.firsts.items))
    (c.self.inside.names.items ++ length c.self.inside.stamps.items ∷ []) c.put-3.new.items.items (c.self.inside.live.items ++ length (map bones_of c.self.inside.rows.items) ∷ []) c.put-4.new.items.items
    (seal_listed (map bones_of c.self.inside.rows.items) (map cohort_of old_sealed) c.self.inside.names.items c.self.inside.live.items (length c.self.inside.stamps.items) c.args.count (bones_of c.args.row)
    c.self.invariant.2 c.self.invariant.0.indexed.below c.requires.fits.some (entry_is c) c.requires.fits.open_)
    (ap (map bones_of) c.put-2.ensures.items ∙ map-append bones_of c.self.inside.rows.items (c.args.row ∷ []))
    (ap (map cohort_of) sealed ∙ cohorts_sealed (length c.self.inside.stamps.items) c.args.stamp.value.alg c.args.stamp.value.token 0 c.args.count old_sealed)
    (c.put-3.ensures.items ∙ ap (λ (x : ℕ). c.self.inside.names.items ++ x ∷ []) (entry_is c))
    (c.put-4.ensures.items ∙ ap (λ (x : ℕ). c.self.inside.live.items ++ x ∷ []) (place_is c ∙ sym (length-map c.self.inside.rows.items bones_of)))

pub invariant_of-self : goal.invariant_of-self
invariant_of-self c = (
  table_got c.self.inside.stamps.items c.self.inside.rows.items c.self.inside.firsts.items c.self.inside.pending c.self.invariant.0 c.args.stamp.value c.args.row c.args.count
      (entry_is c) (members_are c) c.requires.fits.alone c.requires.fits.open_ (some_are c) c.requires.stamped.tree c.requires.fits.leaves c.requires.stamped.said.sound.read.is_signed.short c.requires.fits.some c.requires.fits.most (least_is c)
      c.put.new.items.items c.put-2.new.items.items c.push_all.new.firsts.items c.len-place.result (c.put.ensures.items ∙ ap (λ (o : Option TimeStamp). c.self.inside.stamps.items ++ o ∷ []) c.of.ensures) c.put-2.ensures.items c.push_all.ensures.items (place_is c),
  (let old = c.self.invariant.1 in
      let os = old.stamps in let or = old.rows in let og = old.groups in
      let p = c.put.ensures.len in let pr = c.put.ensures.room in let q = c.put-2.ensures.len in let qr = c.put-2.ensures.room in let f = c.push_all.ensures.len in let fr = c.push_all.ensures.room in
      let s : 0 < c.self.inside.spare_stamps = subst (λ (h : Held). 0 < h.room.stamps) (sym c.self.view_is) c.requires.spare.stamps in
      let g : c.args.count ≤ c.self.inside.spare_groups = subst (λ (h : Held). c.args.count ≤ h.room.groups) (sym c.self.view_is) c.requires.fits.groups in
      record { stamps = omega (arith, os, p, pr, s); rows = omega (arith, or, q, qr, s); groups = omega (arith, og, f, fr, g) }),
  listed c,
  (let old = c.self.invariant.3 in
      let on = old.names in let ol = old.live in
      let p = c.put-3.ensures.len in let pr = c.put-3.ensures.room in let q = c.put-4.ensures.len in let qr = c.put-4.ensures.room in
      let s : 0 < c.self.inside.spare_stamps = subst (λ (h : Held). 0 < h.room.stamps) (sym c.self.view_is) c.requires.spare.stamps in
      record { names = omega (arith, on, p, pr, s); live = omega (arith, ol, q, qr, s) }),
  said_more c.self.inside.policy c.self.inside.stamps.items c.put.new.items.items (Some c.args.stamp.value)
      (c.put.ensures.items ∙ ap (λ (o : Option TimeStamp). c.self.inside.stamps.items ++ o ∷ []) c.of.ensures) c.self.invariant.4
      (subst (λ (h : Held). IsSaid h.policy c.args.stamp.value) (sym c.self.view_is) c.requires.stamped.said),
  c.self.invariant.5,
)

pub returns : goal.returns
returns c =
    let sealed = sealed_got c.self.inside.stamps.items c.self.inside.rows.items c.self.inside.firsts.items c.self.inside.pending c.self.invariant.0 c.args.stamp.value c.args.row c.args.count
    (entry_is c) (members_are c) c.requires.fits.alone c.requires.fits.open_ (some_are c) c.requires.stamped.tree c.requires.fits.leaves c.requires.stamped.said.sound.read.is_signed.short c.requires.fits.some c.requires.fits.most (least_is c)
    c.put.new.items.items c.put-2.new.items.items c.push_all.new.firsts.items c.len-place.result (c.put.ensures.items ∙ ap (λ (o : Option TimeStamp). c.self.inside.stamps.items ++ o ∷ []) c.of.ensures) c.put-2.ensures.items c.push_all.ensures.items (place_is c) in
    let one : length c.put.new.items.items ≡ length c.self.inside.stamps.items + 1 = ap (λ (x : Stamps). length x) (c.put.ensures.items ∙ ap (λ (o : Option TimeStamp). c.self.inside.stamps.items ++ o ∷ []) c.of.ensures) ∙ length-append c.self.inside.stamps.items (Some c.args.stamp.value ∷ []) in
    let trees : map leaves_in c.put.new.items.items ≡ map leaves_in c.self.inside.stamps.items ++ c.args.stamp.value.tree.leaves ∷ [] =
    ap (map leaves_in) (c.put.ensures.items ∙ ap (λ (o : Option TimeStamp). c.self.inside.stamps.items ++ o ∷ []) c.of.ensures) ∙ map-append leaves_in c.self.inside.stamps.items (Some c.args.stamp.value ∷ []) in
    rw (← c.self.view_is)
    (record {
      kept = (λ i. record { entries = one i; documents = c.self.inside.documents; bytes = c.self.inside.bytes; sealed = sealed i; pending = c.self.inside.pending - c.args.count });
      trees = trees;
      policy = refl;
    })
