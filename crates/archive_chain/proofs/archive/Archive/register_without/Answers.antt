use Rattle.std.proofs.Common.{arith, ◌≡◌, ◌<◌, ℕ, List, [], ◌∷◌, ◌++◌, length, map, refl, sym, ap, subst, ◌∙◌}
use Rattle.std.specs.List.{AllByRecursion}
use Rattle.std.proofs.lemmas.List.{length-map}
use Rattle.archive_chain.specs.Kept.{cohort_of}
use Rattle.archive_chain.specs.Held.{Held}
use Rattle.archive_chain.specs.InsideTable.{plain_of, bones_of, sealed_in}
use Rattle.archive_chain.specs.InsidePieces.{staying}
use Rattle.archive_chain.proofs.Listing.{listed_as}
use Rattle.archive_chain.proofs.Registering.{register_listed, listed_seen, as_many}
use Rattle.archive_chain.proofs.archive.Archive.register_without.Goals as goal

pub staying-requires-2-clause-alike : goal.staying-requires-2-clause-alike
staying-requires-2-clause-alike c =
    ap (λ (l : List ℕ). length l) c.as_slice.ensures.value ∙ as_many (map bones_of c.self.inside.rows.items) c.self.inside.live.items c.self.inside.names.items c.self.invariant.2.are_open
    ∙ sym (ap (λ (l : List ℕ). length l) c.as_slice-names.ensures.value)

pub returns : goal.returns
returns c =
    let h = c.args.self.now in
    let cohorts = c.args.cohorts.now in
    let names = c.self.inside.names.items in
    let live = c.self.inside.live.items in
    let number : c.len-number.result ≡ h.kept.entries = c.len-number.ensures in
    let row : c.len-row.result ≡ length h.room.table = c.len-row.ensures ∙ c.self.inside.rows.ok.0 ∙ sym (length-map c.self.inside.rows.items plain_of) ∙ ap (λ (x : Held). length x.room.table) c.self.view_is in
    let names_are : c.reserve.new.self.items ≡ staying cohorts names names ++ h.kept.entries ∷ [] =
    c.in_ok-reserve.ensures.items ∙ c.in_ok-names_after.ensures ∙ (λ i. staying cohorts (c.as_slice-names.ensures.value i) (c.as_slice-names.ensures.value i) ++ number i ∷ []) in
    let live_are : c.reserve-2.new.self.items ≡ staying cohorts names live ++ length h.room.table ∷ [] =
    c.in_ok-reserve-2.ensures.items ∙ c.in_ok-live_after.ensures ∙ (λ i. staying cohorts (c.as_slice-names.ensures.value i) (c.as_slice.ensures.value i) ++ row i ∷ []) in
    let below : AllByRecursion (λ n. n < h.kept.entries) (map cohort_of h.kept.sealed) =
    subst (λ (x : Held). AllByRecursion (λ n. n < x.kept.entries) (map cohort_of x.kept.sealed)) c.self.view_is c.self.invariant.0.indexed.below in
    let before = listed_seen c.self.inside.rows.items h.room.table (map cohort_of (sealed_in c.self.inside.stamps.items c.self.inside.rows.items c.self.inside.firsts.items)) (map cohort_of h.kept.sealed) names live
    (ap (λ (x : Held). x.room.table) c.self.view_is) (ap (λ (x : Held). map cohort_of x.kept.sealed) c.self.view_is) c.self.invariant.2 in
    let spare : c.self.inside.spare_stamps ≡ h.room.stamps = ap (λ (x : Held). x.room.stamps) c.self.view_is in
    let names_room = c.in_ok-reserve.ensures.ok in
    let live_room = c.in_ok-reserve-2.ensures.ok in record {
      listed = λ new stamp none. listed_as _ _ _ _ (staying cohorts names names ++ h.kept.entries ∷ []) c.reserve.new.self.items (staying cohorts names live ++ length h.room.table ∷ []) c.reserve-2.new.self.items
          (register_listed h cohorts names live new before below c.requires.some stamp none) refl refl names_are live_are;
      room = record { names = omega (arith, names_room, spare); live = omega (arith, live_room, spare) };
    }
