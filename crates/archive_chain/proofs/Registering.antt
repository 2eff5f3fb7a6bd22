-- The cohorts after new trees, over what contracts see of an archive.
use Rattle.std.proofs.Common.{◌≡◌, ℕ, suc, ◌<◌, true, List, [], ◌∷◌, ◌++◌, length, map, None, refl, sym, ap, subst}
use Rattle.std.specs.List.{AllByRecursion, list_any}
use Rattle.std.proofs.lemmas.List.{length-map}
use Rattle.archive_chain.specs.Kept.{cohort_of, has_name}
use Rattle.archive_chain.specs.Held.{Plain, Held}
use Rattle.archive_chain.specs.declared.row.Row.{Row}
use Rattle.archive_chain.specs.InsideTable.{plain_of, bones_of}
use Rattle.archive_chain.specs.InsideIndex.{Bones, taken_bones, renamed}
use Rattle.archive_chain.specs.InsideListed.{AreOpen, IsListed}
use Rattle.archive_chain.specs.InsidePieces.{bare, staying}
use Rattle.archive_chain.proofs.Renewing.{bare_plain}
use Rattle.archive_chain.proofs.Renaming.{trees_listed}

pub register_listed : (h : Held) (cohorts names live : List ℕ) (new : Bones) → IsListed (map bare h.room.table) (map cohort_of h.kept.sealed) names live
    → AllByRecursion (λ c. c < h.kept.entries) (map cohort_of h.kept.sealed) → list_any (has_name cohorts) (map cohort_of h.kept.sealed) ≡ true → new.stamp ≡ h.kept.entries → new.next ≡ None
    → IsListed (map (taken_bones cohorts (length h.room.table)) (map bare h.room.table) ++ new ∷ []) (map (renamed cohorts h.kept.entries) (map cohort_of h.kept.sealed))
    (staying cohorts names names ++ h.kept.entries ∷ []) (staying cohorts names live ++ length h.room.table ∷ [])
register_listed h cohorts names live new old below some stamp none =
    subst (λ (n : ℕ). IsListed (map (taken_bones cohorts n) (map bare h.room.table) ++ new ∷ []) (map (renamed cohorts h.kept.entries) (map cohort_of h.kept.sealed))
    (staying cohorts names names ++ h.kept.entries ∷ []) (staying cohorts names live ++ n ∷ [])) (length-map h.room.table bare)
    (trees_listed cohorts (map bare h.room.table) (map cohort_of h.kept.sealed) names live h.kept.entries new old below some stamp none)

-- one row a cohort
pub as_many : (table : List Bones) (live names : List ℕ) → AreOpen table live names → length live ≡ length names
as_many table [] [] all = refl
as_many table [] (name ∷ names) all = absurd all
as_many table (place ∷ live) [] all = absurd all
as_many table (place ∷ live) (name ∷ names) all = ap suc (as_many table live names all.1)

-- the cohorts, over what contracts see
pub listed_seen : (rows : List Row) (table : List Plain) (all seen names live : List ℕ) → map plain_of rows ≡ table → all ≡ seen → IsListed (map bones_of rows) all names live → IsListed (map bare table) seen names live
listed_seen rows table all seen names live same are old =
    subst (λ (l : List ℕ). IsListed (map bare table) l names live) are
    (subst (λ (t : List Plain). IsListed (map bare t) all names live) same (subst (λ (t : List Bones). IsListed t all names live) (sym (bare_plain rows)) old))
