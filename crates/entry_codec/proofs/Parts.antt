-- The parts of an entry: what their forms lead to, and that they accept what is spelled.
use Rattle.std.proofs.Common.{◌≡◌, ℕ, zero, suc, ◌+◌, ◌-◌, ◌<◌, ◌≤◌, cond, List, [], ◌∷◌, ◌++◌, length, refl, arith}
use Rattle.std.specs.Prelude.{min, sum_by, nat_eq}
use Rattle.std.specs.List.{flat_map, AllByRecursion}
use Rattle.std.proofs.lemmas.List.Sums.{sum_by-cons}
use Rattle.std.proofs.lemmas.Bool.{leb-true, and_parts}
use Rattle.hash_kit.specs.declared.algorithm.HashAlg.{HashAlg}
use Rattle.hash_kit.specs.declared.algorithm.HashAlg.TheVariants.{Sha256, Sha384, Sha512}
use Rattle.object_groups.specs.Groups.{longest_document, most_documents, most_bytes, bytes_in, IsGroup}
use Rattle.entry_codec.specs.Form.{some_bytes, repeated}
use Rattle.entry_codec.specs.Fault.{ranged, hash_form, counted_form, document_form, after_document, documents_form, group_form, after_group, groups_form, cohort_form, after_cohort, cohorts_form}
use Rattle.entry_codec.specs.Spelling.{number, counted, hash_byte, group_spelling, AreAscending, AreCohorts}
use Rattle.entry_codec.proofs.Forms.{Accepts, accepts_followed, accepts_made, Leads, leads_followed, leads_made, leads_weakly, AreBytes, leads_some_bytes, accepts_some_bytes}
use Rattle.entry_codec.proofs.Numbers.{IsRanged, leads_ranged, accepts_ranged}

-- ---- hashes

abbrev pub IsHash : List ℕ → HashAlg → Type 0
IsHash taken hash = taken ≡ hash_byte hash ∷ []

pub leads_hash : Leads hash_form IsHash
unfolding Leads hash_form
leads_hash = ((1, refl), λ b fits. let parts = and_parts _ _ fits in one_of b (leb-true 1 b parts.0) (leb-true b 3 parts.1))
  where
    one_of : (b : ℕ) → 1 ≤ b → b ≤ 3 → IsHash (b ∷ []) (cond (nat_eq b 1) Sha256 (cond (nat_eq b 2) Sha384 Sha512))
    one_of zero low high = absurd (omega arith)
    one_of (suc zero) low high = refl
    one_of (suc (suc zero)) low high = refl
    one_of (suc (suc (suc zero))) low high = refl
    one_of (suc (suc (suc (suc b)))) low high = absurd (omega arith)

pub accepts_hash : (hash : HashAlg) → Accepts hash_form (hash_byte hash ∷ []) hash
unfolding Accepts hash_form
accepts_hash Sha256 = (refl, refl)
accepts_hash Sha384 = (refl, refl)
accepts_hash Sha512 = (refl, refl)

-- ---- counted bytes

pub record AreCounted (most : ℕ) (taken bytes : List ℕ) : Type 0 where
  pub taken_is : taken ≡ counted bytes
  pub fit : length bytes ≤ most

pub leads_counted : (most : ℕ) → most < 4294967296 → Leads (counted_form most) (AreCounted most)
unfolding counted_form
leads_counted most fit = leads_followed (ranged 0 most) some_bytes (IsRanged 0 most) (AreCounted most) (leads_ranged 0 most (omega arith) fit) (λ xs n h.
    leads_weakly (some_bytes n) (AreBytes n) (λ ys bytes. AreCounted most (xs ++ ys) bytes) (λ ys bytes are. all xs n ys bytes h are) (leads_some_bytes n))
  where
    all : (xs : List ℕ) (n : ℕ) (ys bytes : List ℕ) → IsRanged 0 most xs n → AreBytes n ys bytes → AreCounted most (xs ++ ys) bytes
    all xs n ys bytes h are =
        let size = are.1 in
        let below = h.below in
        record { taken_is = rw (h.taken_is, are.0, size) refl; fit = omega arith }

pub accepts_counted : (most : ℕ) (bytes : List ℕ) → length bytes ≤ most → most < 4294967296 → Accepts (counted_form most) (counted bytes) bytes
unfolding counted_form
accepts_counted most bytes fit few = accepts_followed (ranged 0 most) some_bytes (number (length bytes)) bytes (length bytes) bytes (accepts_ranged 0 most (length bytes) (omega arith) fit few) (accepts_some_bytes bytes)

-- ---- documents

pub record AreDocuments (n room : ℕ) (taken : List ℕ) (ds : List (List ℕ)) : Type 0 where
  pub taken_is : taken ≡ flat_map counted ds
  pub count : length ds ≡ n
  pub short : AllByRecursion (λ d. length d ≤ longest_document) ds
  pub together : bytes_in ds ≤ room

pub leads_documents : (n room : ℕ) → Leads (documents_form n room) (AreDocuments n room)
unfolding Leads repeated document_form
leads_documents zero room = record { taken_is = refl; count = refl; short = tt; together = omega arith }
leads_documents (suc n) room =
    leads_followed (document_form room) _ (AreCounted (min longest_document room)) (AreDocuments (suc n) room) (leads_counted (min longest_document room) (omega arith)) (λ xs d h.
    leads_made (documents_form n (after_document room d)) (λ ds. d ∷ ds) (AreDocuments n (after_document room d)) (λ ys ds. AreDocuments (suc n) room (xs ++ ys) ds)
    (leads_documents n (after_document room d)) (λ ys ds are. all n xs d ys ds h are))
  where
    all : (n : ℕ) (xs d ys : List ℕ) (ds : List (List ℕ)) → AreCounted (min longest_document room) xs d → AreDocuments n (after_document room d) ys ds → AreDocuments (suc n) room (xs ++ ys) (d ∷ ds)
    all n xs d ys ds h are =
        let fit = h.fit in
        let count = are.count in
        let together = are.together in
        let sum = sum_by-cons (λ (x : List ℕ). length x) d ds in
        record { taken_is = rw (h.taken_is, are.taken_is) refl; count = omega arith; short = (omega arith, are.short); together = omega arith }

pub accepts_documents : (ds : List (List ℕ)) (room : ℕ) → AllByRecursion (λ d. length d ≤ longest_document) ds → bytes_in ds ≤ room → Accepts (documents_form (length ds) room) (flat_map counted ds) ds
unfolding Accepts repeated document_form
accepts_documents [] room short together = refl
accepts_documents (d ∷ ds) room short together =
    let one = short.0 in
    let sum = sum_by-cons (λ (x : List ℕ). length x) d ds in
    accepts_followed (document_form room) _ (counted d) (flat_map counted ds) d (d ∷ ds) (accepts_counted (min longest_document room) d (omega arith) (omega arith))
    (accepts_made (documents_form (length ds) (after_document room d)) (λ l. d ∷ l) (flat_map counted ds) ds (accepts_documents ds (after_document room d) short.1 (omega arith)))

-- ---- groups

pub record IsTakenGroup (room : ℕ) (taken : List ℕ) (group : List (List ℕ)) : Type 0 where
  pub taken_is : taken ≡ group_spelling group
  pub is_group : IsGroup group
  pub together : bytes_in group ≤ room

pub leads_group : (room : ℕ) → Leads (group_form room) (IsTakenGroup room)
unfolding group_form
leads_group room =
    leads_followed (ranged 1 most_documents) _ (IsRanged 1 most_documents) (IsTakenGroup room) (leads_ranged 1 most_documents (omega arith) (omega arith)) (λ xs n h.
    leads_weakly (documents_form n (min most_bytes room)) (AreDocuments n (min most_bytes room)) (λ ys ds. IsTakenGroup room (xs ++ ys) ds) (λ ys ds are. all xs n ys ds h are) (leads_documents n (min most_bytes room)))
  where
    all : (xs : List ℕ) (n : ℕ) (ys : List ℕ) (ds : List (List ℕ)) → IsRanged 1 most_documents xs n → AreDocuments n (min most_bytes room) ys ds → IsTakenGroup room (xs ++ ys) ds
    all xs n ys ds h are =
        let count = are.count in
        let above = h.above in
        let below = h.below in
        let together = are.together in
        record { taken_is = rw (h.taken_is, are.taken_is, count) refl; is_group = record { some = omega arith; few = omega arith; short = are.short; together = omega arith }; together = omega arith }

pub accepts_group : (room : ℕ) (ds : List (List ℕ)) → IsGroup ds → bytes_in ds ≤ room → Accepts (group_form room) (group_spelling ds) ds
unfolding group_form
accepts_group room ds is fit =
    let together = is.together in
    accepts_followed (ranged 1 most_documents) _ (number (length ds)) (flat_map counted ds) (length ds) ds (accepts_ranged 1 most_documents (length ds) is.some is.few (omega arith))
    (accepts_documents ds (min most_bytes room) is.short (omega arith))

pub record AreGroups (n room : ℕ) (taken : List ℕ) (groups : List (List (List ℕ))) : Type 0 where
  pub taken_is : taken ≡ flat_map group_spelling groups
  pub count : length groups ≡ n
  pub each : AllByRecursion IsGroup groups
  pub together : sum_by bytes_in groups ≤ room

pub leads_groups : (n room : ℕ) → Leads (groups_form n room) (AreGroups n room)
unfolding Leads repeated
leads_groups zero room = record { taken_is = refl; count = refl; each = tt; together = omega arith }
leads_groups (suc n) room =
    leads_followed (group_form room) _ (IsTakenGroup room) (AreGroups (suc n) room) (leads_group room) (λ xs g h.
    leads_made (groups_form n (after_group room g)) (λ gs. g ∷ gs) (AreGroups n (after_group room g)) (λ ys gs. AreGroups (suc n) room (xs ++ ys) gs)
    (leads_groups n (after_group room g)) (λ ys gs are. all n xs g ys gs h are))
  where
    all : (n : ℕ) (xs : List ℕ) (g : List (List ℕ)) (ys : List ℕ) (gs : List (List (List ℕ))) → IsTakenGroup room xs g → AreGroups n (after_group room g) ys gs → AreGroups (suc n) room (xs ++ ys) (g ∷ gs)
    all n xs g ys gs h are =
        let fit = h.together in
        let count = are.count in
        let together = are.together in
        let sum = sum_by-cons bytes_in g gs in
        record { taken_is = rw (h.taken_is, are.taken_is) refl; count = omega arith; each = (h.is_group, are.each); together = omega arith }

pub accepts_groups : (gs : List (List (List ℕ))) (room : ℕ) → AllByRecursion IsGroup gs → sum_by bytes_in gs ≤ room → Accepts (groups_form (length gs) room) (flat_map group_spelling gs) gs
unfolding Accepts repeated
accepts_groups [] room each together = refl
accepts_groups (g ∷ gs) room each together =
    let sum = sum_by-cons bytes_in g gs in
    accepts_followed (group_form room) _ (group_spelling g) (flat_map group_spelling gs) g (g ∷ gs) (accepts_group room g each.0 (omega arith))
    (accepts_made (groups_form (length gs) (after_group room g)) (λ l. g ∷ l) (flat_map group_spelling gs) gs (accepts_groups gs (after_group room g) each.1 (omega arith)))

-- ---- cohorts

-- strictly ascending from this number on
abbrev pub AscendFrom : ℕ → List ℕ → Type 0
AscendFrom low [] = Unit {0}
AscendFrom low (c ∷ cs) = (low ≤ c) × (c < 4294967296) × AscendFrom (c + 1) cs

ascending : (low : ℕ) (cs : List ℕ) → AscendFrom low cs → AreAscending cs
ascending low [] h = tt
ascending low (c ∷ []) h = h.1
ascending low (c ∷ d ∷ cs) h = ((let less = h.2.0 in omega arith), ascending (c + 1) (d ∷ cs) h.2)

ascend : (low c : ℕ) (cs : List ℕ) → low ≤ c → AreAscending (c ∷ cs) → AscendFrom low (c ∷ cs)
ascend low c [] less h = (less, h, tt)
ascend low c (d ∷ cs) less h =
    let more = ascend (c + 1) d cs (let next = h.0 in omega arith) h.1 in
    (less, (let next = h.0 in let fit = more.1 in omega arith), more)

-- so many numbers are left behind each
room_behind : (low c : ℕ) (cs : List ℕ) → AscendFrom low (c ∷ cs) → c + length cs < 4294967296
room_behind low c [] h = let fit = h.1 in omega arith
room_behind low c (d ∷ cs) h = let more = room_behind (c + 1) d cs h.2 in let less = h.2.0 in omega arith

pub record AreFrom (n low : ℕ) (taken cs : List ℕ) : Type 0 where
  pub taken_is : taken ≡ flat_map number cs
  pub count : length cs ≡ n
  pub from : AscendFrom low cs

leads_from : (n low : ℕ) → low + n ≤ 4294967296 → Leads (repeated cohort_form after_cohort n low) (AreFrom n low)
unfolding Leads repeated cohort_form
leads_from zero low fit = record { taken_is = refl; count = refl; from = tt }
leads_from (suc n) low fit =
    leads_followed (cohort_form n low) _ (IsRanged low (4294967295 - n)) (AreFrom (suc n) low) (leads_ranged low (4294967295 - n) (omega arith) (omega arith)) (λ xs c h.
    leads_made (repeated cohort_form after_cohort n (after_cohort low c)) (λ cs. c ∷ cs) (AreFrom n (after_cohort low c)) (λ ys cs. AreFrom (suc n) low (xs ++ ys) cs)
    (leads_from n (after_cohort low c) (let below = h.below in omega arith)) (λ ys cs are. all n xs c ys cs h are))
  where
    all : (n : ℕ) (xs : List ℕ) (c : ℕ) (ys cs : List ℕ) → IsRanged low (4294967295 - n) xs c → AreFrom n (after_cohort low c) ys cs → AreFrom (suc n) low (xs ++ ys) (c ∷ cs)
    all n xs c ys cs h are =
        let count = are.count in
        let below = h.below in
        record { taken_is = rw (h.taken_is, are.taken_is) refl; count = omega arith; from = (h.above, omega arith, are.from) }

accepts_from : (cs : List ℕ) (low : ℕ) → AscendFrom low cs → Accepts (repeated cohort_form after_cohort (length cs) low) (flat_map number cs) cs
unfolding Accepts repeated cohort_form
accepts_from [] low h = refl
accepts_from (c ∷ cs) low h =
    let room = room_behind low c cs h in
    accepts_followed (cohort_form (length cs) low) _ (number c) (flat_map number cs) c (c ∷ cs) (accepts_ranged low (4294967295 - length cs) c h.0 (omega arith) (omega arith))
    (accepts_made (repeated cohort_form after_cohort (length cs) (after_cohort low c)) (λ l. c ∷ l) (flat_map number cs) cs (accepts_from cs (after_cohort low c) h.2))

pub record AreTakenCohorts (taken cs : List ℕ) : Type 0 where
  pub taken_is : taken ≡ number (length cs) ++ flat_map number cs
  pub cohorts : AreCohorts cs

pub leads_cohorts : Leads cohorts_form AreTakenCohorts
unfolding cohorts_form
leads_cohorts =
    leads_followed (ranged 1 4294967295) _ (IsRanged 1 4294967295) AreTakenCohorts (leads_ranged 1 4294967295 (omega arith) (omega arith)) (λ xs n h.
    leads_weakly (repeated cohort_form after_cohort n 0) (AreFrom n 0) (λ ys cs. AreTakenCohorts (xs ++ ys) cs) (λ ys cs are. all xs n ys cs h are) (leads_from n 0 (let below = h.below in omega arith)))
  where
    all : (xs : List ℕ) (n : ℕ) (ys cs : List ℕ) → IsRanged 1 4294967295 xs n → AreFrom n 0 ys cs → AreTakenCohorts (xs ++ ys) cs
    all xs n ys cs h are =
        let count = are.count in
        let above = h.above in
        let below = h.below in
        record { taken_is = rw (h.taken_is, are.taken_is, count) refl; cohorts = record { some = omega arith; few = omega arith; ascending = ascending 0 cs are.from } }

pub accepts_cohorts : (cs : List ℕ) → AreCohorts cs → Accepts cohorts_form (number (length cs) ++ flat_map number cs) cs
unfolding cohorts_form
accepts_cohorts cs are =
    let few = are.few in
    accepts_followed (ranged 1 4294967295) _ (number (length cs)) (flat_map number cs) (length cs) cs (accepts_ranged 1 4294967295 (length cs) are.some (omega arith) (omega arith))
    (accepts_from cs 0 (from_none cs are.ascending))
  where
    from_none : (l : List ℕ) → AreAscending l → AscendFrom 0 l
    from_none [] h = tt
    from_none (c ∷ l) h = ascend 0 c l (omega arith) h
