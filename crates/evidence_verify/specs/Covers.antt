-- Which values an archive time-stamp covers (RFC 4998, 4.3).
use Rattle.std.specs.Prelude.{◌≡◌, ◌⊎◌, ℕ, ◌==◌, Bool, true, false, not, ◌&&◌, ◌||◌, List, [], ◌∷◌, Contains, Option, Some, None, option_map, if◌then◌else◌}
use Rattle.std.specs.Option.{option_or}
use Rattle.std.specs.List.{list_all, list_any, position_from}
use Rattle.std.specs.Str.{bytes_eq}
use Rattle.hash_kit.specs.declared.algorithm.HashAlg.{HashAlg}
use Rattle.reduced_tree.specs.Reduced.{first_of, plain_root, other_root}
use Rattle.evidence_verify.specs.declared.verdict.Mode.{Mode}
use Rattle.evidence_verify.specs.declared.verdict.Mode.TheVariants.{Member, Whole}
use Rattle.evidence_verify.specs.declared.verdict.Verdict.{Verdict}
use Rattle.evidence_verify.specs.declared.verdict.Verdict.TheVariants.{NotCovered, NotWhole}
use Rattle.evidence_verify.specs.Stamps.{Checked}
use Rattle.evidence_verify.specs.Values.{Owed}

-- the imprint is one of the roots of the lists (4.3, step 5)
abbrev pub IsRoot : HashAlg → List (List (List ℕ)) → List ℕ → Type 0
IsRoot alg lists imprint = (imprint ≡ plain_root alg lists) ⊎ (other_root alg lists ≡ Some imprint)

-- Without lists the imprint is the value. Else the value is in the first list, and the imprint is a root of the lists.
abbrev pub CoversBy : HashAlg → List ℕ → Option (List (List (List ℕ))) → List ℕ → Type 0
CoversBy alg imprint None value = imprint ≡ value
CoversBy alg imprint (Some lists) value = Contains (first_of lists) value × IsRoot alg lists imprint

-- the time-stamp covers the value (RFC 4998, 4.3)
abbrev pub Covers : Checked → List ℕ → Type 0
Covers c value = CoversBy c.says.alg c.says.imprint c.place.ats.lists value

-- ---- the same, as tests

abbrev pub has : List (List ℕ) → List ℕ → Bool
has values value = list_any (bytes_eq value) values

abbrev pub is_other : Option (List ℕ) → List ℕ → Bool
is_other None imprint = false
is_other (Some root) imprint = bytes_eq imprint root

abbrev pub is_root : HashAlg → List (List (List ℕ)) → List ℕ → Bool
is_root alg lists imprint = bytes_eq imprint (plain_root alg lists) || is_other (other_root alg lists) imprint

abbrev pub covers_by : HashAlg → List ℕ → Option (List (List (List ℕ))) → List ℕ → Bool
covers_by alg imprint None value = bytes_eq imprint value
covers_by alg imprint (Some lists) value = has (first_of lists) value && is_root alg lists imprint

abbrev pub covers : Checked → List ℕ → Bool
covers c value = covers_by c.says.alg c.says.imprint c.place.ats.lists value

-- ---- the first value that is not covered

-- The first time-stamp of a chain is blamed with the document, a later one without.
abbrev pub not_covered : Checked → ℕ → Verdict
not_covered c number = NotCovered c.place.chain c.place.stamp (if c.place.stamp == 0 then Some number else None)

-- the first value that a time-stamp doesn't cover
unfoldable pub uncovered : Owed → Option Verdict
uncovered owed = option_map (not_covered owed.stamp) (position_from (λ v. not (covers owed.stamp v)) 0 owed.values)

-- the first value that isn't covered, of all time-stamps in order
abbrev pub cover_fault : List Owed → Option Verdict
cover_fault [] = None
cover_fault (owed ∷ rest) = option_or (uncovered owed) (cover_fault rest)

-- ---- the first chain that covers more than the documents

-- each value of the first list is that of a document
abbrev pub is_whole : Option (List (List (List ℕ))) → List (List ℕ) → Bool
is_whole None values = true
is_whole (Some lists) values = list_all (has values) (first_of lists)

-- only the first time-stamp of a chain is asked
abbrev pub not_whole : Owed → Option Verdict
not_whole owed =
    if owed.stamp.place.stamp == 0 && not (is_whole owed.stamp.place.ats.lists owed.values)
    then Some (NotWhole owed.stamp.place.chain) else None

-- the first chain that covers more than the documents
abbrev pub first_not_whole : List Owed → Option Verdict
first_not_whole [] = None
first_not_whole (owed ∷ rest) = option_or (not_whole owed) (first_not_whole rest)

-- the same where the documents have to be all that is covered, else none
abbrev pub whole_fault : Mode → List Owed → Option Verdict
whole_fault Member all_owed = None
whole_fault Whole all_owed = first_not_whole all_owed
