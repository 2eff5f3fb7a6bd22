-- What an archive keeps after an entry.
use Rattle.std.specs.Prelude.{ℕ, zero, suc, ◌+◌, ◌-◌, Bool, true, false, List, [], ◌∷◌, ◌++◌, length, map, sum_by, if◌then◌else◌}
use Rattle.hash_kit.specs.declared.algorithm.HashAlg.{HashAlg}
use Rattle.object_groups.specs.Groups.{bytes_in}
use Rattle.entry_codec.specs.declared.entry.Entry.{Entry}
use Rattle.entry_codec.specs.declared.entry.Entry.TheVariants.{Deposit, Seal, RenewStamps, RenewTrees, SetPolicy}
use Rattle.archive_chain.specs.Kept.{Cover, Kept, cohort_of, is_in, place_of}

-- the time-stamp of an entry, for the leaf at a place
abbrev pub cover_at : ℕ → Bool → HashAlg → List ℕ → ℕ → Cover
cover_at entry begins alg token place =
    record { entry = entry; begins = begins; alg = alg; token = token; place = place }

-- so many groups with their first time-stamp, from this place on
abbrev pub sealed_from : (ℕ → Cover) → ℕ → ℕ → List (List Cover)
sealed_from cover place zero = []
sealed_from cover place (suc n) = (cover place ∷ []) ∷ sealed_from cover (place + 1) n

-- the groups of these cohorts with a new chain: a leaf stands for each group, from this place on
abbrev pub renewed_from : (ℕ → Cover) → List ℕ → ℕ → List (List Cover) → List (List Cover)
renewed_from cover cohorts place [] = []
renewed_from cover cohorts place (covers ∷ groups) =
    if is_in cohorts covers then (covers ++ cover place ∷ []) ∷ renewed_from cover cohorts (place + 1) groups
    else covers ∷ renewed_from cover cohorts place groups

-- a group of these cohorts with a further time-stamp: a leaf stands for each cohort
abbrev pub stamped_in : (ℕ → Cover) → List ℕ → List Cover → List Cover
stamped_in cover cohorts covers =
    if is_in cohorts covers then covers ++ cover (place_of cohorts (cohort_of covers)) ∷ [] else covers

-- what is kept after this entry
abbrev pub next : Kept → Entry → Kept
next k (Deposit groups) = record {
  entries = k.entries + 1;
  documents = k.documents + sum_by length groups;
  bytes = k.bytes + sum_by bytes_in groups;
  sealed = k.sealed;
  pending = k.pending + length groups;
}
next k (Seal alg count token) = record {
  entries = k.entries + 1;
  documents = k.documents;
  bytes = k.bytes;
  sealed = k.sealed ++ sealed_from (cover_at k.entries true alg token) 0 count;
  pending = k.pending - count;
}
next k (RenewStamps alg cohorts token) = record {
  entries = k.entries + 1;
  documents = k.documents;
  bytes = k.bytes;
  sealed = map (stamped_in (cover_at k.entries false alg token) cohorts) k.sealed;
  pending = k.pending;
}
next k (RenewTrees alg cohorts token) = record {
  entries = k.entries + 1;
  documents = k.documents;
  bytes = k.bytes;
  sealed = renewed_from (cover_at k.entries true alg token) cohorts 0 k.sealed;
  pending = k.pending;
}
next k (SetPolicy text) = record {
  entries = k.entries + 1;
  documents = k.documents;
  bytes = k.bytes;
  sealed = k.sealed;
  pending = k.pending;
}
