-- What an archive keeps of its history, without the documents: the time-stamps that cover each sealed group.
use Rattle.std.specs.Prelude.{ℕ, nat_lt, nat_le, slice_index_or, count_by, suc, ◌+◌, ◌==◌, Bool, List, [], ◌∷◌, Option, Some, None, length, if◌then◌else◌}
use Rattle.std.specs.List.{list_any}
use Rattle.hash_kit.specs.declared.algorithm.HashAlg.{HashAlg}
use Rattle.hash_kit.specs.Algorithm.{place_of as hash_place}

-- A time-stamp that covers a group: the number of its entry; whether it begins a chain or stands in one; the hash and
-- the token; the place, in the tree of the entry, of the leaf that stands for the group.
pub record Cover : Type 0 where
  pub entry : ℕ
  pub begins : Bool
  pub alg : HashAlg
  pub token : List ℕ
  pub place : ℕ

-- The number of entries; the number of documents and of their bytes; the covers of each sealed group, by its number;
-- how many further groups are pending.
pub record Kept : Type 0 where
  pub entries : ℕ
  pub documents : ℕ
  pub bytes : ℕ
  pub sealed : List (List Cover)
  pub pending : ℕ

-- of the history without entries
abbrev pub empty : Kept
empty = record { entries = 0; documents = 0; bytes = 0; sealed = []; pending = 0 }

-- pending groups come behind the sealed ones
abbrev pub groups_of : Kept → ℕ
groups_of kept = length kept.sealed + kept.pending

-- they are one hash algorithm: they have one place among all
abbrev pub is_same : HashAlg → HashAlg → Bool
is_same alg other = hash_place alg == hash_place other

-- ---- cohorts

-- the entry that began the last chain
abbrev pub cohort_after : ℕ → List Cover → ℕ
cohort_after name [] = name
cohort_after name (c ∷ covers) = cohort_after (if c.begins then c.entry else name) covers

-- A cohort are the groups whose current chain was begun by one entry, which names it.
abbrev pub cohort_of : List Cover → ℕ
cohort_of covers = cohort_after 0 covers

-- the names have this one
abbrev pub has_name : List ℕ → ℕ → Bool
has_name names name = list_any (λ other. other == name) names

-- the group is of one of these cohorts
abbrev pub is_in : List ℕ → List Cover → Bool
is_in names covers = has_name names (cohort_of covers)

-- where it stands among them
abbrev pub place_of : List ℕ → ℕ → ℕ
place_of [] name = 0
place_of (other ∷ names) name = if other == name then 0 else suc (place_of names name)

-- how many groups these cohorts have
abbrev pub count_in : List ℕ → List (List Cover) → ℕ
count_in names groups = count_by (is_in names) groups

-- which groups these cohorts have, where the first group has this number
abbrev pub ids_in : List ℕ → ℕ → List (List Cover) → List ℕ
ids_in names id [] = []
ids_in names id (covers ∷ groups) =
    if is_in names covers then id ∷ ids_in names (id + 1) groups else ids_in names (id + 1) groups

-- a strictly ascending list with one name more
abbrev pub with_name : ℕ → List ℕ → List ℕ
with_name name [] = name ∷ []
with_name name (other ∷ names) =
    if nat_lt name other then name ∷ other ∷ names
    else if name == other then other ∷ names
    else other ∷ with_name name names

-- the names of all cohorts, in order
abbrev pub cohorts_in : List (List Cover) → List ℕ
cohorts_in [] = []
cohorts_in (covers ∷ groups) = with_name (cohort_of covers) (cohorts_in groups)

-- ---- the covers of one group

-- the time-stamps of the group of this number
abbrev pub covers_of : Kept → ℕ → List Cover
covers_of kept id = slice_index_or kept.sealed id []

-- the first entry with this number or a greater one
abbrev pub first_from : ℕ → List Cover → Option ℕ
first_from front [] = None
first_from front (c ∷ covers) = if nat_le front c.entry then Some c.entry else first_from front covers

-- ---- the last time-stamp

-- its hash, which is that of its chain, and its token
pub record Last : Type 0 where
  pub alg : HashAlg
  pub token : List ℕ

-- of a time-stamp that these follow
abbrev pub last_after : Cover → List Cover → Last
last_after c [] = record { alg = c.alg; token = c.token }
last_after c (d ∷ covers) = last_after d covers

-- of a group
abbrev pub last_of : List Cover → Option Last
last_of [] = None
last_of (c ∷ covers) = Some (last_after c covers)

-- its token
abbrev pub token_of : Option Last → List ℕ
token_of None = []
token_of (Some last) = last.token

-- the last token of a group
abbrev pub last_token : List Cover → List ℕ
last_token covers = token_of (last_of covers)

-- Of a cohort: that of its first group. All its groups have the same.
abbrev pub cohort_last : List (List Cover) → ℕ → Option Last
cohort_last [] name = None
cohort_last (covers ∷ groups) name = if cohort_of covers == name then last_of covers else cohort_last groups name
