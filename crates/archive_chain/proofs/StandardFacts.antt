-- Worked values of the definitions, so that a wrong rule in the specs does not check.
use Rattle.std.proofs.Common.{◌≡◌, ℕ, true, false, List, [], ◌∷◌, map, Some, None, refl}
use Rattle.std.specs.Prelude.{replicate}
use Rattle.hash_kit.specs.declared.algorithm.HashAlg.TheVariants.{Sha256, Sha512}
use Rattle.entry_codec.specs.declared.entry.Entry.TheVariants.{Deposit, Seal, RenewStamps, RenewTrees, SetPolicy}
use Rattle.archive_chain.specs.declared.refusal.Full.TheVariants.{Groups, Documents, Bytes}
use Rattle.archive_chain.specs.declared.refusal.Refusal.TheVariants.{Limit, Count, NotLive, OtherHash, ChainFull}
use Rattle.archive_chain.specs.Kept.{Cover, Kept, empty, groups_of, cohorts_in, ids_in, covers_of, first_from}
use Rattle.archive_chain.specs.Steps.{next, cover_at}
use Rattle.archive_chain.specs.Rules.{shape_rule, full_rule}
use Rattle.archive_chain.specs.Sequence.{sequence_of}
use Rattle.evidence_syntax.specs.Stamps.{Stamp}

group : List (List ℕ)
group = (97 ∷ 98 ∷ []) ∷ [] ∷ []

abbrev deposited : Kept
deposited = next (next empty (SetPolicy [])) (Deposit (((97 ∷ 98 ∷ []) ∷ [] ∷ []) ∷ ([] ∷ []) ∷ ([] ∷ []) ∷ []))

-- the first two of three groups, then the third, then a time-stamp for the second cohort, then a new chain for both
abbrev sealed : Kept
sealed = next (next deposited (Seal Sha256 2 (1 ∷ []))) (Seal Sha256 1 (2 ∷ []))

abbrev stamped : Kept
stamped = next sealed (RenewStamps Sha256 (3 ∷ []) (3 ∷ []))

abbrev renewed : Kept
renewed = next stamped (RenewTrees Sha512 (2 ∷ 3 ∷ []) (4 ∷ []))

counts : (deposited.entries ≡ 2) × (groups_of deposited ≡ 3) × (deposited.documents ≡ 4) × (deposited.bytes ≡ 2) × (deposited.pending ≡ 3)
counts = (refl, refl, refl, refl, refl)

two_cohorts : (cohorts_in stamped.sealed ≡ 2 ∷ 3 ∷ []) × (ids_in (2 ∷ []) 0 stamped.sealed ≡ 0 ∷ 1 ∷ []) × (stamped.pending ≡ 0)
two_cohorts = (refl, refl, refl)

one_cohort : (cohorts_in renewed.sealed ≡ 5 ∷ []) × (renewed.entries ≡ 6)
one_cohort = (refl, refl)

last_group : covers_of renewed 2 ≡ cover_at 3 true Sha256 (2 ∷ []) 0 ∷ cover_at 4 false Sha256 (3 ∷ []) 0 ∷ cover_at 5 true Sha512 (4 ∷ []) 2 ∷ []
last_group = refl

second_group : covers_of renewed 1 ≡ cover_at 2 true Sha256 (1 ∷ []) 1 ∷ cover_at 5 true Sha512 (4 ∷ []) 1 ∷ []
second_group = refl

first_covers : map (λ front. first_from front (covers_of renewed 1)) (0 ∷ 2 ∷ 3 ∷ 5 ∷ 6 ∷ []) ≡ Some 2 ∷ Some 2 ∷ Some 5 ∷ Some 5 ∷ None ∷ []
first_covers = refl

refused : (shape_rule deposited (Seal Sha256 4 []) ≡ Some (Count 4 3)) × (shape_rule deposited (Seal Sha256 0 []) ≡ Some (Count 0 3))
    × (shape_rule renewed (RenewTrees Sha256 (3 ∷ 5 ∷ []) []) ≡ Some (NotLive 3)) × (shape_rule renewed (RenewStamps Sha256 (5 ∷ []) []) ≡ Some (OtherHash 5))
    × (shape_rule renewed (RenewStamps Sha512 (5 ∷ []) []) ≡ None)
refused = (refl, refl, refl, refl, refl)

-- the tokens of the last group: two in its first chain, one in its second
tokens : map (map (λ (s : Stamp). s.token)) (sequence_of [] ([] ∷ []) (covers_of renewed 2)) ≡ ((2 ∷ []) ∷ (3 ∷ []) ∷ []) ∷ ((4 ∷ []) ∷ []) ∷ []
tokens = refl

-- one group and one document below the limits, and no byte
abbrev nearly_full : Kept
nearly_full = record { entries = 1; documents = 1048575; bytes = 268435456; sealed = []; pending = 65535 }

limits : (shape_rule nearly_full (Deposit (([] ∷ []) ∷ [])) ≡ None) × (shape_rule nearly_full (Deposit (([] ∷ []) ∷ ([] ∷ []) ∷ [])) ≡ Some (Limit (Groups 65537)))
    × (shape_rule nearly_full (Deposit (([] ∷ [] ∷ []) ∷ [])) ≡ Some (Limit (Documents 1048577))) × (shape_rule nearly_full (Deposit (((97 ∷ []) ∷ []) ∷ [])) ≡ Some (Limit (Bytes 268435457)))
limits = (refl, refl, refl, refl)

abbrev first_cover : Cover
first_cover = cover_at 0 true Sha256 [] 0

-- groups of 199 and of 200 time-stamps
abbrev long_chains : Kept
long_chains = record { entries = 200; documents = 3; bytes = 0; sealed = replicate 199 first_cover ∷ replicate 200 first_cover ∷ replicate 200 first_cover ∷ []; pending = 0 }

first_full_group : full_rule long_chains (0 ∷ []) ≡ Some (ChainFull 1)
first_full_group = refl

-- at most 4,096 groups are sealed at once
abbrev many_pending : Kept
many_pending = record { entries = 64; documents = 4097; bytes = 0; sealed = []; pending = 4097 }

most_at_once : (shape_rule many_pending (Seal Sha256 4096 []) ≡ None) × (shape_rule many_pending (Seal Sha256 4097 []) ≡ Some (Count 4097 4097))
most_at_once = (refl, refl)
