-- Worked values of the definitions, so that a wrong rule in the specs does not check.
use Rattle.std.proofs.Common.{◌≡◌, ℕ, ◌/◌, ◌%◌, [], ◌∷◌, Some, None, refl}
use Rattle.std.specs.Prelude.{map}
use Rattle.hash_kit.specs.declared.algorithm.HashAlg.TheVariants.{Sha256, Sha512}
use Rattle.entry_codec.specs.declared.entry.Entry.TheVariants.{Deposit, Seal, RenewTrees, SetPolicy}
use Rattle.entry_codec.specs.Spelling.{entry_spelling}
use Rattle.entry_codec.specs.Places.{group_places}
use Rattle.entry_codec.specs.Form.{reads, fault_of, followed, repeated, some_bytes}
use Rattle.entry_codec.specs.Fault.{digit, ranged, hash_form, counted_form, document_form, group_form, groups_form, cohort_form, cohorts_form, deposit_form, seal_form, renewal_form, policy_form, kind_form, entry_form, entry_first_fault}

one_empty_document : entry_spelling (Deposit ((([] ∷ [])) ∷ [])) ≡ 1 ∷ 0 ∷ 0 ∷ 0 ∷ 1 ∷ 0 ∷ 0 ∷ 0 ∷ 1 ∷ 0 ∷ 0 ∷ 0 ∷ 0 ∷ []
one_empty_document = refl

a_seal : entry_spelling (Seal Sha256 258 (48 ∷ 0 ∷ [])) ≡ 2 ∷ 1 ∷ 0 ∷ 0 ∷ 1 ∷ 2 ∷ 0 ∷ 0 ∷ 0 ∷ 2 ∷ 48 ∷ 0 ∷ []
a_seal = refl

new_trees : entry_spelling (RenewTrees Sha512 (2 ∷ 7 ∷ []) []) ≡ 4 ∷ 3 ∷ 0 ∷ 0 ∷ 0 ∷ 2 ∷ 0 ∷ 0 ∷ 0 ∷ 2 ∷ 0 ∷ 0 ∷ 0 ∷ 7 ∷ 0 ∷ 0 ∷ 0 ∷ 0 ∷ []
new_trees = refl

a_policy : entry_spelling (SetPolicy (120 ∷ [])) ≡ 5 ∷ 0 ∷ 0 ∷ 0 ∷ 1 ∷ 120 ∷ []
a_policy = refl

-- ---- first faults: each row has its bytes, and below stands the place of each row's fault

first_faults : map entry_first_fault (
    ([]) ∷
    (9 ∷ []) ∷
    (0 ∷ []) ∷
    (6 ∷ 0 ∷ 0 ∷ 0 ∷ 0 ∷ []) ∷
    (1 ∷ []) ∷
    (1 ∷ 0 ∷ 0 ∷ 0 ∷ 1 ∷ 0 ∷ 0 ∷ 0 ∷ 1 ∷ 0 ∷ 0 ∷ 0 ∷ 0 ∷ []) ∷
    (1 ∷ 0 ∷ 0 ∷ 0 ∷ 0 ∷ []) ∷
    (1 ∷ 0 ∷ 0 ∷ 0 ∷ 65 ∷ []) ∷
    (1 ∷ 1 ∷ 0 ∷ 0 ∷ 0 ∷ []) ∷
    (1 ∷ 0 ∷ 0 ∷ 0 ∷ 1 ∷ 0 ∷ 0 ∷ 0 ∷ 0 ∷ []) ∷
    (1 ∷ 0 ∷ 0 ∷ 0 ∷ 1 ∷ 0 ∷ 0 ∷ 0 ∷ 1 ∷ 0 ∷ 16 ∷ 0 ∷ 1 ∷ []) ∷
    (1 ∷ 0 ∷ 0 ∷ 0 ∷ 1 ∷ 0 ∷ 0 ∷ 0 ∷ 1 ∷ 0 ∷ 17 ∷ 0 ∷ 0 ∷ []) ∷
    (1 ∷ 0 ∷ 0 ∷ 0 ∷ 1 ∷ 0 ∷ 0 ∷ 0 ∷ 1 ∷ 0 ∷ 0 ∷ 0 ∷ 3 ∷ 1 ∷ 2 ∷ []) ∷
    (1 ∷ 0 ∷ 0 ∷ 0 ∷ 2 ∷ 0 ∷ 0 ∷ 0 ∷ 1 ∷ 0 ∷ 0 ∷ 0 ∷ 0 ∷ []) ∷
    (5 ∷ 0 ∷ 0 ∷ 0 ∷ 0 ∷ 0 ∷ []) ∷
    (2 ∷ 4 ∷ []) ∷
    (2 ∷ 1 ∷ 0 ∷ 0 ∷ 0 ∷ []) ∷
    (2 ∷ 3 ∷ 0 ∷ 0 ∷ 0 ∷ 0 ∷ 0 ∷ 0 ∷ 0 ∷ 1 ∷ 48 ∷ []) ∷
    (2 ∷ 1 ∷ 0 ∷ 0 ∷ 0 ∷ 0 ∷ 0 ∷ 1 ∷ 0 ∷ 1 ∷ []) ∷
    (2 ∷ 1 ∷ 0 ∷ 0 ∷ 0 ∷ 0 ∷ 0 ∷ 2 ∷ 0 ∷ 0 ∷ []) ∷
    (3 ∷ 1 ∷ 0 ∷ 0 ∷ 0 ∷ 0 ∷ []) ∷
    (3 ∷ 1 ∷ 0 ∷ 0 ∷ 0 ∷ 2 ∷ 0 ∷ 0 ∷ 0 ∷ 5 ∷ 0 ∷ 0 ∷ 0 ∷ 5 ∷ []) ∷
    (4 ∷ 2 ∷ 0 ∷ 0 ∷ 0 ∷ 2 ∷ 0 ∷ 0 ∷ 1 ∷ 0 ∷ 0 ∷ 0 ∷ 0 ∷ 1 ∷ []) ∷
    (4 ∷ 2 ∷ 0 ∷ 0 ∷ 0 ∷ 2 ∷ 0 ∷ 0 ∷ 1 ∷ 0 ∷ 0 ∷ 0 ∷ 1 ∷ 1 ∷ 0 ∷ 0 ∷ 0 ∷ 0 ∷ []) ∷
    (3 ∷ 1 ∷ 0 ∷ 0 ∷ 0 ∷ 2 ∷ 255 ∷ 255 ∷ 255 ∷ 255 ∷ []) ∷
    (3 ∷ 1 ∷ 255 ∷ 255 ∷ 255 ∷ 255 ∷ 0 ∷ 0 ∷ 0 ∷ 2 ∷ []) ∷
    (3 ∷ 1 ∷ 255 ∷ 255 ∷ 255 ∷ 255 ∷ 0 ∷ 0 ∷ 0 ∷ 1 ∷ []) ∷
    (5 ∷ 0 ∷ 4 ∷ 0 ∷ 1 ∷ []) ∷
    (5 ∷ 0 ∷ 5 ∷ 0 ∷ 0 ∷ []) ∷
    (5 ∷ 0 ∷ 0 ∷ 0 ∷ 1 ∷ 120 ∷ []) ∷ [])
    ≡ Some 0 ∷ Some 0 ∷ Some 0 ∷ Some 0 ∷ Some 1 ∷ None ∷ Some 4 ∷ Some 4 ∷ Some 1 ∷ Some 8 ∷ Some 12 ∷ Some 10 ∷ Some 15 ∷ Some 13 ∷ Some 5 ∷ Some 1 ∷ Some 5 ∷ None ∷ Some 9 ∷ Some 7 ∷ Some 5 ∷ Some 13 ∷ Some 12 ∷ None ∷ Some 9 ∷ Some 9 ∷ Some 10 ∷ Some 4 ∷ Some 2 ∷ None ∷ []
unfolding reads followed repeated some_bytes digit ranged hash_form counted_form document_form group_form cohort_form cohorts_form deposit_form seal_form renewal_form policy_form kind_form entry_form
first_faults = refl

-- Two groups of one document each, where five bytes are left for both: three bytes, then at most two.
sums_so_far : map (λ (length : ℕ). fault_of (reads (groups_form 2 5) 0 (0 ∷ 0 ∷ 0 ∷ 1 ∷ 0 ∷ 0 ∷ 0 ∷ 3 ∷ 7 ∷ 7 ∷ 7 ∷ 0 ∷ 0 ∷ 0 ∷ 1 ∷ 0 ∷ 0 ∷ 0 ∷ length ∷ 7 ∷ 7 ∷ 7 ∷ []))) (2 ∷ 3 ∷ []) ≡ Some 21 ∷ Some 18 ∷ []
unfolding reads followed repeated some_bytes digit ranged hash_form counted_form document_form group_form cohort_form cohorts_form deposit_form seal_form renewal_form policy_form kind_form entry_form
sums_so_far = refl

-- 256 to 515 in four bytes: the third byte is 1 or 2, and behind 2 the last is at most 3.
range_by_bytes : map (λ (n : ℕ). fault_of (reads (ranged 256 515) 0 (0 ∷ 0 ∷ n / 256 ∷ n % 256 ∷ []))) (255 ∷ 256 ∷ 515 ∷ 516 ∷ 768 ∷ []) ≡ Some 2 ∷ None ∷ None ∷ Some 3 ∷ Some 2 ∷ []
unfolding reads followed repeated some_bytes digit ranged hash_form counted_form document_form group_form cohort_form cohorts_form deposit_form seal_form renewal_form policy_form kind_form entry_form
range_by_bytes = refl

-- ---- places: a group of a document of two bytes and an empty one, and a group of one byte

three_places : group_places 5 (((7 ∷ 7 ∷ []) ∷ [] ∷ []) ∷ ((9 ∷ []) ∷ []) ∷ [])
    ≡ record { from = 13; size = 2 } ∷ record { from = 19; size = 0 } ∷ record { from = 27; size = 1 } ∷ []
three_places = refl
