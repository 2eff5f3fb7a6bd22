-- What has a spelling fits a frame, if a renewal names no more cohorts than there may be groups.
use Rattle.std.proofs.Common.{◌≡◌, ℕ, ◌+◌, ◌*◌, ◌≤◌, List, [], ◌∷◌, ◌++◌, length, sum_by, refl, arith}
use Rattle.std.specs.List.{flat_map, AllByRecursion}
use Rattle.std.proofs.lemmas.List.{length-append}
use Rattle.std.proofs.lemmas.List.Sums.{sum_by-cons}
use Rattle.gate_journal.specs.Journal.{max_payload}
use Rattle.object_groups.specs.Groups.{IsGroup, bytes_in}
use Rattle.entry_codec.specs.declared.entry.Entry.{Entry}
use Rattle.entry_codec.specs.declared.entry.Entry.TheVariants.{Deposit, Seal, RenewStamps, RenewTrees, SetPolicy}
use Rattle.entry_codec.specs.Spelling.{number, counted, group_spelling, entry_spelling, IsEntry}
use Rattle.entry_codec.proofs.Placed.{group_size}

-- a renewal names no more cohorts than there may be groups
abbrev pub HasFewCohorts : Entry → Type 0
HasFewCohorts (Deposit groups) = Unit {0}
HasFewCohorts (Seal alg count token) = Unit {0}
HasFewCohorts (RenewStamps alg cohorts token) = length cohorts ≤ 65536
HasFewCohorts (RenewTrees alg cohorts token) = length cohorts ≤ 65536
HasFewCohorts (SetPolicy text) = Unit {0}

pub groups_length : (gs : List (List (List ℕ))) → AllByRecursion IsGroup gs → length (flat_map group_spelling gs) ≤ 260 * length gs + sum_by bytes_in gs
groups_length [] all = omega arith
groups_length (g ∷ gs) all =
    omega (arith, groups_length gs all.1, group_size g, all.0.few, length-append (group_spelling g) (flat_map group_spelling gs), sum_by-cons bytes_in g gs)

numbers_length : (ns : List ℕ) → length (flat_map number ns) ≡ 4 * length ns
numbers_length [] = refl
numbers_length (n ∷ ns) = omega (arith, numbers_length ns, length-append (number n) (flat_map number ns))

renewal_length : (cohorts token : List ℕ) → length (number (length cohorts) ++ flat_map number cohorts ++ counted token) ≡ 4 * length cohorts + length token + 8
renewal_length cohorts token =
    omega (arith, numbers_length cohorts, length-append (number (length cohorts) ++ flat_map number cohorts) (counted token), length-append (number (length cohorts)) (flat_map number cohorts), length-append (number (length token)) token)

pub short : (e : Entry) → IsEntry e → HasFewCohorts e → length (entry_spelling e) ≤ max_payload
short (Deposit groups) is few = omega (arith, is.few, is.together, groups_length groups is.each, length-append (number (length groups)) (flat_map group_spelling groups))
short (Seal alg count token) is few = omega (arith, is.1, length-append (number count) (counted token), length-append (number (length token)) token)
short (RenewStamps alg cohorts token) is few = omega (arith, is.1, few, renewal_length cohorts token)
short (RenewTrees alg cohorts token) is few = omega (arith, is.1, few, renewal_length cohorts token)
short (SetPolicy text) is few = omega (arith, is, length-append (number (length text)) text)
