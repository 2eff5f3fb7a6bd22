-- The payload of an entry: its kind in one byte, then its fields; numbers are four bytes, the greatest first.
use Rattle.std.specs.Prelude.{ℕ, ◌≤◌, ◌<◌, ◌^◌, ⊤, List, [], ◌∷◌, ◌++◌, length, sum_by}
use Rattle.std.specs.List.{flat_map, AllByRecursion}
use Rattle.std.specs.Int.{w32, to_be_bytes}
use Rattle.hash_kit.specs.declared.algorithm.HashAlg.{HashAlg}
use Rattle.hash_kit.specs.declared.algorithm.HashAlg.TheVariants.{Sha256, Sha384, Sha512}
use Rattle.object_groups.specs.Groups.{IsGroup, bytes_in}
use Rattle.entry_codec.specs.declared.entry.Entry.{Entry}
use Rattle.entry_codec.specs.declared.entry.Entry.TheVariants.{Deposit, Seal, RenewStamps, RenewTrees, SetPolicy}

-- ---- limits

-- the most groups of a deposit
abbrev pub most_groups : ℕ
most_groups = 64

-- the most bytes of all documents of a deposit together
abbrev pub most_deposited : ℕ
most_deposited = 8388608

-- the most bytes of a token
abbrev pub longest_token : ℕ
longest_token = 65536

-- the most bytes of a policy's text
abbrev pub longest_policy : ℕ
longest_policy = 262144

-- ---- the spelling

-- a number in four bytes
abbrev pub number : ℕ → List ℕ
number n = to_be_bytes w32 n

-- a length, and that many bytes
abbrev pub counted : List ℕ → List ℕ
counted bytes = number (length bytes) ++ bytes

-- the byte that stands for a hash algorithm
abbrev pub hash_byte : HashAlg → ℕ
hash_byte Sha256 = 1
hash_byte Sha384 = 2
hash_byte Sha512 = 3

-- a group: the number of its documents, and each of them counted
abbrev pub group_spelling : List (List ℕ) → List ℕ
group_spelling documents = number (length documents) ++ flat_map counted documents

-- the payload of an entry
abbrev pub entry_spelling : Entry → List ℕ
entry_spelling (Deposit groups) = 1 ∷ (number (length groups) ++ flat_map group_spelling groups)
entry_spelling (Seal hash count token) = 2 ∷ hash_byte hash ∷ (number count ++ counted token)
entry_spelling (RenewStamps hash cohorts token) = 3 ∷ hash_byte hash ∷ (number (length cohorts) ++ flat_map number cohorts ++ counted token)
entry_spelling (RenewTrees hash cohorts token) = 4 ∷ hash_byte hash ∷ (number (length cohorts) ++ flat_map number cohorts ++ counted token)
entry_spelling (SetPolicy text) = 5 ∷ counted text

-- ---- what has a spelling

-- strictly ascending, below 2^32
abbrev pub AreAscending : List ℕ → Type 0
AreAscending [] = ⊤
AreAscending (n ∷ []) = n < 2 ^ 32
AreAscending (n ∷ m ∷ ns) = (n < m) × AreAscending (m ∷ ns)

-- within the limits of a deposit
pub record IsDeposit (groups : List (List (List ℕ))) : Type 0 where
  pub some : 1 ≤ length groups
  pub few : length groups ≤ most_groups
  pub each : AllByRecursion IsGroup groups
  pub together : sum_by bytes_in groups ≤ most_deposited

-- cohorts that a renewal can name: their number has four bytes too
pub record AreCohorts (cohorts : List ℕ) : Type 0 where
  pub some : 1 ≤ length cohorts
  pub few : length cohorts < 2 ^ 32
  pub ascending : AreAscending cohorts

-- the entry has a spelling
abbrev pub IsEntry : Entry → Type 0
IsEntry (Deposit groups) = IsDeposit groups
IsEntry (Seal hash count token) = (count < 2 ^ 32) × (length token ≤ longest_token)
IsEntry (RenewStamps hash cohorts token) = AreCohorts cohorts × (length token ≤ longest_token)
IsEntry (RenewTrees hash cohorts token) = AreCohorts cohorts × (length token ≤ longest_token)
IsEntry (SetPolicy text) = length text ≤ longest_policy
