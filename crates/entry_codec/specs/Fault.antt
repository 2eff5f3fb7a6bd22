-- The form of an entry from the left, and the first byte that no spelling of an entry has after the bytes before it.
use Rattle.std.specs.Prelude.{◌≡◌, ℕ, ◌+◌, ◌-◌, ◌*◌, ◌<◌, ◌≤◌, Bool, true, false, ⊤, ◌&&◌, ◌==◌, nat_le, nat_lt, min, List, ◌++◌, length, take, Option, Some, if◌then◌else◌}
use Rattle.hash_kit.specs.declared.algorithm.HashAlg.{HashAlg}
use Rattle.hash_kit.specs.declared.algorithm.HashAlg.TheVariants.{Sha256, Sha384, Sha512}
use Rattle.object_groups.specs.Groups.{longest_document, most_documents, most_bytes, bytes_in}
use Rattle.entry_codec.specs.declared.entry.Entry.{Entry}
use Rattle.entry_codec.specs.declared.entry.Entry.TheVariants.{Deposit, Seal, RenewStamps, RenewTrees, SetPolicy}
use Rattle.entry_codec.specs.declared.fault.EntryFault.{EntryFault}
use Rattle.entry_codec.specs.declared.fault.EntryFault.TheVariants.{Bad, Memory}
use Rattle.entry_codec.specs.Form.{Form, whole, byte, followed, some_bytes, repeated, reads, fault_of}
use Rattle.entry_codec.specs.Spelling.{most_groups, most_deposited, longest_token, longest_policy, entry_spelling, IsEntry}

-- ---- numbers of a range, in four bytes

-- With this byte next, where those before are worth so much and a byte is now worth so much: some number of the range is left.
abbrev pub leaves_some : ℕ → ℕ → ℕ → ℕ → ℕ → Bool
leaves_some low high worth before b = nat_lt b 256 && (nat_lt low (before + b * worth + worth) && nat_le (before + b * worth) high)

-- the next byte of such a number, and what the bytes are worth so far
unfoldable pub digit : ℕ → ℕ → ℕ → ℕ → Form ℕ
digit low high worth before = byte (leaves_some low high worth before) (λ b. whole (before + b * worth))

-- a number of this range
unfoldable pub ranged : ℕ → ℕ → Form ℕ
ranged low high =
    followed (digit low high 16777216 0) λ a. followed (digit low high 65536 a) λ b. followed (digit low high 256 b) λ c. digit low high 1 c

-- ---- the parts

-- the byte of a hash algorithm
unfoldable pub hash_form : Form HashAlg
hash_form = byte (λ b. nat_le 1 b && nat_le b 3) (λ b. whole (if b == 1 then Sha256 else if b == 2 then Sha384 else Sha512))

-- a length up to this one, and that many bytes
unfoldable pub counted_form : ℕ → Form (List ℕ)
counted_form most = followed (ranged 0 most) some_bytes

-- a document, where so many bytes are left for it and the further ones
unfoldable pub document_form : ℕ → Form (List ℕ)
document_form room = counted_form (min longest_document room)

-- how many bytes are left behind a document
abbrev pub after_document : ℕ → List ℕ → ℕ
after_document room document = room - length document

-- so many documents, of at most so many bytes together
abbrev pub documents_form : ℕ → ℕ → Form (List (List ℕ))
documents_form n room = repeated (λ further. document_form) after_document n room

-- a group, where so many bytes are left for it and the further ones
unfoldable pub group_form : ℕ → Form (List (List ℕ))
group_form room = followed (ranged 1 most_documents) λ n. documents_form n (min most_bytes room)

-- how many bytes are left behind a group
abbrev pub after_group : ℕ → List (List ℕ) → ℕ
after_group room group = room - bytes_in group

-- so many groups, of at most so many bytes together
abbrev pub groups_form : ℕ → ℕ → Form (List (List (List ℕ)))
groups_form n room = repeated (λ further. group_form) after_group n room

-- a cohort that isn't below this one, and leaves numbers for the further ones
unfoldable pub cohort_form : ℕ → ℕ → Form ℕ
cohort_form further low = ranged low (4294967295 - further)

-- the least cohort that may follow
abbrev pub after_cohort : ℕ → ℕ → ℕ
after_cohort low cohort = cohort + 1

-- the number of cohorts, and so many, strictly ascending
unfoldable pub cohorts_form : Form (List ℕ)
cohorts_form = followed (ranged 1 4294967295) λ n. repeated cohort_form after_cohort n 0

-- a token
abbrev pub token_form : Form (List ℕ)
token_form = counted_form longest_token

-- ---- entries

-- a deposit behind its kind
unfoldable pub deposit_form : Form Entry
deposit_form = followed (ranged 1 most_groups) λ n. followed (groups_form n most_deposited) λ groups. whole (Deposit groups)

-- a seal behind its kind
unfoldable pub seal_form : Form Entry
seal_form = followed hash_form λ hash. followed (ranged 0 4294967295) λ count. followed token_form λ token. whole (Seal hash count token)

-- a renewal behind its kind
unfoldable pub renewal_form : (HashAlg → List ℕ → List ℕ → Entry) → Form Entry
renewal_form renewal = followed hash_form λ hash. followed cohorts_form λ cohorts. followed token_form λ token. whole (renewal hash cohorts token)

-- a policy behind its kind
unfoldable pub policy_form : Form Entry
policy_form = followed (counted_form longest_policy) λ text. whole (SetPolicy text)

-- what stands behind the byte of a kind
unfoldable pub kind_form : ℕ → Form Entry
kind_form kind =
    if kind == 1 then deposit_form
    else if kind == 2 then seal_form
    else if kind == 3 then renewal_form RenewStamps
    else if kind == 4 then renewal_form RenewTrees
    else policy_form

-- an entry: its kind, 1 to 5, and what stands behind it
unfoldable pub entry_form : Form Entry
entry_form = byte (λ b. nat_le 1 b && nat_le b 5) kind_form

-- the place of the first byte that no spelling goes on with, or of the end where the bytes stop short; none where they are an entry
abbrev pub entry_first_fault : List ℕ → Option ℕ
entry_first_fault bytes = fault_of (reads entry_form 0 bytes)

-- ---- what a reader answers

-- want of memory, which says nothing of the bytes
abbrev pub is_memory : EntryFault → Bool
is_memory Memory = true
is_memory (Bad place) = false

-- the first fault of the bytes, unless there was no memory
abbrev pub IsFaultOf : List ℕ → EntryFault → Type 0
IsFaultOf bytes Memory = ⊤
IsFaultOf bytes (Bad place) = entry_first_fault bytes ≡ Some place

-- ---- what the laws say of it

-- the bytes are the spelling of an entry
pub record Spells (bytes : List ℕ) : Type 0 where
  pub entry : Entry
  pub valid : IsEntry entry
  pub is : bytes ≡ entry_spelling entry

-- some spelling begins so
pub record Begins (front : List ℕ) : Type 0 where
  pub rest : List ℕ
  pub spells : Spells (front ++ rest)

-- the bytes before this place begin a spelling; the byte there is one too many, or they end there and are none
pub record StopsAt (bytes : List ℕ) (place : ℕ) : Type 0 where
  pub within : place ≤ length bytes
  pub begins : Begins (take place bytes)
  pub too_many : place < length bytes → Begins (take (place + 1) bytes) → ⊥
  pub none : Spells bytes → ⊥
