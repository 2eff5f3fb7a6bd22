-- What contracts see of an archive, and how it agrees with a history.
use Rattle.std.specs.Prelude.{◌≡◌, ℕ, List, [], ◌∷◌, ◌++◌, length, sum_by, Option}
use Rattle.algorithm_policy.specs.Content.{Content}
use Rattle.algorithm_policy.specs.Text.{PolicyText}
use Rattle.object_groups.specs.Groups.{bytes_in}
use Rattle.entry_codec.specs.declared.entry.Entry.{Entry}
use Rattle.entry_codec.specs.declared.entry.Entry.TheVariants.{Deposit, Seal, RenewStamps, RenewTrees, SetPolicy}
use Rattle.archive_chain.specs.declared.row.Later.{Later}
use Rattle.archive_chain.specs.Kept.{Kept, count_in}
use Rattle.archive_chain.specs.Sequence.{Trees}
use Rattle.archive_chain.specs.Steps.{next}
use Rattle.archive_chain.specs.History.{state_of, InForce}

-- A row: the entry that began the chain, its groups, its further time-stamps, the row that took over, the most
-- time-stamps of one of its groups, and the first group that has as many.
pub record Plain : Type 0 where
  pub stamp : ℕ
  pub members : List ℕ
  pub later : List Later
  pub next : Option ℕ
  pub most : ℕ
  pub least : ℕ

-- The table, and the rows of the groups' Seals; for how many time-stamps and groups there is room.
pub record Room : Type 0 where
  pub table : List Plain
  pub firsts : List ℕ
  pub stamps : ℕ
  pub groups : ℕ

-- What it keeps of its history; the leaves of each entry's tree; the policy in force; the room that it has left.
pub record Held : Type 0 where
  pub kept : Kept
  pub trees : Trees
  pub policy : Content
  pub room : Room

-- Its entries are as many and say the same of each group, whatever the leaves were.
pub record Agrees (held : Held) (history : List Entry) : Type 0 where
  pub kept : held.kept ≡ (state_of history).kept
  pub policy : InForce (state_of history).text held.policy

-- And each tree is that of the history.
pub record StandsFor (held : Held) (history : List Entry) : Type 0 where
  pub agrees : Agrees held history
  pub trees : held.trees ≡ (state_of history).trees

-- the policy in force after an entry
abbrev pub PolicyAfter : Content → Entry → Content → Type 0
PolicyAfter policy (SetPolicy text) new = PolicyText text new
PolicyAfter policy e new = new ≡ policy

-- the groups, their documents, and the bytes of these, are so many
pub record IsCounted (deposit : List (List (List ℕ))) (groups documents bytes : ℕ) : Type 0 where
  pub groups_are : length deposit ≡ groups
  pub documents_are : sum_by length deposit ≡ documents
  pub bytes_are : sum_by bytes_in deposit ≡ bytes

-- after an entry whose tree has these leaves
pub record Takes (old : Held) (e : Entry) (leaves : List (List ℕ)) (new : Held) : Type 0 where
  pub kept : new.kept ≡ next old.kept e
  pub trees : new.trees ≡ old.trees ++ leaves ∷ []
  pub policy : PolicyAfter old.policy e new.policy

-- nothing but its room may have changed
pub record IsAsBefore (old new : Held) : Type 0 where
  pub kept : new.kept ≡ old.kept
  pub trees : new.trees ≡ old.trees
  pub policy : new.policy ≡ old.policy

-- how many leaves the tree of an entry has
abbrev pub leaf_count : Kept → Entry → ℕ
leaf_count k (Deposit groups) = 0
leaf_count k (Seal alg count token) = count
leaf_count k (RenewStamps alg cohorts token) = length cohorts
leaf_count k (RenewTrees alg cohorts token) = count_in cohorts k.sealed
leaf_count k (SetPolicy text) = 0

-- What contracts see of an entry that may be added: it, its leaves, and the archive that has room for it.
pub record Readied : Type 0 where
  pub entry : Entry
  pub leaves : List (List ℕ)
  pub archive : Held
