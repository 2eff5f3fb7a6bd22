-- Histories: lists of entries, and what follows from them.
use Rattle.std.specs.Prelude.{◌≡◌, ℕ, ⊤, List, [], ◌∷◌, ◌++◌, length, map, take, drop, Option, Some, None, if◌then◌else◌}
use Rattle.hash_kit.specs.declared.algorithm.HashAlg.{HashAlg}
use Rattle.hash_kit.specs.Digest.{digest_of}
use Rattle.algorithm_policy.specs.Content.{Content, empty as no_policy}
use Rattle.algorithm_policy.specs.Text.{PolicyText}
use Rattle.tree_renewal.specs.Leaf.{leaf_of}
use Rattle.entry_codec.specs.declared.entry.Entry.{Entry}
use Rattle.entry_codec.specs.declared.entry.Entry.TheVariants.{Deposit, Seal, RenewStamps, RenewTrees, SetPolicy}
use Rattle.entry_codec.specs.Spelling.{IsEntry}
use Rattle.archive_chain.specs.Kept.{Cover, Kept, empty, is_in, token_of, cohort_last}
use Rattle.archive_chain.specs.Sequence.{Trees, sequence_of}
use Rattle.archive_chain.specs.Steps.{next}
use Rattle.archive_chain.specs.Rules.{Keeps, KeepsButImprint}

-- ---- leaves

-- of the groups of these cohorts, each with its documents and the chains that it has
abbrev pub leaves_in : Trees → HashAlg → List ℕ → List (List Cover) → List (List (List ℕ)) → List (List ℕ)
leaves_in trees alg cohorts [] documents = []
leaves_in trees alg cohorts (covers ∷ groups) [] = []
leaves_in trees alg cohorts (covers ∷ groups) (d ∷ documents) =
    if is_in cohorts covers then leaf_of alg (sequence_of trees d covers) d ∷ leaves_in trees alg cohorts groups documents
    else leaves_in trees alg cohorts groups documents

-- the leaves of an entry's tree, where the groups have these documents
abbrev pub leaves_of : Kept → Trees → List (List (List ℕ)) → Entry → List (List ℕ)
leaves_of k trees documents (Deposit groups) = []
leaves_of k trees documents (Seal alg count token) = map (leaf_of alg []) (take count (drop (length k.sealed) documents))
leaves_of k trees documents (RenewStamps alg cohorts token) = map (λ c. digest_of alg (token_of (cohort_last k.sealed c))) cohorts
leaves_of k trees documents (RenewTrees alg cohorts token) = leaves_in trees alg cohorts k.sealed documents
leaves_of k trees documents (SetPolicy text) = []

-- ---- what follows from a history

-- the documents of each group, by its number; what an archive keeps; the leaves of each entry's tree; the text of the
-- policy in force
pub record State : Type 0 where
  pub documents : List (List (List ℕ))
  pub kept : Kept
  pub trees : Trees
  pub text : Option (List ℕ)

-- the groups that an entry deposits
abbrev pub groups_in : Entry → List (List (List ℕ))
groups_in (Deposit groups) = groups
groups_in e = []

-- the text of the policy in force after an entry
abbrev pub text_after : Option (List ℕ) → Entry → Option (List ℕ)
text_after text (SetPolicy new) = Some new
text_after text e = text

-- after one entry
abbrev pub after : State → Entry → State
after s e = record {
  documents = s.documents ++ groups_in e;
  kept = next s.kept e;
  trees = s.trees ++ leaves_of s.kept s.trees s.documents e ∷ [];
  text = text_after s.text e;
}

-- after these entries
abbrev pub state_from : State → List Entry → State
state_from s [] = s
state_from s (e ∷ es) = state_from (after s e) es

-- before the first entry
abbrev pub start : State
start = record { documents = []; kept = empty; trees = []; text = None }

-- after a history
abbrev pub state_of : List Entry → State
state_of history = state_from start history

-- the policy in force; before the first it names nothing
abbrev pub InForce : Option (List ℕ) → Content → Type 0
InForce None policy = policy ≡ no_policy
InForce (Some text) policy = PolicyText text policy

-- ---- legal histories

-- Each entry has a spelling, and P of the state before it.
abbrev pub EachAfter : (State → Entry → Type 0) → State → List Entry → Type 0
EachAfter P s [] = ⊤
EachAfter P s (e ∷ es) = IsEntry e × P s e × EachAfter P (after s e) es

-- The entry breaks no rule under the policy in force, with the leaves that follow from the history.
abbrev pub IsLegal : State → Entry → Type 0
IsLegal s e = (policy : Content) × InForce s.text policy × Keeps s.kept policy e (leaves_of s.kept s.trees s.documents e)

-- Each entry has a spelling and breaks no rule after those before it.
abbrev pub Legal : List Entry → Type 0
Legal history = EachAfter IsLegal start history

-- The same, but the imprint isn't asked.
abbrev pub IsLegalButImprint : State → Entry → Type 0
IsLegalButImprint s e = (policy : Content) × InForce s.text policy × KeepsButImprint s.kept policy e

-- Each entry breaks no rule, but the imprints aren't asked.
abbrev pub LegalButImprint : List Entry → Type 0
LegalButImprint history = EachAfter IsLegalButImprint start history
