-- The rules that an entry has to keep, in the order in which they are tried.
use Rattle.std.specs.Prelude.{◌≡◌, ◌⊎◌, ℕ, ◌+◌, ◌==◌, ⊤, Bool, true, false, not, ◌&&◌, nat_lt, nat_le, min, List, [], ◌∷◌, length, map, sum_by, find, Contains, Option, Some, None, option_map, if◌then◌else◌}
use Rattle.std.specs.Option.{option_or}
use Rattle.std.specs.List.{list_any, filter}
use Rattle.civil_moment.specs.declared.moment.Moment.{Moment}
use Rattle.civil_moment.specs.Moment.{is_before}
use Rattle.hash_kit.specs.declared.algorithm.HashAlg.{HashAlg}
use Rattle.algorithm_policy.specs.Content.{Content, first_dropped}
use Rattle.algorithm_policy.specs.Text.{PolicyText}
use Rattle.algorithm_policy.specs.Fault.{first_fault}
use Rattle.algorithm_policy.specs.declared.signer.Signer.{Signer}
use Rattle.token_check.specs.Sound.{Stamp as Says, Sound}
use Rattle.token_check.specs.Fault.{Fails}
use Rattle.object_groups.specs.Groups.{bytes_in}
use Rattle.hash_tree.specs.Tree.{tree_root}
use Rattle.entry_codec.specs.declared.entry.Entry.{Entry}
use Rattle.entry_codec.specs.declared.entry.Entry.TheVariants.{Deposit, Seal, RenewStamps, RenewTrees, SetPolicy}
use Rattle.archive_chain.specs.declared.refusal.Full.TheVariants.{Groups, Documents, Bytes}
use Rattle.archive_chain.specs.declared.refusal.Refusal.{Refusal}
use Rattle.archive_chain.specs.declared.refusal.Refusal.TheVariants.{Limit, Count, NotLive, OtherHash, ChainFull, Token, Imprint, TokenEarly, BadPolicy, PolicyDrops}
use Rattle.archive_chain.specs.Kept.{is_same, Cover, Kept, groups_of, cohort_of, is_in, Last, last_token, cohort_last}

-- ---- limits

-- the most groups in all
abbrev pub most_groups : ℕ
most_groups = 65536

-- the most documents in all
abbrev pub most_documents : ℕ
most_documents = 1048576

-- the most bytes of documents in all
abbrev pub most_bytes : ℕ
most_bytes = 268435456

-- the most groups of a Seal
abbrev pub most_sealed : ℕ
most_sealed = 4096

-- the most time-stamps of a group
abbrev pub most_stamps : ℕ
most_stamps = 200

-- ---- before the token

-- the number that would result, where it passes the limit
abbrev pub past : ℕ → ℕ → Option ℕ
past limit number = if nat_lt limit number then Some number else None

-- the first limit that so many groups, documents and bytes more pass
abbrev pub past_limits : Kept → ℕ → ℕ → ℕ → Option Refusal
past_limits k groups documents bytes =
    option_or (option_map (λ n. Limit (Groups n)) (past most_groups (groups_of k + groups))) (
    option_or (option_map (λ n. Limit (Documents n)) (past most_documents (k.documents + documents)))
    (option_map (λ n. Limit (Bytes n)) (past most_bytes (k.bytes + bytes))))

-- the first limit that a Deposit passes
abbrev pub limit_rule : Kept → List (List (List ℕ)) → Option Refusal
limit_rule k groups = past_limits k (length groups) (sum_by length groups) (sum_by bytes_in groups)

-- a Seal covers pending groups, and not too many
abbrev pub count_rule : Kept → ℕ → Option Refusal
count_rule k count = if nat_lt 0 count && nat_le count (min k.pending most_sealed) then None else Some (Count count k.pending)

-- a cohort has a group
abbrev pub is_live : Kept → ℕ → Bool
is_live k cohort = list_any (λ covers. cohort_of covers == cohort) k.sealed

-- the first cohort that has no group
abbrev pub live_rule : Kept → List ℕ → Option Refusal
live_rule k cohorts = option_map NotLive (find (λ c. not (is_live k c)) cohorts)

-- the hash of a cohort's current chain is this one
abbrev pub chain_has : HashAlg → Option Last → Bool
chain_has alg None = false
chain_has alg (Some c) = is_same c.alg alg

-- the first cohort whose chain has another hash
abbrev pub hash_rule : Kept → HashAlg → List ℕ → Option Refusal
hash_rule k alg cohorts = option_map OtherHash (find (λ c. not (chain_has alg (cohort_last k.sealed c))) cohorts)

-- the first group of these cohorts that has 200 time-stamps, from this number on
abbrev pub first_full : List ℕ → ℕ → List (List Cover) → Option ℕ
first_full cohorts id [] = None
first_full cohorts id (covers ∷ groups) =
    if is_in cohorts covers && nat_le most_stamps (length covers) then Some id else first_full cohorts (id + 1) groups

-- the first group of these cohorts that has as many time-stamps as a group may have
abbrev pub full_rule : Kept → List ℕ → Option Refusal
full_rule k cohorts = option_map ChainFull (first_full cohorts 0 k.sealed)

-- the first rule that is broken, of those before the token
abbrev pub shape_rule : Kept → Entry → Option Refusal
shape_rule k (Deposit groups) = limit_rule k groups
shape_rule k (Seal alg count token) = count_rule k count
shape_rule k (RenewStamps alg cohorts token) = option_or (live_rule k cohorts) (option_or (hash_rule k alg cohorts) (full_rule k cohorts))
shape_rule k (RenewTrees alg cohorts token) = option_or (live_rule k cohorts) (full_rule k cohorts)
shape_rule k (SetPolicy text) = None

-- ---- the token

-- the last tokens of the groups that are covered anew
abbrev pub tokens_in : List ℕ → List (List Cover) → List (List ℕ)
tokens_in cohorts groups = map last_token (filter (is_in cohorts) groups)

-- the latest of the times of these tokens
pub record IsLatest (policy : Content) (tokens : List (List ℕ)) (time : Moment) : Type 0 where
  pub token : List ℕ
  pub says : Says
  pub among : Contains tokens token
  pub sound : Sound policy token says
  pub time_is : says.time ≡ time
  pub none_later : (other : List ℕ) (other_says : Says) → Contains tokens other → Sound policy other other_says → is_before time other_says.time ≡ false

-- the token stamps this root by this hash
abbrev pub Stamps : Says → HashAlg → List ℕ → Type 0
Stamps says alg root = (says.alg ≡ alg) × (says.imprint ≡ root)

-- The rule of the token that is broken first.
abbrev pub TokenBreaks : Content → HashAlg → List ℕ → List (List ℕ) → List ℕ → Refusal → Type 0
TokenBreaks policy alg root covered token (Token check) = Fails policy token check
TokenBreaks policy alg root covered token Imprint = (says : Says) × Sound policy token says × (Stamps says alg root → ⊥)
TokenBreaks policy alg root covered token (TokenEarly time latest) =
    (says : Says) × Sound policy token says × Stamps says alg root × (says.time ≡ time) × IsLatest policy covered latest × (is_before time latest ≡ true)
TokenBreaks policy alg root covered token refusal = ⊥

-- The token breaks none, but for its imprint, of which P is asked.
pub record TokenKeepsBut (P : Says → Type 0) (policy : Content) (covered : List (List ℕ)) (token : List ℕ) : Type 0 where
  pub says : Says
  pub sound : Sound policy token says
  pub imprint : P says
  pub not_early : (other : List ℕ) (other_says : Says) → Contains covered other → Sound policy other other_says → is_before says.time other_says.time ≡ false

-- ---- the policy

-- The text says no policy, or one that drops an authority of the policy in force: the first fault, or the first such name.
abbrev pub PolicyBreaks : Content → List ℕ → Refusal → Type 0
PolicyBreaks policy text (BadPolicy line kind) = first_fault text ≡ Some (line, kind)
PolicyBreaks policy text (PolicyDrops name) = (new : Content) × PolicyText text new × ((signer : Signer) × (first_dropped policy new ≡ Some signer) × (signer.name ≡ name))
PolicyBreaks policy text refusal = ⊥

-- The text says a policy that drops none.
abbrev pub PolicyKeeps : Content → List ℕ → Type 0
PolicyKeeps policy text = (new : Content) × PolicyText text new × (first_dropped policy new ≡ None)

-- ---- all rules

-- the first of the later rules that is broken
abbrev pub LaterBreaks : Kept → Content → Entry → List (List ℕ) → Refusal → Type 0
LaterBreaks k policy (Deposit groups) leaves refusal = ⊥
LaterBreaks k policy (Seal alg count token) leaves refusal = TokenBreaks policy alg (tree_root alg leaves) [] token refusal
LaterBreaks k policy (RenewStamps alg cohorts token) leaves refusal = TokenBreaks policy alg (tree_root alg leaves) (tokens_in cohorts k.sealed) token refusal
LaterBreaks k policy (RenewTrees alg cohorts token) leaves refusal = TokenBreaks policy alg (tree_root alg leaves) (tokens_in cohorts k.sealed) token refusal
LaterBreaks k policy (SetPolicy text) leaves refusal = PolicyBreaks policy text refusal

-- The entry breaks this rule first, where its tree has these leaves.
abbrev pub Breaks : Kept → Content → Entry → List (List ℕ) → Refusal → Type 0
Breaks k policy e leaves refusal = (shape_rule k e ≡ Some refusal) ⊎ ((shape_rule k e ≡ None) × LaterBreaks k policy e leaves refusal)

-- The later rules are kept; of the imprint P is asked.
abbrev pub LaterKeepsBut : (Says → HashAlg → Type 0) → Kept → Content → Entry → Type 0
LaterKeepsBut P k policy (Deposit groups) = ⊤
LaterKeepsBut P k policy (Seal alg count token) = TokenKeepsBut (λ says. P says alg) policy [] token
LaterKeepsBut P k policy (RenewStamps alg cohorts token) = TokenKeepsBut (λ says. P says alg) policy (tokens_in cohorts k.sealed) token
LaterKeepsBut P k policy (RenewTrees alg cohorts token) = TokenKeepsBut (λ says. P says alg) policy (tokens_in cohorts k.sealed) token
LaterKeepsBut P k policy (SetPolicy text) = PolicyKeeps policy text

-- The entry breaks no rule, where its tree has these leaves.
abbrev pub Keeps : Kept → Content → Entry → List (List ℕ) → Type 0
Keeps k policy e leaves = (shape_rule k e ≡ None) × LaterKeepsBut (λ says alg. Stamps says alg (tree_root alg leaves)) k policy e

-- It breaks none, but the imprint isn't asked.
abbrev pub KeepsButImprint : Kept → Content → Entry → Type 0
KeepsButImprint k policy e = (shape_rule k e ≡ None) × LaterKeepsBut (λ says alg. ⊤) k policy e
