-- What an entry adds fits it.
use Rattle.std.proofs.Common.{◌≡◌, ℕ, ◌+◌, ◌<◌, ◌≤◌, ◌^◌, Bool, true, false, List, [], ◌∷◌, length, map, Option, Some, None, refl, sym, ap, ◌∙◌, arith}
use Rattle.std.specs.Prelude.{◌||◌, ◌&&◌, nat_lt, nat_le, min, sum_by, if◌then◌else◌}
use Rattle.std.specs.Option.{option_or, option_map}
use Rattle.std.specs.List.{AllByRecursion, list_any}
use Rattle.std.proofs.lemmas.Bool.{ltb-true, ltb-false, leb-true, eq-eqb}
use Rattle.object_groups.specs.Groups.{bytes_in}
use Rattle.hash_kit.specs.declared.algorithm.HashAlg.{HashAlg}
use Rattle.entry_codec.specs.declared.entry.Entry.TheVariants.{Seal, RenewStamps, RenewTrees}
use Rattle.entry_codec.specs.Spelling.{AreCohorts}
use Rattle.archive_chain.specs.Kept.{Kept, cohort_of, has_name, groups_of, ids_in, count_in}
use Rattle.archive_chain.specs.Rules.{most_groups, most_documents, most_bytes, most_sealed, past, past_limits, limit_rule, count_rule, is_live, live_rule, hash_rule, first_full, full_rule}
use Rattle.archive_chain.specs.declared.refusal.Refusal.{Refusal}
use Rattle.archive_chain.specs.declared.refusal.Refusal.TheVariants.{Limit, Count, ChainFull}
use Rattle.archive_chain.specs.declared.refusal.Full.TheVariants.{Groups, Documents, Bytes}
use Rattle.archive_chain.specs.declared.time_stamp.TimeStamp.{TimeStamp}
use Rattle.archive_chain.specs.declared.row.Members.TheVariants.{Run}
use Rattle.archive_chain.specs.declared.row.Row.{Row}
use Rattle.archive_chain.specs.declared.row.Longer.{Longer}
use Rattle.archive_chain.specs.declared.joining.Joined.{Joined}
use Rattle.archive_chain.specs.Held.{Held, IsCounted}
use Rattle.archive_chain.specs.InsideTable.{ids_seen, bones_of}
use Rattle.archive_chain.specs.InsidePieces.{AreAdded, TreesFit, StampsFit}
use Rattle.archive_chain.specs.InsideReady.{DepositFit, SealFit, IsStamped}
use Rattle.archive_chain.specs.InsideMade.{IsStampOf, IsNextRow, IsJoined}
use Rattle.archive_chain.proofs.RowsRenewing.{by_test}
use Rattle.archive_chain.proofs.Indexing.{none_some}
use Rattle.archive_chain.proofs.Chosen.{all_live, count_ids, any_live, some_ids}

-- ---- rules that are kept

pub both_none : {A : Type 0} (a b : Option A) → option_or a b ≡ None → (a ≡ None) × (b ≡ None)
both_none None b e = (refl, e)
both_none (Some x) b e = absurd (none_some x (sym e))

within : (limit n : ℕ) (f : ℕ → Refusal) → option_map f (past limit n) ≡ None → n ≤ limit
within limit n f e =
    by_test (nat_lt limit n)
    (λ t. absurd (none_some (f n) (sym e ∙ ap (λ (b : Bool). option_map f (if b then Some n else None)) t)))
    (λ g. ltb-false limit n g)

pub limits_kept : (k : Kept) (groups documents bytes : ℕ) → past_limits k groups documents bytes ≡ None
    → (groups_of k + groups ≤ most_groups) × (k.documents + documents ≤ most_documents) × (k.bytes + bytes ≤ most_bytes)
limits_kept k groups documents bytes e =
    let first = both_none (option_map (λ n. Limit (Groups n)) (past most_groups (groups_of k + groups)))
    (option_or (option_map (λ n. Limit (Documents n)) (past most_documents (k.documents + documents))) (option_map (λ n. Limit (Bytes n)) (past most_bytes (k.bytes + bytes)))) e in
    let rest = both_none (option_map (λ n. Limit (Documents n)) (past most_documents (k.documents + documents))) (option_map (λ n. Limit (Bytes n)) (past most_bytes (k.bytes + bytes))) first.1 in (
      within most_groups (groups_of k + groups) (λ n. Limit (Groups n)) first.0,
      within most_documents (k.documents + documents) (λ n. Limit (Documents n)) rest.0,
      within most_bytes (k.bytes + bytes) (λ n. Limit (Bytes n)) rest.1,
    )

both_true : (a b : Bool) → (a && b) ≡ true → (a ≡ true) × (b ≡ true)
both_true true b e = (refl, e)
both_true false b e = absurd cc

pub count_kept : (k : Kept) (count : ℕ) → count_rule k count ≡ None → (0 < count) × (count ≤ k.pending)
count_kept k count e =
    by_test (nat_lt 0 count && nat_le count (min k.pending most_sealed))
    (λ t.
    let parts = both_true (nat_lt 0 count) (nat_le count (min k.pending most_sealed)) t in
    let some = ltb-true 0 count parts.0 in
    let few = leb-true count (min k.pending most_sealed) parts.1 in
    (some, omega (arith, few)))
    (λ f. absurd (none_some (Count count k.pending) (sym e ∙ ap (λ (b : Bool). if b then None else Some (Count count k.pending)) f)))

none_full : (o : Option ℕ) → option_map ChainFull o ≡ None → o ≡ None
none_full None e = refl
none_full (Some id) e = absurd (none_some (ChainFull id) (sym e))

pub record IsChosen (k : Kept) (cohorts : List ℕ) : Type 0 where
  pub live : AllByRecursion (λ c. is_live k c ≡ true) cohorts
  pub full : first_full cohorts 0 k.sealed ≡ None

pub stamps_kept : (k : Kept) (alg : HashAlg) (cohorts : List ℕ) → option_or (live_rule k cohorts) (option_or (hash_rule k alg cohorts) (full_rule k cohorts)) ≡ None → IsChosen k cohorts
stamps_kept k alg cohorts e =
    let first = both_none (live_rule k cohorts) (option_or (hash_rule k alg cohorts) (full_rule k cohorts)) e in
    let rest = both_none (hash_rule k alg cohorts) (full_rule k cohorts) first.1 in
    record { live = all_live k cohorts first.0; full = none_full (first_full cohorts 0 k.sealed) rest.1 }

pub trees_kept : (k : Kept) (cohorts : List ℕ) → option_or (live_rule k cohorts) (full_rule k cohorts) ≡ None → IsChosen k cohorts
trees_kept k cohorts e =
    let first = both_none (live_rule k cohorts) (full_rule k cohorts) e in
    record { live = all_live k cohorts first.0; full = none_full (first_full cohorts 0 k.sealed) first.1 }

first_named : (c : ℕ) (cohorts : List ℕ) → has_name (c ∷ cohorts) c ≡ true
first_named c cohorts = ap (λ (b : Bool). b || has_name cohorts c) (eq-eqb c c refl)

-- there is a group of these cohorts
pub chosen_any : (k : Kept) (cohorts : List ℕ) → AreCohorts cohorts → AllByRecursion (λ c. is_live k c ≡ true) cohorts → list_any (has_name cohorts) (map cohort_of k.sealed) ≡ true
chosen_any k [] are live = absurd (let h = are.some in omega (arith, h))
chosen_any k (c ∷ cohorts) are live = any_live (c ∷ cohorts) c k.sealed (first_named c cohorts) live.0

pub chosen_some : (k : Kept) (cohorts : List ℕ) → AreCohorts cohorts → AllByRecursion (λ c. is_live k c ≡ true) cohorts → 0 < count_in cohorts k.sealed
chosen_some k cohorts are live =
    let some = some_ids cohorts 0 k.sealed (chosen_any k cohorts are live) in
    let same = count_ids cohorts 0 k.sealed in
    omega (arith, some, same)

-- ---- a Deposit

pub deposit_fit : (h : Held) (groups : List (List (List ℕ))) (g d b : ℕ) → IsCounted groups g d b → limit_rule h.kept groups ≡ None → DepositFit h g d b
deposit_fit h groups g d b counted shape =
    let kept = limits_kept h.kept (length groups) (sum_by length groups) (sum_by bytes_in groups) shape in
    let few_groups = kept.0 in
    let few_documents = kept.1 in
    let few_bytes = kept.2 in
    let g_is = counted.groups_are in
    let d_is = counted.documents_are in
    let b_is = counted.bytes_are in
    record { few_groups = omega (arith, few_groups, g_is); few_documents = omega (arith, few_documents, d_is); few_bytes = omega (arith, few_bytes, b_is) }

-- ---- the time-stamp

module _ (h : Held) (alg : HashAlg) (token : List ℕ) (leaves : List (List ℕ)) (t : TimeStamp) (is : IsStampOf h.policy alg token leaves t) where
  pub is_stamped : IsStamped h t
  is_stamped = record { tree = is.tree_alg ∙ sym is.alg_is; said = is.said }

  pub same_seal : (count : ℕ) → Seal alg count token ≡ Seal t.alg count t.token
  same_seal count = (λ i. Seal (sym is.alg_is i) count (sym is.token_is i))

  pub same_stamps : (cohorts : List ℕ) → RenewStamps alg cohorts token ≡ RenewStamps t.alg cohorts t.token
  same_stamps cohorts = (λ i. RenewStamps (sym is.alg_is i) cohorts (sym is.token_is i))

  pub same_trees : (cohorts : List ℕ) → RenewTrees alg cohorts token ≡ RenewTrees t.alg cohorts t.token
  same_trees cohorts = (λ i. RenewTrees (sym is.alg_is i) cohorts (sym is.token_is i))

  pub many_leaves : (n : ℕ) → length leaves ≡ n → length t.tree.leaves ≡ n
  many_leaves n e = ap (λ (l : List (List ℕ)). length l) is.tree_leaves ∙ e

  pub seal_fit : (count : ℕ) (row : Row) → count_rule h.kept count ≡ None → count ≤ h.room.groups → length leaves ≡ count
      → IsNextRow h (Run (length h.kept.sealed) count) (record { most = 1; least = length h.kept.sealed }) row → SealFit h t row count
  seal_fit count row shape room many is_row =
      let kept = count_kept h.kept count shape in record {
        some = kept.0;
        pending = kept.1;
        groups = room;
        entry = is_row.entry;
        members = ap ids_seen is_row.members_are;
        alone = is_row.alone;
        open_ = is_row.open_;
        leaves = many_leaves count many;
        most = is_row.most_is;
        least = is_row.least_is;
      }

  pub stamps_fit : (cohorts : List ℕ) (longer : List Longer) → length leaves ≡ length cohorts → length cohorts < 2 ^ 32 → IsChosen h.kept cohorts → AreAdded h.room.table h.kept.entries 0 longer cohorts → StampsFit h t longer cohorts
  stamps_fit cohorts longer many few chosen added = record { leaves = many_leaves (length cohorts) many; few = few; added = added; full = chosen.full }

  pub trees_fit : (cohorts : List ℕ) (j : Joined) → length leaves ≡ count_in cohorts h.kept.sealed → IsChosen h.kept cohorts → IsJoined h cohorts j
      → TreesFit h t j.row j.places.items j.register.names.items j.register.live.items cohorts
  trees_fit cohorts j many chosen is = record {
    entry = is.entry;
    alone = is.alone;
    open_ = is.open_;
    members = is.members;
    leaves = many_leaves (length (ids_in cohorts 0 h.kept.sealed)) (many ∙ sym (count_ids cohorts 0 h.kept.sealed));
    listed = is.register_is.listed (bones_of j.row) is.entry is.open_;
    places = is.places_are;
    full = chosen.full;
    most = is.most;
    most_is = is.most_is;
    peak = is.peak;
  }
