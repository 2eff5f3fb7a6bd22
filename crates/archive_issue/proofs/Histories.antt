-- In each legal history the sequence of each sealed group stands.
use Rattle.std.proofs.Common.{◌≡◌, inl, inr, ◌⊎◌, ⊎_elim, ℕ, zero, suc, ◌+◌, ◌-◌, ◌<◌, ◌≤◌, Bool, true, false, List, [], ◌∷◌, ◌++◌, length, map, drop, Option, Some, None, refl, sym, ap, subst, ◌∙◌, arith, append-nil}
use Rattle.std.specs.Prelude.{not, cond, find, ◌&&◌, nat_lt, nat_le, min, if◌then◌else◌}
use Rattle.std.specs.Option.{option_or, option_map}
use Rattle.std.specs.List.{AllByRecursion}
use Rattle.std.proofs.lemmas.List.{length-append, length-map, length-drop}
use Rattle.std.proofs.lemmas.Bool.{and_parts, leb-true}
use Rattle.hash_kit.specs.declared.algorithm.HashAlg.{HashAlg}
use Rattle.algorithm_policy.specs.Content.{Content, IsPolicy, first_dropped, empty as no_policy}
use Rattle.algorithm_policy.specs.Text.{PolicyText}
use Rattle.token_check.specs.Sound.{Stamp as Says, Sound}
use Rattle.hash_tree.specs.Tree.{tree_root}
use Rattle.object_groups.specs.Groups.{IsGroup}
use Rattle.entry_codec.specs.declared.entry.Entry.{Entry}
use Rattle.entry_codec.specs.declared.entry.Entry.TheVariants.{Deposit, Seal, RenewStamps, RenewTrees, SetPolicy}
use Rattle.entry_codec.specs.Spelling.{IsEntry}
use Rattle.archive_chain.specs.Kept.{Cover, cohort_of, has_name, last_of, cohort_last}
use Rattle.archive_chain.specs.Sequence.{Trees, sequence_of}
use Rattle.archive_chain.specs.Steps.{cover_at, sealed_from, renewed_from, stamped_in}
use Rattle.archive_chain.specs.Rules.{Stamps, tokens_in, chain_has, live_rule, hash_rule, full_rule, Keeps}
use Rattle.archive_chain.specs.declared.refusal.Refusal.TheVariants.{Count, OtherHash}
use Rattle.archive_chain.specs.History.{State, leaves_of, after, state_from, state_of, start, InForce, EachAfter, IsLegal, Legal}
use Rattle.archive_chain.proofs.Saying.{Trusts}
use Rattle.archive_issue.proofs.Ends.{each_end, each_along}
use Rattle.archive_issue.proofs.Keeping.{stands_kept}
use Rattle.archive_issue.proofs.AllGroups.{by_test, AreGood, IsLate, renewed_groups, sealed_groups, stamped_groups, good_append}
use Rattle.archive_issue.proofs.Shared.{cohort_end, Member, Shared, Fresh, Known, WasIn, was_renewed, was_stamped, shared_begun, shared_added, are_shared, all_grow, leaves_grow}

-- ---- what every state of a legal history has

pub record IsGoodState (s : State) (policy : Content) : Type 0 where
  pub in_force : InForce s.text policy
  pub good : AreGood s.trees policy s.kept.sealed s.documents
  pub known : Known (length s.trees) s.kept.sealed
  pub shared : Shared s.kept.sealed
  pub fresh : Fresh (length s.trees) s.kept.sealed
  pub entries : s.kept.entries ≡ length s.trees
  pub filled : AllByRecursion (λ d. 0 < length d) s.documents
  pub pending : length s.documents ≡ length s.kept.sealed + s.kept.pending

-- ---- of lists

pub longer : (trees : Trees) (leaves : List (List ℕ)) → length (trees ++ leaves ∷ []) ≡ suc (length trees)
longer trees leaves = omega (arith, length-append trees (leaves ∷ []))

each_drop : {A : Type 0} (P : A → Type 0) (n : ℕ) (xs : List A) → AllByRecursion P xs → AllByRecursion P (drop n xs)
each_drop P zero xs h = h
each_drop P (suc n) [] h = tt
each_drop P (suc n) (x ∷ xs) h = each_drop P n xs h.1

pub each_append : {A : Type 0} (P : A → Type 0) (xs ys : List A) → AllByRecursion P xs → AllByRecursion P ys → AllByRecursion P (xs ++ ys)
each_append P [] ys h k = k
each_append P (x ∷ xs) ys h k = (h.0, each_append P xs ys h.1 k)

more_documents : (trees : Trees) (policy : Content) (groups : List (List Cover)) (documents more : List (List (List ℕ))) → AreGood trees policy groups documents → AreGood trees policy groups (documents ++ more)
more_documents trees policy [] documents more good = tt
more_documents trees policy (g ∷ groups) [] more good = absurd good
more_documents trees policy (g ∷ groups) (d ∷ documents) more good = (good.0, more_documents trees policy groups documents more good.1)

pub known_longer : (n m : ℕ) (groups : List (List Cover)) → n ≤ m → Known n groups → Known m groups
known_longer n m groups le known a member = each_along (λ c. c.entry < n) (λ c. c.entry < m) (λ c lt. omega (arith, le, lt)) a (known a member)

pub fresh_longer : (n m : ℕ) (groups : List (List Cover)) → n ≤ m → Fresh n groups → Fresh m groups
fresh_longer n m groups le fresh a member = omega (arith, le, fresh a member)

-- ---- another policy

all_kept : (trees : Trees) (old new : Content) (groups : List (List Cover)) (documents : List (List (List ℕ))) → Trusts old new
    → AreGood trees old groups documents → AreGood trees new groups documents
all_kept trees old new [] documents trusts good = tt
all_kept trees old new (g ∷ groups) [] trusts good = absurd good
all_kept trees old new (g ∷ groups) (d ∷ documents) trusts good = (
  record {
    stamps = good.0.stamps;
    stands = stands_kept old new d (sequence_of trees d g) good.0.stamps trusts good.0.stands;
    ended = good.0.ended;
    init = good.0.init;
    last = good.0.last;
    covers_are = good.0.covers_are;
    token_is = good.0.token_is;
    alg_is = good.0.alg_is;
  },
  all_kept trees old new groups documents trusts good.1,
)

-- ---- the steps

deposited : (s : State) (policy : Content) (groups : List (List (List ℕ))) → IsGoodState s policy → IsEntry (Deposit groups) → IsGoodState (after s (Deposit groups)) policy
deposited s policy groups is entry =
    let long = longer s.trees [] in record {
      in_force = is.in_force;
      good = more_documents (s.trees ++ [] ∷ []) policy s.kept.sealed s.documents groups (all_grow s.trees [] policy s.kept.sealed s.documents is.known is.good);
      known = known_longer (length s.trees) (length (s.trees ++ [] ∷ [])) s.kept.sealed (omega (arith, long)) is.known;
      shared = is.shared;
      fresh = fresh_longer (length s.trees) (length (s.trees ++ [] ∷ [])) s.kept.sealed (omega (arith, long)) is.fresh;
      entries = omega (arith, is.entries, long);
      filled = each_append (λ d. 0 < length d) s.documents groups is.filled (each_along IsGroup (λ d. 0 < length d) (λ d g. omega (arith, g.some)) groups entry.each);
      pending = omega (arith, is.pending, length-append s.documents groups);
    }

set_policy : (s : State) (policy new : Content) (text : List ℕ) → IsGoodState s policy → PolicyText text new → Trusts policy new → IsGoodState (after s (SetPolicy text)) new
set_policy s policy new text is says trusts =
    let long = longer s.trees [] in record {
      in_force = says;
      good = subst (λ (ds : List (List (List ℕ))). AreGood (s.trees ++ [] ∷ []) new s.kept.sealed ds) (sym (append-nil s.documents))
          (all_kept (s.trees ++ [] ∷ []) policy new s.kept.sealed s.documents trusts (all_grow s.trees [] policy s.kept.sealed s.documents is.known is.good));
      known = known_longer (length s.trees) (length (s.trees ++ [] ∷ [])) s.kept.sealed (omega (arith, long)) is.known;
      shared = is.shared;
      fresh = fresh_longer (length s.trees) (length (s.trees ++ [] ∷ [])) s.kept.sealed (omega (arith, long)) is.fresh;
      entries = omega (arith, is.entries, long);
      filled = subst (AllByRecursion (λ d. 0 < length d)) (sym (append-nil s.documents)) is.filled;
      pending = ap length (append-nil s.documents) ∙ is.pending;
    }

-- ---- members

pub member_append : (xs ys : List (List Cover)) (b : List Cover) → Member b (xs ++ ys) → Member b xs ⊎ Member b ys
member_append [] ys b m = inr m
member_append (x ∷ xs) ys b m =
    ⊎_elim (λ (e : x ≡ b). inl (inl e))
    (λ (later : Member b (xs ++ ys)). ⊎_elim (λ (i : Member b xs). inl (inr i)) (λ (j : Member b ys). inr j) (member_append xs ys b later)) m

pub was_sealed : (cover : ℕ → Cover) (place n : ℕ) (b : List Cover) → Member b (sealed_from cover place n) → (k : ℕ) × (cover k ∷ [] ≡ b)
was_sealed cover place zero b m = absurd m
was_sealed cover place (suc n) b m =
    ⊎_elim (λ (e : cover place ∷ [] ≡ b). (place, e)) (λ (later : Member b (sealed_from cover (place + 1) n)). was_sealed cover (place + 1) n b later) m

pub so_many : (cover : ℕ → Cover) (place n : ℕ) → length (sealed_from cover place n) ≡ n
so_many cover place zero = refl
so_many cover place (suc n) = ap suc (so_many cover (place + 1) n)

pub same_many : (cover : ℕ → Cover) (cohorts : List ℕ) (place : ℕ) (groups : List (List Cover)) → length (renewed_from cover cohorts place groups) ≡ length groups
same_many cover cohorts place [] = refl
same_many cover cohorts place (g ∷ groups) =
    let new : List (List Cover) = (g ++ cover place ∷ []) ∷ renewed_from cover cohorts (place + 1) groups in
    let same : List (List Cover) = g ∷ renewed_from cover cohorts place groups in
    by_test (has_name cohorts (cohort_of g))
    (λ e. ap (λ (b : Bool). length (if b then new else same)) e ∙ ap suc (same_many cover cohorts (place + 1) groups))
    (λ e. ap (λ (b : Bool). length (if b then new else same)) e ∙ ap suc (same_many cover cohorts place groups))

pub known_was : (n m : ℕ) (cover : ℕ → Cover) (cohorts : List ℕ) (groups new : List (List Cover)) → ((b : List Cover) → Member b new → WasIn cover cohorts groups b)
    → n ≤ m → ((k : ℕ) → (cover k).entry < m) → Known n groups → Known m new
known_was n m cover cohorts groups new was le here known b member =
    let w = was b member in
    let old : AllByRecursion (λ c. c.entry < m) w.0 = known_longer n m groups le known w.0 w.1 in
    ⊎_elim
    (λ (c : (k : ℕ) × (has_name cohorts (cohort_of w.0) ≡ true) × (b ≡ w.0 ++ cover k ∷ [])). subst (AllByRecursion (λ d. d.entry < m)) (sym c.2) (each_end (λ d. d.entry < m) w.0 (cover c.0) old (here c.0)))
    (λ (u : (has_name cohorts (cohort_of w.0) ≡ false) × (b ≡ w.0)). subst (AllByRecursion (λ d. d.entry < m)) (sym u.1) old)
    w.2

pub fresh_was : (n m : ℕ) (cover : ℕ → Cover) (cohorts : List ℕ) (groups new : List (List Cover)) → ((b : List Cover) → Member b new → WasIn cover cohorts groups b)
    → n ≤ m → ((a : List Cover) (k : ℕ) → cohort_of a < m → cohort_of (a ++ cover k ∷ []) < m) → Fresh n groups → Fresh m new
fresh_was n m cover cohorts groups new was le here fresh b member =
    let w = was b member in
    let old : cohort_of w.0 < m = fresh_longer n m groups le fresh w.0 w.1 in
    ⊎_elim
    (λ (c : (k : ℕ) × (has_name cohorts (cohort_of w.0) ≡ true) × (b ≡ w.0 ++ cover k ∷ [])). subst (λ (x : List Cover). cohort_of x < m) (sym c.2) (here w.0 c.0 old))
    (λ (u : (has_name cohorts (cohort_of w.0) ≡ false) × (b ≡ w.0)). subst (λ (x : List Cover). cohort_of x < m) (sym u.1) old)
    w.2

-- ---- a seal

sealed_shared : (n : ℕ) (alg : HashAlg) (token : List ℕ) (count : ℕ) (groups : List (List Cover)) → Shared groups → Fresh n groups → Shared (groups ++ sealed_from (cover_at n true alg token) 0 count)
sealed_shared n alg token count groups shared fresh x y mx my same =
    let cover = cover_at n true alg token in
    let new : List (List Cover) = sealed_from cover 0 count in
    ⊎_elim
    (λ (ix : Member x groups). ⊎_elim
    (λ (iy : Member y groups). shared x y ix iy same)
    (λ (jy : Member y new). let w = was_sealed cover 0 count y jy in let is : cohort_of y ≡ n = sym (ap cohort_of w.1) in absurd (omega (arith, fresh x ix, same ∙ is)))
    (member_append groups new y my))
    (λ (jx : Member x new). let v = was_sealed cover 0 count x jx in let at : cohort_of x ≡ n = sym (ap cohort_of v.1) in
    ⊎_elim
    (λ (iy : Member y groups). absurd (omega (arith, fresh y iy, sym same ∙ at)))
    (λ (jy : Member y new). let w = was_sealed cover 0 count y jy in sym (ap last_of v.1) ∙ ap last_of w.1)
    (member_append groups new y my))
    (member_append groups new x mx)

seal_step : (s : State) (policy : Content) (alg : HashAlg) (count : ℕ) (token : List ℕ) (says : Says) → IsGoodState s policy → count ≤ s.kept.pending → Sound policy token says
    → Stamps says alg (tree_root alg (leaves_of s.kept s.trees s.documents (Seal alg count token))) → IsGoodState (after s (Seal alg count token)) policy
seal_step s policy alg count token says is few sound stamps =
    let leaves = leaves_of s.kept s.trees s.documents (Seal alg count token) in
    let trees : Trees = s.trees ++ leaves ∷ [] in
    let n : ℕ = length s.trees in
    let cover = cover_at n true alg token in
    let new : List (List Cover) = sealed_from cover 0 count in
    let all : List (List Cover) = s.kept.sealed ++ new in
    let long = longer s.trees leaves in
    let waiting : List (List (List ℕ)) = drop (length s.kept.sealed) s.documents in
    let enough : count ≤ length waiting = omega (arith, few, is.pending, length-drop (length s.kept.sealed) s.documents) in
    let firsts : AreGood trees policy new waiting =
    sealed_groups s.trees policy alg token says [] leaves sound stamps.0 stamps.1 count waiting [] enough (each_drop (λ d. 0 < length d) (length s.kept.sealed) s.documents is.filled) refl in
    let good : AreGood trees policy all s.documents = good_append trees policy s.kept.sealed new s.documents (all_grow s.trees leaves policy s.kept.sealed s.documents is.known is.good) firsts in
    let known : Known (length trees) all = λ b m. ⊎_elim
    (λ (i : Member b s.kept.sealed). known_longer n (length trees) s.kept.sealed (omega (arith, long)) is.known b i)
    (λ (j : Member b new). let w = was_sealed cover 0 count b j in subst (AllByRecursion (λ c. c.entry < length trees)) w.1 (omega (arith, long), tt))
    (member_append s.kept.sealed new b m) in
    let fresh : Fresh (length trees) all = λ b m. ⊎_elim
    (λ (i : Member b s.kept.sealed). fresh_longer n (length trees) s.kept.sealed (omega (arith, long)) is.fresh b i)
    (λ (j : Member b new). let w = was_sealed cover 0 count b j in subst (λ (x : List Cover). cohort_of x < length trees) w.1 (omega (arith, long)))
    (member_append s.kept.sealed new b m) in
    let named : s.kept.sealed ++ sealed_from (cover_at s.kept.entries true alg token) 0 count ≡ all = ap (λ (e : ℕ). s.kept.sealed ++ sealed_from (cover_at e true alg token) 0 count) is.entries in
    let many = length-append s.kept.sealed new in
    let counted : length s.documents ≡ length all + (s.kept.pending - count) = omega (arith, is.pending, few, many, so_many cover 0 count) in
    let docs = sym (append-nil s.documents) in record {
      in_force = is.in_force;
      good = subst (λ (g : List (List Cover)). AreGood trees policy g (s.documents ++ [])) (sym named) (subst (AreGood trees policy all) docs good);
      known = subst (Known (length trees)) (sym named) known;
      shared = subst Shared (sym named) (sealed_shared n alg token count s.kept.sealed is.shared is.fresh);
      fresh = subst (Fresh (length trees)) (sym named) fresh;
      entries = omega (arith, is.entries, long);
      filled = subst (AllByRecursion (λ d. 0 < length d)) docs is.filled;
      pending = ap length (append-nil s.documents) ∙ counted ∙ ap (λ (g : List (List Cover)). length g + (s.kept.pending - count)) (sym named);
    }

-- ---- new trees

trees_step : (s : State) (policy : Content) (alg : HashAlg) (cohorts : List ℕ) (token : List ℕ) (says : Says) → IsGoodState s policy → Sound policy token says
    → Stamps says alg (tree_root alg (leaves_of s.kept s.trees s.documents (RenewTrees alg cohorts token))) → IsLate policy says (tokens_in cohorts s.kept.sealed)
    → IsGoodState (after s (RenewTrees alg cohorts token)) policy
trees_step s policy alg cohorts token says is sound stamps late =
    let leaves = leaves_of s.kept s.trees s.documents (RenewTrees alg cohorts token) in
    let trees : Trees = s.trees ++ leaves ∷ [] in
    let n : ℕ = length s.trees in
    let cover = cover_at n true alg token in
    let all : List (List Cover) = renewed_from cover cohorts 0 s.kept.sealed in
    let long = longer s.trees leaves in
    let was = was_renewed cover cohorts 0 s.kept.sealed in
    let good : AreGood trees policy all s.documents =
    renewed_groups s.trees policy alg token says cohorts leaves sound stamps.0 stamps.1 s.kept.sealed s.documents [] (all_grow s.trees leaves policy s.kept.sealed s.documents is.known is.good) is.filled
    (leaves_grow s.trees leaves alg cohorts s.kept.sealed s.documents is.known) late in
    let named : renewed_from (cover_at s.kept.entries true alg token) cohorts 0 s.kept.sealed ≡ all = ap (λ (e : ℕ). renewed_from (cover_at e true alg token) cohorts 0 s.kept.sealed) is.entries in
    let docs = sym (append-nil s.documents) in record {
      in_force = is.in_force;
      good = subst (λ (g : List (List Cover)). AreGood trees policy g (s.documents ++ [])) (sym named) (subst (AreGood trees policy all) docs good);
      known = subst (Known (length trees)) (sym named) (known_was n (length trees) cover cohorts s.kept.sealed all was (omega (arith, long)) (λ k. omega (arith, long)) is.known);
      shared = subst Shared (sym named) (shared_begun n alg token cohorts s.kept.sealed all is.shared is.fresh was);
      fresh = subst (Fresh (length trees)) (sym named) (fresh_was n (length trees) cover cohorts s.kept.sealed all was (omega (arith, long))
          (λ a k lt. subst (λ (c : ℕ). c < length trees) (sym (cohort_end 0 a (cover k))) (omega (arith, long))) is.fresh);
      entries = omega (arith, is.entries, long);
      filled = subst (AllByRecursion (λ d. 0 < length d)) docs is.filled;
      pending = ap length (append-nil s.documents) ∙ is.pending ∙ ap (λ (k : ℕ). k + s.kept.pending) (sym (same_many (cover_at s.kept.entries true alg token) cohorts 0 s.kept.sealed));
    }

-- ---- further time-stamps

stamps_step : (s : State) (policy : Content) (alg : HashAlg) (cohorts : List ℕ) (token : List ℕ) (says : Says) → IsGoodState s policy → Sound policy token says
    → Stamps says alg (tree_root alg (leaves_of s.kept s.trees s.documents (RenewStamps alg cohorts token))) → IsLate policy says (tokens_in cohorts s.kept.sealed)
    → AllByRecursion (λ c. chain_has alg (cohort_last s.kept.sealed c) ≡ true) cohorts → IsGoodState (after s (RenewStamps alg cohorts token)) policy
stamps_step s policy alg cohorts token says is sound stamps late hashes =
    let leaves = leaves_of s.kept s.trees s.documents (RenewStamps alg cohorts token) in
    let trees : Trees = s.trees ++ leaves ∷ [] in
    let n : ℕ = length s.trees in
    let cover = cover_at n false alg token in
    let all : List (List Cover) = map (stamped_in cover cohorts) s.kept.sealed in
    let long = longer s.trees leaves in
    let was = was_stamped cover cohorts s.kept.sealed in
    let good : AreGood trees policy all s.documents =
    stamped_groups s.trees policy alg token says cohorts leaves s.kept.sealed sound stamps.0 stamps.1 refl hashes s.kept.sealed s.documents
    (all_grow s.trees leaves policy s.kept.sealed s.documents is.known is.good) (are_shared s.kept.sealed s.kept.sealed is.shared (λ a m. m)) late in
    let named : map (stamped_in (cover_at s.kept.entries false alg token) cohorts) s.kept.sealed ≡ all = ap (λ (e : ℕ). map (stamped_in (cover_at e false alg token) cohorts) s.kept.sealed) is.entries in
    let docs = sym (append-nil s.documents) in record {
      in_force = is.in_force;
      good = subst (λ (g : List (List Cover)). AreGood trees policy g (s.documents ++ [])) (sym named) (subst (AreGood trees policy all) docs good);
      known = subst (Known (length trees)) (sym named) (known_was n (length trees) cover cohorts s.kept.sealed all was (omega (arith, long)) (λ k. omega (arith, long)) is.known);
      shared = subst Shared (sym named) (shared_added n alg token cohorts s.kept.sealed all is.shared is.fresh was);
      fresh = subst (Fresh (length trees)) (sym named) (fresh_was n (length trees) cover cohorts s.kept.sealed all was (omega (arith, long))
          (λ a k lt. subst (λ (c : ℕ). c < length trees) (sym (cohort_end 0 a (cover k))) lt) is.fresh);
      entries = omega (arith, is.entries, long);
      filled = subst (AllByRecursion (λ d. 0 < length d)) docs is.filled;
      pending = ap length (append-nil s.documents) ∙ is.pending ∙ ap (λ (k : ℕ). k + s.kept.pending) (sym (length-map s.kept.sealed (stamped_in (cover_at s.kept.entries false alg token) cohorts)));
    }

-- ---- the rules before the token

pub or_none : {A : Type 0} (a b : Option A) → option_or a b ≡ None → (a ≡ None) × (b ≡ None)
or_none None b e = (refl, e)
or_none (Some x) b e = cc

pub map_none : {A B : Type 0} (f : A → B) (o : Option A) → option_map f o ≡ None → o ≡ None
map_none f None e = refl
map_none f (Some x) e = cc

pub not_false : (b : Bool) → not b ≡ false → b ≡ true
not_false true e = refl
not_false false e = cc

pub none_found : (p : ℕ → Bool) (xs : List ℕ) → find (λ x. not (p x)) xs ≡ None → AllByRecursion (λ x. p x ≡ true) xs
none_found p [] none = tt
none_found p (x ∷ xs) none =
    let test : ℕ → Bool = λ y. not (p y) in
    by_test (not (p x))
    (λ e. let found = sym (ap (λ (b : Bool). cond b (Some x) (find test xs)) e) ∙ none in cc)
    (λ e. (not_false (p x) e, none_found p xs (sym (ap (λ (b : Bool). cond b (Some x) (find test xs)) e) ∙ none)))

pub passes : {A : Type 0} (b : Bool) (x : A) → (if b then None else Some x) ≡ None → b ≡ true
passes true x e = refl
passes false x e = cc

-- ---- a whole history

-- (the laws that no text is two policies, and that what a policy trusts, one that drops nothing of it trusts)
module _ (once : (text : List ℕ) (a b : Content) → PolicyText text a → PolicyText text b → a ≡ b)
    (keeps : (old new : Content) → IsPolicy new → first_dropped old new ≡ None → Trusts old new) where
  same_policy : (text : Option (List ℕ)) (a b : Content) → InForce text a → InForce text b → a ≡ b
  same_policy None a b h k = h ∙ sym k
  same_policy (Some text) a b h k = once text a b h k

  keeps_here : (s : State) (policy : Content) (e : Entry) → IsGoodState s policy → IsLegal s e → Keeps s.kept policy e (leaves_of s.kept s.trees s.documents e)
  keeps_here s policy e is legal = subst (λ (p : Content). Keeps s.kept p e (leaves_of s.kept s.trees s.documents e)) (same_policy s.text legal.0 policy legal.1 is.in_force) legal.2

  step : (s : State) (policy : Content) (e : Entry) → IsGoodState s policy → IsEntry e → IsLegal s e → (new : Content) × IsGoodState (after s e) new
  step s policy (Deposit groups) is entry legal = (policy, deposited s policy groups is entry)
  step s policy (Seal alg count token) is entry legal =
      let kept = keeps_here s policy (Seal alg count token) is legal in
      let test = passes (nat_lt 0 count && nat_le count (min s.kept.pending 4096)) (Count count s.kept.pending) kept.0 in
      let few = leb-true count (min s.kept.pending 4096) (and_parts (nat_lt 0 count) (nat_le count (min s.kept.pending 4096)) test).1 in
      (policy, seal_step s policy alg count token kept.1.says is (omega (arith, few)) kept.1.sound kept.1.imprint)
  step s policy (RenewStamps alg cohorts token) is entry legal =
      let kept = keeps_here s policy (RenewStamps alg cohorts token) is legal in
      let live = or_none (live_rule s.kept cohorts) (option_or (hash_rule s.kept alg cohorts) (full_rule s.kept cohorts)) kept.0 in
      let hash = or_none (hash_rule s.kept alg cohorts) (full_rule s.kept cohorts) live.1 in
      let hashes = none_found (λ c. chain_has alg (cohort_last s.kept.sealed c)) cohorts (map_none OtherHash (find (λ c. not (chain_has alg (cohort_last s.kept.sealed c))) cohorts) hash.0) in
      (policy, stamps_step s policy alg cohorts token kept.1.says is kept.1.sound kept.1.imprint kept.1.not_early hashes)
  step s policy (RenewTrees alg cohorts token) is entry legal =
      let kept = keeps_here s policy (RenewTrees alg cohorts token) is legal in
      (policy, trees_step s policy alg cohorts token kept.1.says is kept.1.sound kept.1.imprint kept.1.not_early)
  step s policy (SetPolicy text) is entry legal =
      let kept = keeps_here s policy (SetPolicy text) is legal in
      (kept.1.0, set_policy s policy kept.1.0 text is kept.1.1 (keeps policy kept.1.0 kept.1.1.valid kept.1.2))

  all_steps : (entries : List Entry) (s : State) (policy : Content) → IsGoodState s policy → EachAfter IsLegal s entries → (new : Content) × IsGoodState (state_from s entries) new
  all_steps [] s policy is legal = (policy, is)
  all_steps (e ∷ entries) s policy is legal =
      let here = step s policy e is legal.0 legal.1 in
      all_steps entries (after s e) here.0 here.1 legal.2

  pub each_stands : (history : List Entry) → Legal history → (policy : Content) → InForce (state_of history).text policy → IsGoodState (state_of history) policy
  each_stands history legal policy in_force =
      let first : IsGoodState start no_policy = record {
        in_force = refl;
        good = tt;
        known = λ a m. absurd m;
        shared = λ a b m. absurd m;
        fresh = λ a m. absurd m;
        entries = refl;
        filled = tt;
        pending = refl;
      } in
      let last = all_steps history start no_policy first legal in
      subst (IsGoodState (state_of history)) (same_policy (state_of history).text last.0 policy last.1.in_force in_force) last.1
