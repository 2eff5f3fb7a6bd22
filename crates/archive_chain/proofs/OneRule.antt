-- An entry breaks one rule first, or keeps all.
use Rattle.std.proofs.Common.{◌≡◌, inl, inr, ℕ, true, false, List, [], Option, Some, None, refl, sym, ap, subst, ◌∙◌}
use Rattle.std.specs.Prelude.{◌↔◌, ◌<◌, pos, ◌≤ℤ◌}
use Rattle.std.proofs.Props.{props}
use mathlib.Core.HLevel.{is_prop→PathP}
use Rattle.std.specs.Ordering.{is_lt, ordering_then, ordering_reverse, int_cmp, nat_cmp}
use Rattle.std.specs.declared.cmp.Ordering.{Ordering}
use Rattle.std.specs.declared.cmp.Ordering.TheVariants.{Less, Equal, Greater}
use Rattle.std.proofs.lemmas.Cmp.{nat_cmp_total, int_cmp_total}
use Rattle.std.proofs.lemmas.Map.Lookups.{exact_unsigned, exact_signed}
use Rattle.civil_moment.specs.declared.moment.Moment.{Moment}
use Rattle.civil_moment.specs.Moment.{is_before}
use Rattle.hash_kit.specs.declared.algorithm.HashAlg.{HashAlg}
use Rattle.algorithm_policy.specs.declared.signer.Signer.{Signer}
use Rattle.algorithm_policy.specs.declared.fault.PolicyKind.{PolicyKind}
use Rattle.algorithm_policy.specs.Content.{Content, first_dropped}
use Rattle.algorithm_policy.specs.Text.{PolicyText}
use Rattle.algorithm_policy.specs.Fault.{first_fault}
use Rattle.token_check.specs.declared.fault.Check.{Check}
use Rattle.token_check.specs.Sound.{Stamp as Says, Sound}
use Rattle.token_check.specs.Fault.{Fails}
use Rattle.token_check.proofs.Once.{says_once, fails_once, sound_passes}
use Rattle.hash_tree.specs.Tree.{tree_root}
use Rattle.entry_codec.specs.declared.entry.Entry.{Entry}
use Rattle.entry_codec.specs.declared.entry.Entry.TheVariants.{Deposit, Seal, RenewStamps, RenewTrees, SetPolicy}
use Rattle.archive_chain.specs.declared.refusal.Refusal.{Refusal}
use Rattle.archive_chain.specs.declared.refusal.Refusal.TheVariants.{Limit, Count, NotLive, OtherHash, ChainFull, Token, Imprint, TokenEarly, BadPolicy, PolicyDrops, Memory}
use Rattle.archive_chain.specs.Kept.{Kept}
use Rattle.archive_chain.specs.Rules.{tokens_in, IsLatest, Stamps, TokenBreaks, TokenKeepsBut, PolicyBreaks, LaterBreaks, Breaks, Keeps}

-- ---- moments of which neither is before the other

same_moment : (a b : Moment) → a.seconds ≡ b.seconds → a.nanos ≡ b.nanos → a ≡ b
same_moment a b p q i = record {
  seconds = p i;
  nanos = q i;
  from_1970 = is_prop→PathP (λ j. pos 0 ≤ℤ p j) (λ j. hlevel props) a.from_1970 b.from_1970 i;
  until_9999 = is_prop→PathP (λ j. p j ≤ℤ pos 253402300799) (λ j. hlevel props) a.until_9999 b.until_9999 i;
  below_second = is_prop→PathP (λ j. q j < 1000000000) (λ j. hlevel props) a.below_second b.below_second i;
}

both_equal : (r s : Ordering) → is_lt (ordering_then r s) ≡ false → is_lt (ordering_then (ordering_reverse r) (ordering_reverse s)) ≡ false → (r ≡ Equal) × (s ≡ Equal)
both_equal Less s h k = cc
both_equal Greater s h k = cc
both_equal Equal Less h k = cc
both_equal Equal Greater h k = cc
both_equal Equal Equal h k = (refl, refl)

neither_before : (a b : Moment) → is_before a b ≡ false → is_before b a ≡ false → a ≡ b
neither_before a b h k =
    let r = int_cmp_total.antisymm b.seconds a.seconds in
    let s = nat_cmp_total.antisymm b.nanos a.nanos in
    let turned : is_lt (ordering_then (ordering_reverse (int_cmp a.seconds b.seconds)) (ordering_reverse (nat_cmp a.nanos b.nanos))) ≡ false =
    sym (ap is_lt (λ i. ordering_then (r i) (s i))) ∙ k in
    let e = both_equal (int_cmp a.seconds b.seconds) (nat_cmp a.nanos b.nanos) h turned in
    same_moment a b (exact_signed a.seconds b.seconds e.0) (exact_unsigned a.nanos b.nanos e.1)

-- ---- the token

-- what a rule that is broken says
data TokenStage (policy : Content) (alg : HashAlg) (root : List ℕ) (covered : List (List ℕ)) (token : List ℕ) (a : Refusal) : Type 0 where
  unsound : (c : Check) → Fails policy token c → a ≡ Token c → TokenStage policy alg root covered token a
  other : (says : Says) → Sound policy token says → (Stamps says alg root → ⊥) → a ≡ Imprint → TokenStage policy alg root covered token a
  early : (says : Says) → Sound policy token says → Stamps says alg root → (time latest : Moment) → says.time ≡ time → IsLatest policy covered latest
      → is_before time latest ≡ true → a ≡ TokenEarly time latest → TokenStage policy alg root covered token a

module _ (policy : Content) (alg : HashAlg) (root : List ℕ) (covered : List (List ℕ)) (token : List ℕ) where
  stage : (a : Refusal) → TokenBreaks policy alg root covered token a → TokenStage policy alg root covered token a
  stage (Limit full) h = absurd h
  stage (Count count pending) h = absurd h
  stage (NotLive cohort) h = absurd h
  stage (OtherHash cohort) h = absurd h
  stage (ChainFull id) h = absurd h
  stage (Token check) h = unsound check h refl
  stage Imprint h = other h.0 h.1 h.2 refl
  stage (TokenEarly time latest) h = early h.0 h.1 h.2 time latest h.3 h.4 h.5 refl
  stage (BadPolicy line kind) h = absurd h
  stage (PolicyDrops name) h = absurd h
  stage Memory h = absurd h

  same_stamps : (a b : Says) → Sound policy token a → Sound policy token b → Stamps a alg root → Stamps b alg root
  same_stamps a b m n = subst (λ (s : Says). Stamps s alg root) (says_once policy token a b m n)

  one_latest : (s t : Moment) → IsLatest policy covered s → IsLatest policy covered t → s ≡ t
  one_latest s t m n =
      neither_before s t
      (subst (λ (x : Moment). is_before s x ≡ false) n.time_is (m.none_later n.token n.says n.among n.sound))
      (subst (λ (x : Moment). is_before t x ≡ false) m.time_is (n.none_later m.token m.says m.among m.sound))

  one_stage : (a b : Refusal) → TokenStage policy alg root covered token a → TokenStage policy alg root covered token b → a ≡ b
  one_stage a b (unsound c h p) (unsound d k q) = p ∙ ap Token (fails_once policy token c d h k) ∙ sym q
  one_stage a b (unsound c h p) (other s k m q) = absurd (sound_passes policy token s c k h)
  one_stage a b (unsound c h p) (early s k m u v w x y q) = absurd (sound_passes policy token s c k h)
  one_stage a b (other s k m p) (unsound c h q) = absurd (sound_passes policy token s c k h)
  one_stage a b (other s k m p) (other t l n q) = p ∙ sym q
  one_stage a b (other s k m p) (early t l n u v w x y q) = absurd (m (same_stamps t s l k n))
  one_stage a b (early s k m u v w x y p) (unsound c h q) = absurd (sound_passes policy token s c k h)
  one_stage a b (early s k m u v w x y p) (other t l n q) = absurd (n (same_stamps s t k l m))
  one_stage a b (early s k m u v w x y p) (early t l n u2 v2 w2 x2 y2 q) =
      let time : u ≡ u2 = sym w ∙ ap (λ (z : Says). z.time) (says_once policy token s t k l) ∙ w2 in
      p ∙ (λ i. TokenEarly (time i) (one_latest v v2 x x2 i)) ∙ sym q

  one_token_rule : (a b : Refusal) → TokenBreaks policy alg root covered token a → TokenBreaks policy alg root covered token b → a ≡ b
  one_token_rule a b h k = one_stage a b (stage a h) (stage b k)

  no_stage : (a : Refusal) → TokenKeepsBut (λ says. Stamps says alg root) policy covered token → TokenStage policy alg root covered token a → ⊥
  no_stage a keeps (unsound c h p) = sound_passes policy token keeps.says c keeps.sound h
  no_stage a keeps (other s k m p) = m (same_stamps keeps.says s keeps.sound k keeps.imprint)
  no_stage a keeps (early s k m time latest w x y p) =
      let same : keeps.says.time ≡ time = ap (λ (z : Says). z.time) (says_once policy token keeps.says s keeps.sound k) ∙ w in
      let no = keeps.not_early x.token x.says x.among x.sound in
      let there : is_before keeps.says.time x.says.time ≡ true = (λ i. is_before (same i) (x.time_is i)) ∙ y in
      let e = sym there ∙ no in cc

  no_token_rule : (a : Refusal) → TokenKeepsBut (λ says. Stamps says alg root) policy covered token → TokenBreaks policy alg root covered token a → ⊥
  no_token_rule a keeps h = no_stage a keeps (stage a h)

-- ---- the policy

data PolicyStage (policy : Content) (text : List ℕ) (a : Refusal) : Type 0 where
  bad : (line : ℕ) (kind : PolicyKind) → first_fault text ≡ Some (line, kind) → a ≡ BadPolicy line kind → PolicyStage policy text a
  drops : (new : Content) → PolicyText text new → (signer : Signer) → first_dropped policy new ≡ Some signer → a ≡ PolicyDrops signer.name → PolicyStage policy text a

some_is : {A : Type 0} (x y : A) → ◌≡◌ {A = Option A} (Some x) (Some y) → x ≡ y
some_is x y e = cc

not_none : {A : Type 0} (x : A) → ◌≡◌ {A = Option A} None (Some x) → ⊥
not_none x e = cc

module _ (once : (text : List ℕ) (a b : Content) → PolicyText text a → PolicyText text b → a ≡ b)
    (readable : (text : List ℕ) → (first_fault text ≡ None) ↔ ((policy : Content) × PolicyText text policy)) where
  policy_stage : (policy : Content) (text : List ℕ) (a : Refusal) → PolicyBreaks policy text a → PolicyStage policy text a
  policy_stage policy text (Limit full) h = absurd h
  policy_stage policy text (Count count pending) h = absurd h
  policy_stage policy text (NotLive cohort) h = absurd h
  policy_stage policy text (OtherHash cohort) h = absurd h
  policy_stage policy text (ChainFull id) h = absurd h
  policy_stage policy text (Token check) h = absurd h
  policy_stage policy text Imprint h = absurd h
  policy_stage policy text (TokenEarly time latest) h = absurd h
  policy_stage policy text (BadPolicy line kind) h = bad line kind h refl
  policy_stage policy text (PolicyDrops name) h = drops h.0 h.1 h.2.0 h.2.1 (ap PolicyDrops (sym h.2.2))
  policy_stage policy text Memory h = absurd h

  one_policy_stage : (policy : Content) (text : List ℕ) (a b : Refusal) → PolicyStage policy text a → PolicyStage policy text b → a ≡ b
  one_policy_stage policy text a b (bad line kind h p) (bad line2 kind2 k q) =
      let same = some_is (line, kind) (line2, kind2) (sym h ∙ k) in
      p ∙ ap (λ (x : ℕ × PolicyKind). BadPolicy x.0 x.1) same ∙ sym q
  one_policy_stage policy text a b (bad line kind h p) (drops new says signer d q) = absurd (not_none (line, kind) (sym ((readable text).1 (new, says)) ∙ h))
  one_policy_stage policy text a b (drops new says signer d p) (bad line kind h q) = absurd (not_none (line, kind) (sym ((readable text).1 (new, says)) ∙ h))
  one_policy_stage policy text a b (drops new says signer d p) (drops new2 says2 signer2 d2 q) =
      let same : signer ≡ signer2 = some_is signer signer2 (sym d ∙ ap (first_dropped policy) (once text new new2 says says2) ∙ d2) in
      p ∙ ap (λ (s : Signer). PolicyDrops s.name) same ∙ sym q

  -- ---- all rules

  one_later : (k : Kept) (policy : Content) (e : Entry) (leaves : List (List ℕ)) (a b : Refusal) → LaterBreaks k policy e leaves a → LaterBreaks k policy e leaves b → a ≡ b
  one_later k policy (Deposit groups) leaves a b h j = absurd h
  one_later k policy (Seal alg count token) leaves a b h j = one_token_rule policy alg (tree_root alg leaves) [] token a b h j
  one_later k policy (RenewStamps alg cohorts token) leaves a b h j = one_token_rule policy alg (tree_root alg leaves) (tokens_in cohorts k.sealed) token a b h j
  one_later k policy (RenewTrees alg cohorts token) leaves a b h j = one_token_rule policy alg (tree_root alg leaves) (tokens_in cohorts k.sealed) token a b h j
  one_later k policy (SetPolicy text) leaves a b h j = one_policy_stage policy text a b (policy_stage policy text a h) (policy_stage policy text b j)

  pub one_rule : (k : Kept) (policy : Content) (e : Entry) (leaves : List (List ℕ)) (a b : Refusal) → Breaks k policy e leaves a → Breaks k policy e leaves b → a ≡ b
  one_rule k policy e leaves a b (inl h) (inl j) = some_is a b (sym h ∙ j)
  one_rule k policy e leaves a b (inl h) (inr j) = absurd (not_none a (sym j.0 ∙ h))
  one_rule k policy e leaves a b (inr h) (inl j) = absurd (not_none b (sym h.0 ∙ j))
  one_rule k policy e leaves a b (inr h) (inr j) = one_later k policy e leaves a b h.1 j.1

  none_later : (k : Kept) (policy : Content) (e : Entry) (leaves : List (List ℕ)) (a : Refusal) → Keeps k policy e leaves → LaterBreaks k policy e leaves a → ⊥
  none_later k policy (Deposit groups) leaves a keeps h = h
  none_later k policy (Seal alg count token) leaves a keeps h = no_token_rule policy alg (tree_root alg leaves) [] token a keeps.1 h
  none_later k policy (RenewStamps alg cohorts token) leaves a keeps h = no_token_rule policy alg (tree_root alg leaves) (tokens_in cohorts k.sealed) token a keeps.1 h
  none_later k policy (RenewTrees alg cohorts token) leaves a keeps h = no_token_rule policy alg (tree_root alg leaves) (tokens_in cohorts k.sealed) token a keeps.1 h
  none_later k policy (SetPolicy text) leaves a keeps h = no_policy (policy_stage policy text a h) where
    no_policy : PolicyStage policy text a → ⊥
    no_policy (bad line kind f p) = not_none (line, kind) (sym ((readable text).1 (keeps.1.0, keeps.1.1)) ∙ f)
    no_policy (drops new says signer d p) = not_none signer (sym keeps.1.2 ∙ ap (first_dropped policy) (once text keeps.1.0 new keeps.1.1 says) ∙ d)

  pub none_broken : (k : Kept) (policy : Content) (e : Entry) (leaves : List (List ℕ)) (a : Refusal) → Keeps k policy e leaves → Breaks k policy e leaves a → ⊥
  none_broken k policy e leaves a keeps (inl h) = not_none a (sym keeps.0 ∙ h)
  none_broken k policy e leaves a keeps (inr h) = none_later k policy e leaves a keeps h.1
