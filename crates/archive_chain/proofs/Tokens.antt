-- What the rules of a token come to.
use Rattle.std.proofs.Common.{◌≡◌, inl, inr, ℕ, Bool, false, List, [], Option, Some, None, Result, Ok, Err, refl, sym, ap, subst, ◌∙◌, arith}
use Rattle.std.specs.Prelude.{Contains, IsErrAnd, IfErr, if◌then◌else◌}
use Rattle.civil_moment.specs.declared.moment.Moment.{Moment}
use Rattle.civil_moment.specs.Moment.{is_before}
use Rattle.hash_kit.specs.declared.algorithm.HashAlg.{HashAlg}
use Rattle.algorithm_policy.specs.Content.{Content, first_dropped}
use Rattle.algorithm_policy.specs.Text.{PolicyText}
use Rattle.algorithm_policy.specs.declared.signer.Signer.{Signer}
use Rattle.token_check.specs.Sound.{Stamp as Says, Sound}
use Rattle.archive_chain.specs.declared.refusal.Refusal.{Refusal}
use Rattle.archive_chain.specs.declared.refusal.Refusal.TheVariants.{Limit, Count, NotLive, OtherHash, ChainFull, Token, Imprint, TokenEarly, BadPolicy, PolicyDrops, Memory}
use Rattle.archive_chain.specs.Rules.{Stamps, TokenBreaks, PolicyBreaks}
use Rattle.archive_chain.specs.InsideToken.{Refuses, TokenKeepsAs, IsCheckRefusal, IsLatestOf, early_by}
use Rattle.archive_chain.proofs.RowsRenewing.{by_test}
use Rattle.archive_chain.proofs.Indexing.{none_some, some_is}
use Rattle.archive_chain.proofs.Moments.{not_before}

module _ (policy : Content) (alg : HashAlg) (root : List ℕ) (covered : List (List ℕ)) (token : List ℕ) where
  check_breaks : (refusal : Refusal) → IsCheckRefusal policy token refusal → TokenBreaks policy alg root covered token refusal
  check_breaks (Token check) h = h
  check_breaks (Limit full) h = absurd h
  check_breaks (Count count pending) h = absurd h
  check_breaks (NotLive cohort) h = absurd h
  check_breaks (OtherHash cohort) h = absurd h
  check_breaks (ChainFull id) h = absurd h
  check_breaks Imprint h = absurd h
  check_breaks (TokenEarly time latest) h = absurd h
  check_breaks (BadPolicy line kind) h = absurd h
  check_breaks (PolicyDrops name) h = absurd h
  check_breaks Memory h = absurd h

  pub unsound : (refusal : Refusal) → Refuses (IsCheckRefusal policy token) refusal → Refuses (TokenBreaks policy alg root covered token) refusal
  unsound refusal (inl h) = inl h
  unsound refusal (inr h) = inr (check_breaks refusal h)

  pub early_breaks : (says : Says) (o : Option Moment) (refusal : Refusal) → Sound policy token says → Stamps says alg root → IsLatestOf policy covered o → early_by says.time o ≡ Some refusal
      → TokenBreaks policy alg root covered token refusal
  early_breaks says None refusal sound stamps latest e = absurd (none_some refusal e)
  early_breaks says (Some time) refusal sound stamps latest e =
      by_test (is_before says.time time)
      (λ t.
      let same : TokenEarly says.time time ≡ refusal = some_is (TokenEarly says.time time) refusal (sym (ap (λ (b : Bool). if b then Some (TokenEarly says.time time) else None) t) ∙ e) in
      subst (TokenBreaks policy alg root covered token) same (says, sound, stamps, refl, latest, t))
      (λ f. absurd (none_some refusal (sym (ap (λ (b : Bool). if b then Some (TokenEarly says.time time) else None) f) ∙ e)))

  pub keeps_as : (says : Says) (o : Option Moment) → Sound policy token says → Stamps says alg root → IsLatestOf policy covered o → early_by says.time o ≡ None
      → TokenKeepsAs policy alg root covered token says
  keeps_as says None sound stamps latest e = record {
    sound = sound;
    imprint = stamps;
    not_early = λ other other_says within other_sound. absurd (let none : Contains [] other = subst (λ (l : List (List ℕ)). Contains l other) latest within in let less = none.1 in omega (arith, less));
  }
  keeps_as says (Some time) sound stamps latest e = record {
    sound = sound;
    imprint = stamps;
    not_early = λ other other_says within other_sound. not_before says.time time other_says.time not_early (latest.none_later other other_says within other_sound);
  } where
    not_early : is_before says.time time ≡ false
    not_early =
        by_test (is_before says.time time)
        (λ t. absurd (none_some (TokenEarly says.time time) (sym e ∙ ap (λ (b : Bool). if b then Some (TokenEarly says.time time) else None) t)))
        (λ f. f)

-- ---- a policy

pub drops : (old new : Content) (text : List ℕ) (signer : Signer) (refusal : Refusal) → PolicyText text new → first_dropped old new ≡ Some signer → Refuses (λ (r : Refusal). r ≡ PolicyDrops signer.name) refusal
    → Refuses (PolicyBreaks old text) refusal
drops old new text signer refusal says dropped (inl h) = inl h
drops old new text signer refusal says dropped (inr h) = inr (subst (PolicyBreaks old text) (sym h) (new, says, (signer, dropped, refl)))

-- ---- a refusal that is handed on

pub handed_on : {X : Type 0} (P : Refusal → Type 0) (r : Result X Refusal) (refusal : Refusal) → IsErrAnd r (λ other. other ≡ refusal) → P refusal → IfErr r P
handed_on P (Ok x) refusal is h = absurd is
handed_on P (Err other) refusal is h = subst P (sym is) h
