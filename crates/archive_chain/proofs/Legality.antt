-- Legal histories, an entry at a time.
use Rattle.std.proofs.Common.{◌≡◌, ℕ, List, [], ◌∷◌, ◌++◌, ap, subst, ◌∙◌}
use Rattle.std.specs.Prelude.{◌↔◌, ⊤}
use Rattle.hash_kit.specs.declared.algorithm.HashAlg.{HashAlg}
use Rattle.algorithm_policy.specs.Content.{Content}
use Rattle.token_check.specs.Sound.{Stamp as Says}
use Rattle.entry_codec.specs.declared.entry.Entry.{Entry}
use Rattle.entry_codec.specs.declared.entry.Entry.TheVariants.{Deposit, Seal, RenewStamps, RenewTrees, SetPolicy}
use Rattle.entry_codec.specs.Spelling.{IsEntry}
use Rattle.archive_chain.specs.Kept.{Kept}
use Rattle.archive_chain.specs.Sequence.{Trees}
use Rattle.archive_chain.specs.Rules.{TokenKeepsBut, LaterKeepsBut, Keeps}
use Rattle.archive_chain.specs.History.{State, after, start, state_from, state_of, leaves_of, EachAfter, IsLegal, Legal, IsLegalButImprint, LegalButImprint}
use Rattle.archive_chain.specs.Held.{Held, Agrees, StandsFor}

-- ---- an entry more

more : (P : State → Entry → Type 0) (s : State) (es : List Entry) (e : Entry) → EachAfter P s es → IsEntry e → P (state_from s es) e → EachAfter P s (es ++ e ∷ [])
more P s [] e h spelled p = (spelled, p, tt)
more P s (f ∷ es) e h spelled p = (h.0, h.1, more P (after s f) es e h.2 spelled p)

less : (P : State → Entry → Type 0) (s : State) (es : List Entry) (e : Entry) → EachAfter P s (es ++ e ∷ []) → EachAfter P s es × IsEntry e × P (state_from s es) e
less P s [] e h = (tt, h.0, h.1)
less P s (f ∷ es) e h = let rest = less P (after s f) es e h.2 in ((h.0, h.1, rest.0), rest.1, rest.2)

-- it is legal exactly where the history before the entry is, and the entry is legal after it
pub goes_on : (history : List Entry) (e : Entry) → Legal (history ++ e ∷ []) ↔ (Legal history × IsEntry e × IsLegal (state_of history) e)
goes_on history e = (less IsLegal start history e, λ h. more IsLegal start history e h.0 h.1 h.2)

pub goes_on_but : (history : List Entry) (e : Entry) → LegalButImprint (history ++ e ∷ []) ↔ (LegalButImprint history × IsEntry e × IsLegalButImprint (state_of history) e)
goes_on_but history e = (less IsLegalButImprint start history e, λ h. more IsLegalButImprint start history e h.0 h.1 h.2)

-- ---- where the imprints aren't asked

weaker_token : (P : Says → Type 0) (policy : Content) (covered : List (List ℕ)) (token : List ℕ) → TokenKeepsBut P policy covered token → TokenKeepsBut (λ says. ⊤) policy covered token
weaker_token P policy covered token keeps = record { says = keeps.says; sound = keeps.sound; imprint = tt; not_early = keeps.not_early }

weaker : (P : Says → HashAlg → Type 0) (k : Kept) (policy : Content) (e : Entry) → LaterKeepsBut P k policy e → LaterKeepsBut (λ says alg. ⊤) k policy e
weaker P k policy (Deposit groups) keeps = keeps
weaker P k policy (Seal alg count token) keeps = weaker_token (λ says. P says alg) policy _ token keeps
weaker P k policy (RenewStamps alg cohorts token) keeps = weaker_token (λ says. P says alg) policy _ token keeps
weaker P k policy (RenewTrees alg cohorts token) keeps = weaker_token (λ says. P says alg) policy _ token keeps
weaker P k policy (SetPolicy text) keeps = keeps

each_weaker : (P Q : State → Entry → Type 0) → ((s : State) (e : Entry) → P s e → Q s e) → (s : State) (es : List Entry) → EachAfter P s es → EachAfter Q s es
each_weaker P Q f s [] h = tt
each_weaker P Q f s (e ∷ es) h = (h.0, f s e h.1, each_weaker P Q f (after s e) es h.2)

pub but_imprint : (history : List Entry) → Legal history → LegalButImprint history
but_imprint history legal = each_weaker IsLegal IsLegalButImprint (λ s e is. (is.0, is.1, (is.2.0, weaker _ s.kept is.0 e is.2.1))) start history legal

-- ---- what an archive takes

pub taken_legal : (held : Held) (history : List Entry) (e : Entry) (leaves : List (List ℕ)) → StandsFor held history → leaves ≡ leaves_of held.kept held.trees (state_of history).documents e
    → Keeps held.kept held.policy e leaves → IsLegal (state_of history) e
taken_legal held history e leaves stands are keeps =
    let s = state_of history in
    let same : leaves ≡ leaves_of s.kept s.trees s.documents e =
    are ∙ ap (λ (k : Kept). leaves_of k held.trees s.documents e) stands.agrees.kept ∙ ap (λ (t : Trees). leaves_of s.kept t s.documents e) stands.trees in
    let kept : Keeps s.kept held.policy e leaves = subst (λ (k : Kept). Keeps k held.policy e leaves) stands.agrees.kept keeps in
    (held.policy, stands.agrees.policy, subst (Keeps s.kept held.policy e) same kept)

pub taken_but_imprint : (held : Held) (history : List Entry) (e : Entry) (leaves : List (List ℕ)) → Agrees held history → Keeps held.kept held.policy e leaves → IsLegalButImprint (state_of history) e
taken_but_imprint held history e leaves agrees keeps =
    let s = state_of history in
    let kept : Keeps s.kept held.policy e leaves = subst (λ (k : Kept). Keeps k held.policy e leaves) agrees.kept keeps in
    (held.policy, agrees.policy, (kept.0, weaker _ s.kept held.policy e kept.1))
