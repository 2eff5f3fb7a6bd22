-- A history with an entry more: it is legal where the archive took the entry.
use Rattle.std.proofs.Common.{◌≡◌, ℕ, ◌+◌, Bool, true, false, IsTrue, List, [], ◌∷◌, ◌++◌, map, length, refl, sym, ap, subst, ◌∙◌, arith, append_assoc, append-nil}
use Rattle.std.specs.List.{flat_map}
use Rattle.algorithm_policy.specs.Content.{Content}
use Rattle.hash_kit.specs.declared.algorithm.HashAlg.{HashAlg}
use Rattle.token_check.specs.Sound.{Stamp as Says}
use Rattle.entry_codec.specs.declared.entry.Entry.{Entry}
use Rattle.entry_codec.specs.declared.entry.Entry.TheVariants.{Deposit, Seal, RenewStamps, RenewTrees, SetPolicy}
use Rattle.entry_codec.specs.Spelling.{entry_spelling, IsEntry}
use Rattle.archive_chain.specs.Kept.{Kept}
use Rattle.archive_chain.specs.Sequence.{Trees}
use Rattle.archive_chain.specs.Steps.{next}
use Rattle.archive_chain.specs.Rules.{TokenKeepsBut, LaterKeepsBut, Keeps, KeepsButImprint}
use Rattle.archive_chain.specs.History.{State, after, start, state_from, state_of, leaves_of, groups_in, EachAfter, IsLegal, Legal, IsLegalButImprint, LegalButImprint}
use Rattle.archive_chain.specs.Held.{Held, Agrees, StandsFor}
use Rattle.archive_store.specs.Told.{entry_told}
use Rattle.archive_store.proofs.Blank.{shape_told, later_told, spelled_told}

-- ---- an entry more

pub one_more : (P : State → Entry → Type 0) (s : State) (es : List Entry) (e : Entry) → EachAfter P s es → IsEntry e → P (state_from s es) e → EachAfter P s (es ++ e ∷ [])
one_more P s [] e h spelled p = (spelled, p, tt)
one_more P s (f ∷ es) e h spelled p = (h.0, h.1, one_more P (after s f) es e h.2 spelled p)

weaker_token : (P : Says → Type 0) (policy : Content) (covered : List (List ℕ)) (token : List ℕ) → TokenKeepsBut P policy covered token → TokenKeepsBut (λ says. Unit {0}) policy covered token
weaker_token P policy covered token keeps = record { says = keeps.says; sound = keeps.sound; imprint = tt; not_early = keeps.not_early }

weaker : (P : Says → HashAlg → Type 0) (k : Kept) (policy : Content) (e : Entry) → LaterKeepsBut P k policy e → LaterKeepsBut (λ says alg. Unit {0}) k policy e
weaker P k policy (Deposit groups) keeps = keeps
weaker P k policy (Seal alg count token) keeps = weaker_token (λ says. P says alg) policy _ token keeps
weaker P k policy (RenewStamps alg cohorts token) keeps = weaker_token (λ says. P says alg) policy _ token keeps
weaker P k policy (RenewTrees alg cohorts token) keeps = weaker_token (λ says. P says alg) policy _ token keeps
weaker P k policy (SetPolicy text) keeps = keeps

pub legal_more : (h : List Entry) (e : Entry) (held : Held) (leaves : List (List ℕ)) → StandsFor held h → Legal h → IsEntry e → Keeps held.kept held.policy e leaves
    → leaves ≡ leaves_of held.kept held.trees (state_of h).documents e → Legal (h ++ e ∷ [])
legal_more h e held leaves stands legal spelled keeps are =
    let s = state_of h in
    let same : leaves ≡ leaves_of s.kept s.trees s.documents e =
    are ∙ ap (λ (k : Kept). leaves_of k held.trees s.documents e) stands.agrees.kept ∙ ap (λ (t : Trees). leaves_of s.kept t s.documents e) stands.trees in
    let kept : Keeps s.kept held.policy e leaves = subst (λ (k : Kept). Keeps k held.policy e leaves) stands.agrees.kept keeps in
    one_more IsLegal start h e legal spelled (held.policy, stands.agrees.policy, subst (Keeps s.kept held.policy e) same kept)

pub but_imprint_more : (tells : Bool) (h : List Entry) (e : Entry) (held : Held) (leaves : List (List ℕ)) → Agrees held h → LegalButImprint h → IsEntry e
    → Keeps held.kept held.policy e leaves → LegalButImprint (h ++ entry_told tells e ∷ [])
but_imprint_more tells h e held leaves agrees legal spelled keeps =
    let s = state_of h in
    let kept : Keeps s.kept held.policy e leaves = subst (λ (k : Kept). Keeps k held.policy e leaves) agrees.kept keeps in
    let but : KeepsButImprint s.kept held.policy (entry_told tells e) =
    (shape_told tells s.kept e ∙ kept.0, later_told _ tells s.kept held.policy e (weaker _ s.kept held.policy e kept.1)) in
    one_more IsLegalButImprint start h (entry_told tells e) legal (spelled_told tells e spelled) (held.policy, agrees.policy, but)

-- where the disk tells its bytes, an entry is told as it is
pub told_known : (tells : Bool) (e : Entry) → IsTrue tells → entry_told tells e ≡ e
told_known true e known = refl
told_known false e known = absurd (cc known)

pub texts : (es : List Entry) (e : Entry) → map entry_spelling (es ++ e ∷ []) ≡ map entry_spelling es ++ entry_spelling e ∷ []
texts [] e = refl
texts (f ∷ es) e = ap (λ (l : List (List ℕ)). entry_spelling f ∷ l) (texts es e)

pub text_sizes : (es : List Entry) (e : Entry) → map (λ (f : Entry). length (entry_spelling f)) (es ++ e ∷ []) ≡ map (λ (f : Entry). length (entry_spelling f)) es ++ length (entry_spelling e) ∷ []
text_sizes [] e = refl
text_sizes (f ∷ es) e = ap (λ (l : List ℕ). length (entry_spelling f) ∷ l) (text_sizes es e)

-- ---- what follows from a history

next_entries : (k : Kept) (e : Entry) → (next k e).entries ≡ k.entries + 1
next_entries k (Deposit groups) = refl
next_entries k (Seal alg count token) = refl
next_entries k (RenewStamps alg cohorts token) = refl
next_entries k (RenewTrees alg cohorts token) = refl
next_entries k (SetPolicy text) = refl

kept_from : (s : State) (h : List Entry) → (state_from s h).kept.entries ≡ s.kept.entries + length h
kept_from s [] = omega arith
kept_from s (e ∷ h) = omega (arith, kept_from (after s e) h, next_entries s.kept e)

-- an archive has as many entries as its history
pub entries_kept : (h : List Entry) → (state_of h).kept.entries ≡ length h
entries_kept h = omega (arith, kept_from start h)

documents_from : (s : State) (h : List Entry) → (state_from s h).documents ≡ s.documents ++ flat_map groups_in h
documents_from s [] = sym (append-nil s.documents)
documents_from s (e ∷ h) = documents_from (after s e) h ∙ append_assoc s.documents (groups_in e) (flat_map groups_in h)

-- its groups are those of its entries
pub documents_of : (h : List Entry) → (state_of h).documents ≡ flat_map groups_in h
documents_of h = documents_from start h
