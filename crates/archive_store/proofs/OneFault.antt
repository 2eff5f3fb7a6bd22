-- Bytes read one history, or are refused for one fault.
use Rattle.std.proofs.Common.{◌≡◌, ◌⊎◌, inl, inr, ⊎_elim, ℕ, zero, suc, ◌<◌, ◌≤◌, List, [], ◌∷◌, map, take, slice_get, nat_lt, Option, Some, None, refl, sym, ap, subst, ◌∙◌, arith}
use Rattle.std.proofs.lemmas.Bool.{cases_Bool, ltb-true, ltb-false}
use Rattle.gate_journal.specs.Journal.{Reads}
use Rattle.gate_journal.specs.Damage.{Damages, IsOutside as IsJournalOutside}
use Rattle.gate_journal.specs.declared.fault.JournalFault.{JournalFault}
use Rattle.gate_journal.specs.declared.fault.JournalFault.TheVariants as journal
use Rattle.algorithm_policy.specs.Content.{Content}
use Rattle.algorithm_policy.specs.Text.{PolicyText}
use Rattle.entry_codec.specs.declared.entry.Entry.{Entry}
use Rattle.entry_codec.specs.Spelling.{entry_spelling, IsEntry}
use Rattle.entry_codec.specs.Fault.{entry_first_fault, Spells}
use Rattle.archive_chain.specs.declared.refusal.Refusal.{Refusal}
use Rattle.archive_chain.specs.Kept.{Kept}
use Rattle.archive_chain.specs.Rules.{Keeps, Breaks}
use Rattle.archive_chain.specs.History.{State, after, start, state_from, state_of, leaves_of, InForce, EachAfter, IsLegal, Legal}
use Rattle.archive_store.specs.declared.fault.StoreFault.{StoreFault}
use Rattle.archive_store.specs.declared.fault.StoreFault.TheVariants as fault
use Rattle.archive_store.specs.Images.{ReadsHistory}
use Rattle.archive_store.specs.InsideFaults.{journal_fault}
use Rattle.archive_store.specs.Opening.{BehindHistory, IsBadAt, BreaksAfter, IsAgainst, Unopens, IsOutside}

-- the laws of the crates below
abbrev pub OneList : Type 0
OneList = (b : List ℕ) (h k : List (List ℕ)) → Reads b h → Reads b k → h ≡ k

abbrev pub OneEntry : Type 0
OneEntry = (bytes : List ℕ) (e f : Entry) → IsEntry e → bytes ≡ entry_spelling e → IsEntry f → bytes ≡ entry_spelling f → e ≡ f

abbrev pub NoFault : Type 0
NoFault = (bytes : List ℕ) → (Spells bytes → entry_first_fault bytes ≡ None)

abbrev pub OnePolicy : Type 0
OnePolicy = (text : List ℕ) (a b : Content) → PolicyText text a → PolicyText text b → a ≡ b

abbrev pub BreaksNone : Type 0
BreaksNone = (k : Kept) (policy : Content) (e : Entry) (leaves : List (List ℕ)) (refusal : Refusal) → Keeps k policy e leaves → Breaks k policy e leaves refusal → ⊥

abbrev pub BreaksOne : Type 0
BreaksOne = (k : Kept) (policy : Content) (e : Entry) (leaves : List (List ℕ)) (a b : Refusal) → Breaks k policy e leaves a → Breaks k policy e leaves b → a ≡ b

-- ---- one history

same_entries : OneEntry → (s t : State) (h k : List Entry) → EachAfter IsLegal s h → EachAfter IsLegal t k → map entry_spelling h ≡ map entry_spelling k → h ≡ k
same_entries one s t [] [] lh lk same = refl
same_entries one s t [] (f ∷ k) lh lk same = absurd (cc same)
same_entries one s t (e ∷ h) [] lh lk same = absurd (cc same)
same_entries one s t (e ∷ h) (f ∷ k) lh lk same =
    let first : entry_spelling e ≡ entry_spelling f = cc same in
    let rest : map entry_spelling h ≡ map entry_spelling k = cc same in
    ap (λ (g : Entry). g ∷ h) (one (entry_spelling e) e f lh.0 refl lk.0 first)
    ∙ ap (λ (l : List Entry). f ∷ l) (same_entries one (after s e) (after t f) h k lh.2 lk.2 rest)

pub one_history : OneList → OneEntry → (b : List ℕ) (h k : List Entry) → ReadsHistory b h → ReadsHistory b k → h ≡ k
one_history lists one b h k rh rk = same_entries one start start h k rh.legal rk.legal (lists b _ _ rh.reads rk.reads)

-- ---- an entry of a legal history

legal_at : (s : State) (h : List Entry) (n : ℕ) (e : Entry) → EachAfter IsLegal s h → slice_get h n ≡ Some e → IsEntry e × IsLegal (state_from s (take n h)) e
legal_at s [] n e legal is = absurd (cc is)
legal_at s (f ∷ h) zero e legal is =
    let same : f ≡ e = cc is in
    subst (λ (g : Entry). IsEntry g × IsLegal s g) same (legal.0, legal.1)
legal_at s (f ∷ h) (suc n) e legal is = legal_at (after s f) h n e legal.2 is

legal_front : (s : State) (h : List Entry) (n : ℕ) → EachAfter IsLegal s h → EachAfter IsLegal s (take n h)
legal_front s [] zero legal = tt
legal_front s [] (suc n) legal = tt
legal_front s (e ∷ h) zero legal = tt
legal_front s (e ∷ h) (suc n) legal = (legal.0, legal.1, legal_front (after s e) h n legal.2)

spelled_at : (h : List Entry) (n : ℕ) (payload : List ℕ) → slice_get (map entry_spelling h) n ≡ Some payload → (e : Entry) × (slice_get h n ≡ Some e) × (payload ≡ entry_spelling e)
spelled_at [] n payload is = absurd (cc is)
spelled_at (e ∷ h) zero payload is = (e, refl, (let same : entry_spelling e ≡ payload = cc is in sym same))
spelled_at (e ∷ h) (suc n) payload is = spelled_at h n payload is

map_take : (h : List Entry) (n : ℕ) → map entry_spelling (take n h) ≡ take n (map entry_spelling h)
map_take [] zero = refl
map_take [] (suc n) = refl
map_take (e ∷ h) zero = refl
map_take (e ∷ h) (suc n) = ap (λ (l : List (List ℕ)). entry_spelling e ∷ l) (map_take h n)

take_front : {A : Type 0} (n m : ℕ) (xs : List A) → n ≤ m → take n (take m xs) ≡ take n xs
take_front zero m xs le = refl
take_front (suc n) zero xs le = absurd (omega (arith, le))
take_front (suc n) (suc m) [] le = refl
take_front (suc n) (suc m) (x ∷ xs) le = ap (λ l. x ∷ l) (take_front n m xs (omega (arith, le)))

get_front : {A : Type 0} (n m : ℕ) (xs : List A) → n < m → slice_get (take m xs) n ≡ slice_get xs n
get_front n zero xs lt = absurd (omega (arith, lt))
get_front zero (suc m) [] lt = refl
get_front (suc n) (suc m) [] lt = refl
get_front zero (suc m) (x ∷ xs) lt = refl
get_front (suc n) (suc m) (x ∷ xs) lt = get_front n m xs (omega (arith, lt))

-- ---- what spoils a payload

-- the policy in force is one
same_policy : OnePolicy → (text : Option (List ℕ)) (a b : Content) → InForce text a → InForce text b → a ≡ b
same_policy one None a b fa fb = fa ∙ sym fb
same_policy one (Some text) a b fa fb = one text a b fa fb

-- the fault of a payload behind a legal history
data Spoilt : ℕ → StoreFault → List Entry → List ℕ → Type 0 where
  bad : {h : List Entry} {payload : List ℕ} (n place : ℕ) → IsBadAt place h payload → Spoilt n (fault.BadEntry n place) h payload
  against : {h : List Entry} {payload : List ℕ} (n : ℕ) (refusal : Refusal) → IsAgainst refusal h payload → Spoilt n (fault.Illegal n refusal) h payload

-- it stands somewhere in the payloads
record IsSpoilt (payloads : List (List ℕ)) (e : StoreFault) : Type 0 where
  number : ℕ
  behind : BehindHistory payloads number (Spoilt number e)

-- ---- the kinds of refusals

data Kind (b : List ℕ) (e : StoreFault) : Type 0 where
  outside : IsOutside e → Kind b e
  damaged : (j : JournalFault) → (IsJournalOutside j → ⊥) → Damages b j → e ≡ journal_fault j → Kind b e
  spoilt : (payloads : List (List ℕ)) → Reads b payloads → IsSpoilt payloads e → Kind b e

named : (P Q : List Entry → List ℕ → Type 0) (payloads : List (List ℕ)) (n : ℕ) → ((h : List Entry) (p : List ℕ) → P h p → Q h p) → BehindHistory payloads n P → BehindHistory payloads n Q
named P Q payloads n then behind = record {
  history = behind.history;
  payload = behind.payload;
  legal = behind.legal;
  count = behind.count;
  before = behind.before;
  next = behind.next;
  there = then behind.history behind.payload behind.there;
}

kind_of : (b : List ℕ) (e : StoreFault) → Unopens b e → Kind b e
kind_of b fault.DiskFault u = outside (inl refl)
kind_of b fault.Memory u = outside (inr refl)
kind_of b fault.NotFormatted u = damaged journal.NotFormatted (λ out. ⊎_elim (λ e. absurd (cc e)) (λ e. absurd (cc e)) out) u refl
kind_of b (fault.BadLength n size) u = damaged (journal.BadLength n size) (λ out. ⊎_elim (λ e. absurd (cc e)) (λ e. absurd (cc e)) out) u refl
kind_of b (fault.Damaged n kept found) u = damaged (journal.Damaged n kept found) (λ out. ⊎_elim (λ e. absurd (cc e)) (λ e. absurd (cc e)) out) u refl
kind_of b (fault.BadEntry n place) u =
    spoilt u.0 u.1 (record { number = n; behind = named (IsBadAt place) (Spoilt n (fault.BadEntry n place)) u.0 n (λ h p is. bad n place is) u.2 })
kind_of b (fault.Illegal n refusal) u =
    spoilt u.0 u.1 (record { number = n; behind = named (IsAgainst refusal) (Spoilt n (fault.Illegal n refusal)) u.0 n (λ h p is. against n refusal is) u.2 })
kind_of b fault.Occupied u = absurd u
kind_of b (fault.Refused refusal) u = absurd u
kind_of b (fault.Closed place) u = absurd u
kind_of b (fault.Unknown id groups) u = absurd u

-- none does what a legal history goes on with
module _ (one : OneEntry) (none : NoFault) (policies : OnePolicy) (keeps_none : BreaksNone) where
  not_spoilt : (k : List Entry) (n : ℕ) (payload : List ℕ) (e : StoreFault) (h : List Entry) → Legal k → slice_get (map entry_spelling k) n ≡ Some payload
      → Legal h → map entry_spelling h ≡ take n (map entry_spelling k) → Spoilt n e h payload → ⊥
  not_spoilt k n payload e h legal next front before (bad m place is) =
      let there = spelled_at k n payload next in
      let at = legal_at start k n there.0 legal there.1 in
      let no : entry_first_fault payload ≡ None = none payload (record { entry = there.0; valid = at.0; is = there.2 }) in
      let both : None ≡ Some place = sym no ∙ is in
      absurd (cc both)
  not_spoilt k n payload e h legal next front before (against m refusal is) =
      let there = spelled_at k n payload next in
      let at = legal_at start k n there.0 legal there.1 in
      let same : h ≡ take n k = same_entries one start start h (take n k) front (legal_front start k n legal) (before ∙ sym (map_take k n)) in
      let entry : is.entry ≡ there.0 = one payload is.entry there.0 is.spelled is.is at.0 there.2 in
      let s : State = state_of (take n k) in
      let breaks : BreaksAfter s there.0 refusal =
      subst (λ (g : Entry). BreaksAfter s g refusal) entry (subst (λ (l : List Entry). BreaksAfter (state_of l) is.entry refusal) same is.breaks) in
      let policy : at.1.0 ≡ breaks.0 = same_policy policies s.text at.1.0 breaks.0 at.1.1 breaks.1 in
      keeps_none s.kept breaks.0 there.0 (leaves_of s.kept s.trees s.documents there.0) refusal
      (subst (λ (p : Content). Keeps s.kept p there.0 (leaves_of s.kept s.trees s.documents there.0)) policy at.1.2) breaks.2

  read_not_spoilt : (payloads : List (List ℕ)) (e : StoreFault) (h : List Entry) → Legal h → payloads ≡ map entry_spelling h → IsSpoilt payloads e → ⊥
  read_not_spoilt payloads e h legal are found =
      let b = found.behind in
      let n : ℕ = found.number in
      not_spoilt h n b.payload e b.history legal (ap (λ (l : List (List ℕ)). slice_get l n) (sym are) ∙ b.next) b.legal
      (sym b.before ∙ ap (take n) are) b.there

  -- ---- two faults of one payload

  module _ (breaks_one : BreaksOne) where
    same_refusal : (h : List Entry) (payload : List ℕ) (a b : Refusal) → IsAgainst a h payload → IsAgainst b h payload → a ≡ b
    same_refusal h payload a b is other =
        let s : State = state_of h in
        let entry : other.entry ≡ is.entry = one payload other.entry is.entry other.spelled other.is is.spelled is.is in
        let leaves : List (List ℕ) = leaves_of s.kept s.trees s.documents is.entry in
        let breaks : BreaksAfter s is.entry b = subst (λ (e : Entry). BreaksAfter s e b) entry other.breaks in
        let policy : breaks.0 ≡ is.breaks.0 = same_policy policies s.text breaks.0 is.breaks.0 breaks.1 is.breaks.1 in
        breaks_one s.kept is.breaks.0 is.entry leaves a b is.breaks.2 (subst (λ (p : Content). Breaks s.kept p is.entry leaves b) policy breaks.2)

    spells_none : (h : List Entry) (payload : List ℕ) (place : ℕ) (refusal : Refusal) → IsBadAt place h payload → IsAgainst refusal h payload → ⊥
    spells_none h payload place refusal is other =
        let no : entry_first_fault payload ≡ None = none payload (record { entry = other.entry; valid = other.spelled; is = other.is }) in
        let both : None ≡ Some place = sym no ∙ is in
        absurd (cc both)

    same_fault : (n : ℕ) (e f : StoreFault) (h : List Entry) (payload : List ℕ) → Spoilt n e h payload → Spoilt n f h payload → e ≡ f
    same_fault n e f h payload (bad m p is) (bad k q other) =
        let both : Some p ≡ Some q = sym is ∙ other in
        let same : p ≡ q = cc both in
        ap (fault.BadEntry n) same
    same_fault n e f h payload (bad m p is) (against k b other) = absurd (spells_none h payload p b is other)
    same_fault n e f h payload (against m a is) (bad k q other) = absurd (spells_none h payload q a other is)
    same_fault n e f h payload (against m a is) (against k b other) = ap (fault.Illegal n) (same_refusal h payload a b is other)

    module _ (payloads : List (List ℕ)) (e f : StoreFault) (n m : ℕ) (one_is : BehindHistory payloads n (Spoilt n e)) (two_is : BehindHistory payloads m (Spoilt m f)) where
      not_before : n < m → ⊥
      not_before lt = not_spoilt two_is.history n one_is.payload e one_is.history two_is.legal
          (ap (λ (l : List (List ℕ)). slice_get l n) (sym two_is.before) ∙ get_front n m payloads lt ∙ one_is.next) one_is.legal
          (sym one_is.before ∙ sym (take_front n m payloads (omega (arith, lt))) ∙ ap (take n) two_is.before) one_is.there

      same_place : n ≡ m → e ≡ f
      same_place same =
          let fronts : map entry_spelling two_is.history ≡ map entry_spelling one_is.history = sym two_is.before ∙ ap (λ (k : ℕ). take k payloads) (sym same) ∙ one_is.before in
          let histories : two_is.history ≡ one_is.history = same_entries one start start two_is.history one_is.history two_is.legal one_is.legal fronts in
          let nexts : Some two_is.payload ≡ Some one_is.payload = sym two_is.next ∙ ap (slice_get payloads) (sym same) ∙ one_is.next in
          let payload : two_is.payload ≡ one_is.payload = cc nexts in
          same_fault n e f one_is.history one_is.payload one_is.there
          (subst (λ (k : ℕ). Spoilt k f one_is.history one_is.payload) (sym same)
          (subst (λ (p : List ℕ). Spoilt m f one_is.history p) payload (subst (λ (h : List Entry). Spoilt m f h two_is.payload) histories two_is.there)))

    same_spoilt : (payloads : List (List ℕ)) (e f : StoreFault) → IsSpoilt payloads e → IsSpoilt payloads f → e ≡ f
    same_spoilt payloads e f a b =
        ⊎_elim (λ lt. absurd (not_before payloads e f a.number b.number a.behind b.behind (ltb-true a.number b.number lt)))
        (λ ge. ⊎_elim (λ gt. absurd (not_before payloads f e b.number a.number b.behind a.behind (ltb-true b.number a.number gt)))
        (λ le. same_place payloads e f a.number b.number a.behind b.behind (let not : b.number ≤ a.number = ltb-false a.number b.number ge in let other : a.number ≤ b.number = ltb-false b.number a.number le in omega (arith, not, other)))
        (cases_Bool (nat_lt b.number a.number)))
        (cases_Bool (nat_lt a.number b.number))

-- ---- refusals of bytes

pub one_refusal : OneList → OneEntry → NoFault → OnePolicy → BreaksNone → BreaksOne
    → ((b : List ℕ) (h : List (List ℕ)) (j : JournalFault) → Reads b h → Damages b j → IsJournalOutside j)
    → ((b : List ℕ) (j k : JournalFault) → Damages b j → Damages b k → IsJournalOutside j ⊎ (IsJournalOutside k ⊎ (j ≡ k)))
    → (b : List ℕ) (e f : StoreFault) → Unopens b e → Unopens b f → IsOutside e ⊎ (IsOutside f ⊎ (e ≡ f))
one_refusal lists one none policies keeps_none breaks_one undamaged one_damage b e f ue uf = two (kind_of b e ue) (kind_of b f uf) where
  two : Kind b e → Kind b f → IsOutside e ⊎ (IsOutside f ⊎ (e ≡ f))
  two (outside o) k = inl o
  two (damaged j nj dj ej) (outside o) = inr (inl o)
  two (spoilt ps r s) (outside o) = inr (inl o)
  two (damaged j nj dj ej) (damaged k nk dk ek) =
      ⊎_elim (λ o. absurd (nj o)) (λ l. ⊎_elim (λ o. absurd (nk o)) (λ same. inr (inr (ej ∙ ap journal_fault same ∙ sym ek))) l) (one_damage b j k dj dk)
  two (damaged j nj dj ej) (spoilt ps r s) = absurd (nj (undamaged b ps j r dj))
  two (spoilt ps r s) (damaged j nj dj ej) = absurd (nj (undamaged b ps j r dj))
  two (spoilt ps r s) (spoilt qs q t) =
      inr (inr (same_spoilt one none policies keeps_none breaks_one ps e f s (subst (λ (l : List (List ℕ)). IsSpoilt l f) (lists b qs ps q r) t)))

pub no_refusal : OneList → OneEntry → NoFault → OnePolicy → BreaksNone
    → ((b : List ℕ) (h : List (List ℕ)) (j : JournalFault) → Reads b h → Damages b j → IsJournalOutside j)
    → (b : List ℕ) (h : List Entry) (e : StoreFault) → ReadsHistory b h → Unopens b e → IsOutside e
no_refusal lists one none policies keeps_none undamaged b h e reads ue = kinds (kind_of b e ue) where
  kinds : Kind b e → IsOutside e
  kinds (outside o) = o
  kinds (damaged j nj dj ej) = absurd (nj (undamaged b (map entry_spelling h) j reads.reads dj))
  kinds (spoilt ps r s) = absurd (read_not_spoilt one none policies keeps_none ps e h reads.legal (lists b ps (map entry_spelling h) r reads.reads) s)
