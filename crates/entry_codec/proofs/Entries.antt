-- Entries: what their form leads to, that it accepts what is spelled, and the laws of the first fault.
use Rattle.std.proofs.Common.{◌≡◌, ℕ, zero, suc, ◌+◌, ◌<◌, ◌≤◌, List, [], ◌∷◌, ◌++◌, length, take, drop, ◌↔◌, inl, inr, Option, Some, None, refl, sym, ap, subst, ◌∙◌, arith, append_assoc}
use Rattle.std.specs.List.{flat_map}
use Rattle.std.proofs.lemmas.List.{append-nil, take-append-drop, take-take}
use Rattle.std.proofs.lemmas.Bool.{leb-true, and_parts, cases_order}
use Rattle.hash_kit.specs.declared.algorithm.HashAlg.{HashAlg}
use Rattle.entry_codec.specs.declared.entry.Entry.{Entry}
use Rattle.entry_codec.specs.declared.entry.Entry.TheVariants.{Deposit, Seal, RenewStamps, RenewTrees, SetPolicy}
use Rattle.entry_codec.specs.Form.{reads, fault_of}
use Rattle.entry_codec.specs.Fault.{ranged, hash_form, counted_form, token_form, groups_form, cohorts_form, deposit_form, seal_form, renewal_form, policy_form, kind_form, entry_form, entry_first_fault, Spells, Begins, StopsAt}
use Rattle.entry_codec.specs.Spelling.{number, counted, hash_byte, group_spelling, AreCohorts, IsDeposit, entry_spelling, IsEntry}
use Rattle.entry_codec.proofs.Forms.{Accepts, accepted, accepts_followed, accepts_made, one_value, Leads, leads_followed, leads_made, leads_weakly, led, Ends, stops, no_fault}
use Rattle.entry_codec.proofs.Numbers.{IsRanged, leads_ranged, accepts_ranged}
use Rattle.entry_codec.proofs.Parts.{IsHash, leads_hash, accepts_hash, AreCounted, leads_counted, accepts_counted, AreGroups, leads_groups, accepts_groups, AreTakenCohorts, leads_cohorts, accepts_cohorts}

-- these bytes were taken behind the kind
pub record IsTaken (kind : ℕ) (taken : List ℕ) (e : Entry) : Type 0 where
  pub taken_is : kind ∷ taken ≡ entry_spelling e
  pub entry : IsEntry e

-- ---- each kind

pub leads_deposit : Leads deposit_form (IsTaken 1)
unfolding deposit_form
leads_deposit =
    leads_followed (ranged 1 64) _ (IsRanged 1 64) (IsTaken 1) (leads_ranged 1 64 (omega arith) (omega arith)) (λ xs n h.
    leads_made (groups_form n 8388608) (λ gs. Deposit gs) (AreGroups n 8388608) (λ ys e. IsTaken 1 (xs ++ ys) e) (leads_groups n 8388608) (λ ys gs are. all xs n ys gs h are))
  where
    all : (xs : List ℕ) (n : ℕ) (ys : List ℕ) (gs : List (List (List ℕ))) → IsRanged 1 64 xs n → AreGroups n 8388608 ys gs → IsTaken 1 (xs ++ ys) (Deposit gs)
    all xs n ys gs h are =
        let count = are.count in
        let above = h.above in
        let below = h.below in
        record { taken_is = rw (h.taken_is, are.taken_is, count) refl; entry = record { some = omega arith; few = omega arith; each = are.each; together = are.together } }

leads_seal : Leads seal_form (IsTaken 2)
unfolding seal_form
leads_seal =
    leads_followed hash_form _ IsHash (IsTaken 2) leads_hash (λ xs hash h.
    leads_followed (ranged 0 4294967295) _ (IsRanged 0 4294967295) (λ ys e. IsTaken 2 (xs ++ ys) e) (leads_ranged 0 4294967295 (omega arith) (omega arith)) (λ ys count c.
    leads_made token_form (λ token. Seal hash count token) (AreCounted 65536) (λ zs e. IsTaken 2 (xs ++ (ys ++ zs)) e) (leads_counted 65536 (omega arith)) (λ zs token t. all xs hash ys count zs token h c t)))
  where
    all : (xs : List ℕ) (hash : HashAlg) (ys : List ℕ) (count : ℕ) (zs token : List ℕ) → IsHash xs hash → IsRanged 0 4294967295 ys count → AreCounted 65536 zs token → IsTaken 2 (xs ++ (ys ++ zs)) (Seal hash count token)
    all xs hash ys count zs token h c t =
        let below = c.below in
        record { taken_is = rw (h, c.taken_is, t.taken_is) refl; entry = (omega arith, t.fit) }

-- what is taken of a renewal behind its kind
record IsRenewal (taken : List ℕ) (hash : HashAlg) (cohorts token : List ℕ) : Type 0 where
  taken_is : taken ≡ hash_byte hash ∷ (number (length cohorts) ++ flat_map number cohorts ++ counted token)
  cohorts_are : AreCohorts cohorts
  fit : length token ≤ 65536

leads_renewal : (renewal : HashAlg → List ℕ → List ℕ → Entry) (kind : ℕ) → ((taken : List ℕ) (hash : HashAlg) (cohorts token : List ℕ) → IsRenewal taken hash cohorts token → IsTaken kind taken (renewal hash cohorts token)) → Leads (renewal_form renewal) (IsTaken kind)
unfolding renewal_form
leads_renewal renewal kind made =
    leads_followed hash_form _ IsHash (IsTaken kind) leads_hash (λ xs hash h.
    leads_followed cohorts_form _ AreTakenCohorts (λ ys e. IsTaken kind (xs ++ ys) e) leads_cohorts (λ ys cohorts c.
    leads_made token_form (λ token. renewal hash cohorts token) (AreCounted 65536) (λ zs e. IsTaken kind (xs ++ (ys ++ zs)) e) (leads_counted 65536 (omega arith)) (λ zs token t.
    made (xs ++ (ys ++ zs)) hash cohorts token (all xs hash ys cohorts zs token h c t))))
  where
    all : (xs : List ℕ) (hash : HashAlg) (ys cohorts zs token : List ℕ) → IsHash xs hash → AreTakenCohorts ys cohorts → AreCounted 65536 zs token → IsRenewal (xs ++ (ys ++ zs)) hash cohorts token
    all xs hash ys cohorts zs token h c t = record { taken_is = rw (h, c.taken_is, t.taken_is) refl; cohorts_are = c.cohorts; fit = t.fit }

leads_policy : Leads policy_form (IsTaken 5)
unfolding policy_form
leads_policy = leads_made (counted_form 262144) (λ text. SetPolicy text) (AreCounted 262144) (IsTaken 5) (leads_counted 262144 (omega arith)) (λ xs text t. record { taken_is = ap (λ (l : List ℕ). 5 ∷ l) t.taken_is; entry = t.fit })

leads_kind : (kind : ℕ) → 1 ≤ kind → kind ≤ 5 → Leads (kind_form kind) (IsTaken kind)
unfolding kind_form
leads_kind zero low high = absurd (omega arith)
leads_kind (suc zero) low high = leads_deposit
leads_kind (suc (suc zero)) low high = leads_seal
leads_kind (suc (suc (suc zero))) low high = leads_renewal RenewStamps 3 (λ taken hash cohorts token r. record { taken_is = ap (λ (l : List ℕ). 3 ∷ l) r.taken_is; entry = (r.cohorts_are, r.fit) })
leads_kind (suc (suc (suc (suc zero)))) low high = leads_renewal RenewTrees 4 (λ taken hash cohorts token r. record { taken_is = ap (λ (l : List ℕ). 4 ∷ l) r.taken_is; entry = (r.cohorts_are, r.fit) })
leads_kind (suc (suc (suc (suc (suc zero))))) low high = leads_policy
leads_kind (suc (suc (suc (suc (suc (suc kind)))))) low high = absurd (omega arith)

pub record IsWhole (taken : List ℕ) (e : Entry) : Type 0 where
  pub taken_is : taken ≡ entry_spelling e
  pub entry : IsEntry e

pub leads_entry : Leads entry_form IsWhole
unfolding Leads entry_form
leads_entry = (
  (1, refl),
  λ b fits.
      let parts = and_parts _ _ fits in
      leads_weakly (kind_form b) (IsTaken b) (λ xs e. IsWhole (b ∷ xs) e) (λ xs e h. record { taken_is = h.taken_is; entry = h.entry }) (leads_kind b (leb-true 1 b parts.0) (leb-true b 5 parts.1)),
)

-- ---- what is spelled is accepted

accepts_renewal : (renewal : HashAlg → List ℕ → List ℕ → Entry) (hash : HashAlg) (cohorts token : List ℕ) → AreCohorts cohorts → length token ≤ 65536
    → Accepts (renewal_form renewal) (hash_byte hash ∷ (number (length cohorts) ++ flat_map number cohorts ++ counted token)) (renewal hash cohorts token)
unfolding renewal_form
accepts_renewal renewal hash cohorts token are fit =
    accepts_followed hash_form _ (hash_byte hash ∷ []) (number (length cohorts) ++ flat_map number cohorts ++ counted token) hash (renewal hash cohorts token) (accepts_hash hash)
    (accepts_followed cohorts_form _ (number (length cohorts) ++ flat_map number cohorts) (counted token) cohorts (renewal hash cohorts token) (accepts_cohorts cohorts are)
    (accepts_made token_form (λ t. renewal hash cohorts t) (counted token) token (accepts_counted 65536 token fit (omega arith))))

accepts_deposit : (gs : List (List (List ℕ))) → IsDeposit gs → Accepts deposit_form (number (length gs) ++ flat_map group_spelling gs) (Deposit gs)
unfolding deposit_form
accepts_deposit gs is =
    accepts_followed (ranged 1 64) _ (number (length gs)) (flat_map group_spelling gs) (length gs) (Deposit gs) (accepts_ranged 1 64 (length gs) is.some is.few (omega arith))
    (accepts_made (groups_form (length gs) 8388608) (λ l. Deposit l) (flat_map group_spelling gs) gs (accepts_groups gs 8388608 is.each is.together))

accepts_seal : (hash : HashAlg) (count : ℕ) (token : List ℕ) → count < 4294967296 → length token ≤ 65536 → Accepts seal_form (hash_byte hash ∷ (number count ++ counted token)) (Seal hash count token)
unfolding seal_form
accepts_seal hash count token small fit =
    accepts_followed hash_form _ (hash_byte hash ∷ []) (number count ++ counted token) hash (Seal hash count token) (accepts_hash hash)
    (accepts_followed (ranged 0 4294967295) _ (number count) (counted token) count (Seal hash count token) (accepts_ranged 0 4294967295 count (omega arith) (omega arith) (omega arith))
    (accepts_made token_form (λ t. Seal hash count t) (counted token) token (accepts_counted 65536 token fit (omega arith))))

accepts_policy : (text : List ℕ) → length text ≤ 262144 → Accepts policy_form (counted text) (SetPolicy text)
unfolding policy_form
accepts_policy text fit = accepts_made (counted_form 262144) (λ t. SetPolicy t) (counted text) text (accepts_counted 262144 text fit (omega arith))

pub accepts_entry : (e : Entry) → IsEntry e → Accepts entry_form (entry_spelling e) e
unfolding Accepts entry_form kind_form
accepts_entry (Deposit gs) is = (refl, accepts_deposit gs is)
accepts_entry (Seal hash count token) is = (refl, accepts_seal hash count token is.0 is.1)
accepts_entry (RenewStamps hash cohorts token) is = (refl, accepts_renewal RenewStamps hash cohorts token is.0 is.1)
accepts_entry (RenewTrees hash cohorts token) is = (refl, accepts_renewal RenewTrees hash cohorts token is.0 is.1)
accepts_entry (SetPolicy text) is = (refl, accepts_policy text is)

-- ---- the laws

pub spelled : (bytes : List ℕ) (e : Entry) → Accepts entry_form bytes e → IsWhole bytes e
spelled bytes e h = led entry_form IsWhole bytes e leads_entry h

pub accepts : (bytes : List ℕ) (e : Entry) → IsEntry e → bytes ≡ entry_spelling e → Accepts entry_form bytes e
accepts bytes e is same = subst (λ (l : List ℕ). Accepts entry_form l e) (sym same) (accepts_entry e is)

pub one_spelling : (bytes : List ℕ) (e f : Entry) → IsEntry e → bytes ≡ entry_spelling e → IsEntry f → bytes ≡ entry_spelling f → e ≡ f
one_spelling bytes e f ie same if' same' = one_value entry_form bytes e f (accepts bytes e ie same) (accepts bytes f if' same')

pub without_fault : (bytes : List ℕ) → entry_first_fault bytes ≡ None → Spells bytes
without_fault bytes none =
    let e = no_fault entry_form 0 bytes none in
    let is = spelled bytes e.0 e.1 in
    record { entry = e.0; valid = is.entry; is = is.taken_is }

pub has_no_fault : (bytes : List ℕ) → Spells bytes → entry_first_fault bytes ≡ None
has_no_fault bytes s =
    let h = accepts bytes s.entry s.valid s.is in
    let e = accepted entry_form 0 bytes [] s.entry h in
    subst (λ (l : List ℕ). fault_of (reads entry_form 0 l) ≡ None) (append-nil bytes) (rw e refl)

begins : (front : List ℕ) → Ends entry_form front → Begins front
begins front h =
    let is = spelled (front ++ h.rest) h.value h.accepts in
    record { rest = h.rest; spells = record { entry = h.value; valid = is.entry; is = is.taken_is } }

ends : (front : List ℕ) → Begins front → Ends entry_form front
ends front h = record { rest = h.rest; value = h.spells.entry; accepts = accepts (front ++ h.rest) h.spells.entry h.spells.valid h.spells.is }

pub first_fault : (bytes : List ℕ) (place : ℕ) → entry_first_fault bytes ≡ Some place → StopsAt bytes place
first_fault bytes place e =
    let s = stops entry_form IsWhole 0 bytes place leads_entry e in
    let is : s.count ≡ place = (let same = s.is in omega arith) in
    let next : place + 1 ≡ suc place = omega arith in
    record {
      within = subst (λ (k : ℕ). k ≤ length bytes) is s.within;
      begins = begins (take place bytes) (subst (λ (k : ℕ). Ends entry_form (take k bytes)) is s.begins);
      too_many = λ less more. s.too_many (let same = s.is in omega arith) (subst (λ (k : ℕ). Ends entry_form (take k bytes)) (next ∙ ap suc (sym is)) (ends (take (place + 1) bytes) more));
      none = λ h. absurd (let none = has_no_fault bytes h in cc);
    }

pub both_ways_none : (bytes : List ℕ) → (entry_first_fault bytes ≡ None) ↔ Spells bytes
both_ways_none bytes = (without_fault bytes, has_no_fault bytes)

-- what begins a spelling, its front begins too
shorter : (k : ℕ) (front : List ℕ) → Begins front → Begins (take k front)
shorter k front h = record {
  rest = drop k front ++ h.rest;
  spells = subst (λ (l : List ℕ). Spells l) (ap (λ (l : List ℕ). l ++ h.rest) (sym (take-append-drop k front)) ∙ append_assoc (take k front) (drop k front) h.rest) h.spells;
}

-- a fault before another is none
not_before : (bytes : List ℕ) (p q : ℕ) → StopsAt bytes p → StopsAt bytes q → p < q → ⊥
not_before bytes p q one other less =
    let within = other.within in
    one.too_many (omega arith) (subst (λ (l : List ℕ). Begins l) (take-take (p + 1) q bytes (omega arith)) (shorter (p + 1) (take q bytes) other.begins))

pub both_ways_some : (bytes : List ℕ) (place : ℕ) → (entry_first_fault bytes ≡ Some place) ↔ StopsAt bytes place
both_ways_some bytes place = (first_fault bytes place, λ h. by_fault h (entry_first_fault bytes) refl)
  where
    by_fault : StopsAt bytes place → (o : Option ℕ) → entry_first_fault bytes ≡ o → entry_first_fault bytes ≡ Some place
    by_fault h None e = absurd (h.none (without_fault bytes e))
    by_fault h (Some q) e =
        let other = first_fault bytes q e in
        elim (cases_order place q) [
          | inl same ↦ rw same e
          | inr differ ↦ elim differ [
            | inl less ↦ absurd (not_before bytes place q h other less)
            | inr more ↦ absurd (not_before bytes q place other h more)
          ]
        ]
