-- What a policy keeps of an older one.
use Rattle.std.proofs.Common.{◌≡◌, ℕ, zero, suc, ◌<◌, Bool, true, false, not, ◌&&◌, ◌||◌, cond, List, [], ◌∷◌, length, get_or, Option, Some, None, Contains, refl, sym, ap, ◌∙◌, arith}
use Rattle.std.specs.List.{list_any, find}
use Rattle.std.specs.Str.{bytes_eq}
use Rattle.std.proofs.lemmas.Bool.{and_parts, and_from, cond-false, not-false}
use Rattle.std.proofs.lemmas.Slice.Eq.{bytes_eq-Decides}
use Rattle.algorithm_policy.specs.declared.signer.Signer.{Signer}
use Rattle.algorithm_policy.specs.Content.{Content, IsPolicy, IsKept, is_same, first_dropped, signer_of}
use Rattle.algorithm_policy.proofs.LookupLemmas.{found_one}

-- ---- tests over lists

pub record Passing (p : Signer → Bool) (l : List Signer) : Type 0 where
  pub one : Signer
  pub within : Contains l one
  pub passes : p one ≡ true

further : (p : Signer → Bool) (x : Signer) (l : List Signer) → Passing p l → Passing p (x ∷ l)
further p x l r = record { one = r.one; within = (suc r.within.0, omega (arith, r.within.1), r.within.2); passes = r.passes }

first_or_further : (p : Signer → Bool) (x : Signer) (l : List Signer) (b : Bool) → p x ≡ b → (b || list_any p l) ≡ true → (list_any p l ≡ true → Passing p l) → Passing p (x ∷ l)
first_or_further p x l true is h rest = record { one = x; within = (0, omega arith, refl); passes = is }
first_or_further p x l false is h rest = further p x l (rest h)

passing : (p : Signer → Bool) (l : List Signer) → list_any p l ≡ true → Passing p l
passing p [] h = cc h
passing p (x ∷ l) h = first_or_further p x l (p x) refl h (passing p l)

second_true : (a b : Bool) → b ≡ true → (a || b) ≡ true
second_true true b h = refl
second_true false b h = h

any_of : (p : Signer → Bool) (l : List Signer) (s : Signer) (k : ℕ) → k < length l → get_or l k s ≡ s → p s ≡ true → list_any p l ≡ true
any_of p [] s k lt is h = absurd (omega arith)
any_of p (x ∷ l) s zero lt is h = ap (λ b. b || list_any p l) (ap p is ∙ h)
any_of p (x ∷ l) s (suc k) lt is h = second_true (p x) (list_any p l) (any_of p l s k (omega arith) is h)

not_found : (b : Bool) (x : Signer) (o : Option Signer) → cond b (Some x) o ≡ None → (b ≡ false) × (o ≡ None)
not_found true x o h = cc h
not_found false x o h = (refl, h)

none_fails : (p : Signer → Bool) (l : List Signer) (s : Signer) (k : ℕ) → find (λ x. not (p x)) l ≡ None → k < length l → get_or l k s ≡ s → p s ≡ true
none_fails p [] s k h lt is = absurd (omega arith)
none_fails p (x ∷ l) s zero h lt is = ap p (sym is) ∙ not-false (p x) (not_found (not (p x)) x _ h).0
none_fails p (x ∷ l) s (suc k) h lt is = none_fails p l s k (not_found (not (p x)) x _ h).1 (omega arith) is

all_pass : (p : Signer → Bool) (l : List Signer) → ((s : Signer) → Contains l s → p s ≡ true) → find (λ x. not (p x)) l ≡ None
all_pass p [] h = refl
all_pass p (x ∷ l) h =
    cond-false (not (p x)) (Some x) _ (ap not (h x (0, omega arith, refl)))
    ∙ all_pass p l (λ s has. h s (suc has.0, omega (arith, has.1), has.2))

found : (b : Bool) (x s : Signer) (o : Option Signer) → cond b (Some x) o ≡ Some s → (P : Type 0) → (b ≡ true → x ≡ s → P) → (o ≡ Some s → P) → P
found true x s o h P here there = here refl (cc)
found false x s o h P here there = there h

pub record Finds (p : Signer → Bool) (l : List Signer) (s : Signer) : Type 0 where
  pub within : Contains l s
  pub passes : p s ≡ true

found_in : (p : Signer → Bool) (l : List Signer) (s : Signer) → find p l ≡ Some s → Finds p l s
found_in p [] s h = cc h
found_in p (x ∷ l) s h =
    found (p x) x s (find p l) h (Finds p (x ∷ l) s)
    (λ yes is. record { within = (0, omega arith, is); passes = ap p (sym is) ∙ yes })
    (λ later. let r = found_in p l s later in record { within = (suc r.within.0, omega (arith, r.within.1), r.within.2); passes = r.passes })

-- ---- the same authority

equal : (a b : List ℕ) → bytes_eq a b ≡ true → b ≡ a
equal a b h = sym ((bytes_eq-Decides a b).0 h)

alike : (a b : List ℕ) → b ≡ a → bytes_eq a b ≡ true
alike a b h = (bytes_eq-Decides a b).1 (sym h)

is_kept : (a b : Signer) → is_same a b ≡ true → IsKept a b
is_kept a b h =
    let x = and_parts ((bytes_eq a.name b.name && bytes_eq a.sid b.sid) && bytes_eq a.key b.key) (bytes_eq a.cert b.cert) h in
    let y = and_parts (bytes_eq a.name b.name && bytes_eq a.sid b.sid) (bytes_eq a.key b.key) x.0 in
    let z = and_parts (bytes_eq a.name b.name) (bytes_eq a.sid b.sid) y.0 in
    record { name = equal a.name b.name z.0; sid = equal a.sid b.sid z.1; key = equal a.key b.key y.1; cert = equal a.cert b.cert x.1 }

kept_is : (a b : Signer) → IsKept a b → is_same a b ≡ true
kept_is a b h =
    and_from _ _ (and_from _ _ (and_from _ _ (alike a.name b.name h.name) (alike a.sid b.sid h.sid)) (alike a.key b.key h.key)) (alike a.cert b.cert h.cert)

-- ---- what is kept

pub kept : (old new : Content) → first_dropped old new ≡ None → (s : Signer) → Contains old.signers s → (other : Signer) × Contains new.signers other × IsKept s other
kept old new h s has =
    let r = passing (is_same s) new.signers (none_fails (λ x. list_any (is_same x) new.signers) old.signers s has.0 h has.1 has.2) in
    (r.one, r.within, is_kept s r.one r.passes)

pub none_dropped : (old new : Content) → ((s : Signer) → Contains old.signers s → (other : Signer) × Contains new.signers other × IsKept s other) → first_dropped old new ≡ None
none_dropped old new h =
    all_pass (λ x. list_any (is_same x) new.signers) old.signers
    (λ s has. let r = h s has in any_of (is_same s) new.signers r.0 r.1.0 r.1.1 r.1.2 (kept_is s r.0 r.2))

pub still_found : (old new : Content) → IsPolicy new → first_dropped old new ≡ None → (sid : List ℕ) (s : Signer) → signer_of old sid ≡ Some s
    → (other : Signer) × (signer_of new sid ≡ Some other) × IsKept s other
still_found old new valid h sid s is =
    let f = found_in (λ x. bytes_eq x.sid sid) old.signers s is in
    let r = kept old new h s f.within in
    (r.0, found_one new.signers sid r.0 valid.distinct r.1 (r.2.sid ∙ sym (equal s.sid sid f.passes)), r.2)
