-- What a policy answers: its last name, an authority by its identifier, the target.
use Rattle.std.proofs.Common.{◌≡◌, subst, ℕ, zero, suc, ◌<◌, Bool, true, false, not, ◌&&◌, cond, List, [], ◌∷◌, ◌++◌, length, get_or, Some, None, unwrap_or, Contains, refl, sym, ap, ◌∙◌, arith}
use Rattle.std.specs.List.{list_all, find}
use Rattle.std.specs.Str.{bytes_eq}
use Rattle.std.specs.Cmp.{IsTotalOrder}
use Rattle.std.specs.Ordering.{is_lt, is_le, ordering_reverse}
use Rattle.std.specs.declared.cmp.Ordering.{Ordering}
use Rattle.std.specs.declared.cmp.Ordering.TheVariants.{Less, Equal, Greater}
use Rattle.std.proofs.lemmas.Bool.{and_parts, cond-true, cond-false, not-true, not-false, and_left, and_right, false_from_ne_true}
use Rattle.std.proofs.lemmas.Cmp.{nat_list_cmp_total, nat_cmp_total, int_cmp_total, on_total, then_total}
use Rattle.std.proofs.lemmas.Slice.Eq.{bytes_eq-Decides}
use Rattle.civil_moment.specs.declared.moment.Moment.{Moment}
use Rattle.civil_moment.specs.Moment.{moment_order, is_before}
use Rattle.hash_kit.specs.Algorithm.{place_of}
use Rattle.hash_kit.specs.Node.{bytes_cmp}
use Rattle.hash_kit.specs.declared.algorithm.HashAlg.{HashAlg}
use Rattle.hash_kit.specs.declared.algorithm.HashAlg.TheVariants.{Sha256, Sha384, Sha512}
use Rattle.algorithm_policy.specs.declared.signer.Signer.{Signer}
use Rattle.algorithm_policy.specs.Content.{Content, is_below, all_pairs, hash_end, target}
use Rattle.algorithm_policy.specs.Inside.{later_of}
use Rattle.algorithm_policy.proofs.PlaceLemmas.{all_joined}

-- ---- the last name

less : (o : Ordering) → is_lt o ≡ true → o ≡ Less
less Less h = refl
less Equal h = cc h
less Greater h = cc h

pub below_along : (a b c : List ℕ) → is_below a b ≡ true → is_below b c ≡ true → is_below a c ≡ true
below_along a b c h k = ap is_lt (nat_list_cmp_total.trans a b c (less (bytes_cmp a b) h) (less (bytes_cmp b c) k))

-- of ascending names the last decides
pub last_decides : (rest : List Signer) (last : Signer) (name : List ℕ) → all_pairs (λ a b. is_below a.name b.name) (rest ++ last ∷ []) ≡ true
    → list_all (λ s. is_below s.name name) (rest ++ last ∷ []) ≡ is_below last.name name
last_decides [] last name h = with_true (is_below last.name name)
  where
    with_true : (b : Bool) → (b && true) ≡ b
    with_true true = refl
    with_true false = refl
last_decides (s ∷ rest) last name h =
    let parts = and_parts (list_all (λ b. is_below s.name b.name) (rest ++ last ∷ [])) _ h in
    let all = and_parts _ _ (sym (all_joined (λ b. is_below s.name b.name) rest (last ∷ [])) ∙ parts.0) in
    let below = (and_parts (is_below s.name last.name) true all.1).0 in
    ap (λ b. is_below s.name name && b) (last_decides rest last name parts.1)
    ∙ decided (is_below last.name name) (is_below s.name name) (λ k. below_along s.name last.name name below k)
  where
    decided : (b a : Bool) → (b ≡ true → a ≡ true) → (a && b) ≡ b
    decided true a h = ap (λ x. x && true) (h refl)
    decided false true h = refl
    decided false false h = refl

-- ---- an authority by its identifier

other_one : (x : Signer) (l : List Signer) (s : Signer) (k : ℕ) → list_all (λ y. not (bytes_eq x.sid y.sid)) l ≡ true → k < length l → get_or l k s ≡ s → bytes_eq x.sid s.sid ≡ false
other_one x [] s k h lt is = absurd (omega arith)
other_one x (y ∷ l) s zero h lt is = not-true _ ((and_parts (not (bytes_eq x.sid s.sid)) _ (rw is at h)).0)
other_one x (y ∷ l) s (suc k) h lt is = other_one x l s k (and_parts (not (bytes_eq x.sid y.sid)) _ h).1 (omega arith) is

pub found_one : (l : List Signer) (sid : List ℕ) (s : Signer) → all_pairs (λ a b. not (bytes_eq a.sid b.sid)) l ≡ true → Contains l s → s.sid ≡ sid → find (λ x. bytes_eq x.sid sid) l ≡ Some s
found_one l sid s h has same = at l h has.0 has.1 has.2
  where
    at : (l : List Signer) → all_pairs (λ a b. not (bytes_eq a.sid b.sid)) l ≡ true → (k : ℕ) → k < length l → get_or l k s ≡ s → find (λ x. bytes_eq x.sid sid) l ≡ Some s
    at [] h k lt is = absurd (omega arith)
    at (y ∷ l) h zero lt is =
        cond-true _ (Some y) _ ((bytes_eq-Decides y.sid sid).1 (ap (λ (z : Signer). z.sid) is ∙ same)) ∙ ap Some is
    at (y ∷ l) h (suc k) lt is =
        let parts = and_parts (list_all (λ b. not (bytes_eq y.sid b.sid)) l) _ h in
        let other : bytes_eq y.sid sid ≡ false = ap (bytes_eq y.sid) (sym same) ∙ other_one y l s k parts.0 (omega arith) is in
        cond-false _ (Some y) _ other ∙ at l parts.1 k (omega arith) is

-- ---- the target

moments : IsTotalOrder moment_order
moments = then_total (on_total (λ (m : Moment). m.seconds) int_cmp_total) (on_total (λ (m : Moment). m.nanos) nat_cmp_total)

abbrev le : Moment → Moment → Bool
le a b = is_le (moment_order a b)

weaker : (o : Ordering) → is_lt o ≡ true → is_le o ≡ true
weaker Less h = refl
weaker Equal h = refl
weaker Greater h = cc h

le_below : (a b : Moment) → is_before a b ≡ true → le a b ≡ true
le_below a b h = weaker (moment_order a b) h

reversed : (o : Ordering) → is_lt (ordering_reverse o) ≡ not (is_le o)
reversed Less = refl
reversed Equal = refl
reversed Greater = refl

before_not : (a b : Moment) → is_before a b ≡ not (le b a)
before_not a b = ap is_lt (moments.antisymm a b) ∙ reversed (moment_order b a)

le_self : (a : Moment) → le a a ≡ true
le_self a = at (moment_order a a) refl
  where
    at : (o : Ordering) → moment_order a a ≡ o → is_le o ≡ true
    at Less h = refl
    at Equal h = refl
    at Greater h = let e = moments.antisymm a a in cc

le_along : (a b c : Moment) → le a b ≡ true → le b c ≡ true → le a c ≡ true
le_along a b c h k = at (moment_order a b) (moment_order b c) refl refl h k
  where
    at : (o p : Ordering) → moment_order a b ≡ o → moment_order b c ≡ p → is_le o ≡ true → is_le p ≡ true → le a c ≡ true
    at Less Less x y h k = ap is_le (moments.trans a b c x y)
    at Less Equal x y h k =
        let back : moment_order c b ≡ Equal = moments.antisymm c b ∙ ap ordering_reverse y in
        ap is_le (moments.antisymm a c ∙ ap ordering_reverse (moments.congr c b a back) ∙ sym (moments.antisymm a b) ∙ x)
    at Less Greater x y h k = cc k
    at Equal p x y h k = ap is_le (moments.congr a b c x ∙ y) ∙ k
    at Greater p x y h k = cc h

-- the first of three ends that none of them passes
abbrev pick : Bool → Bool → Bool → HashAlg
pick x y z = unwrap_or (cond x (Some Sha256) (cond y (Some Sha384) (cond z (Some Sha512) None))) Sha256

keeps_first : (first second : HashAlg) (a b : Moment) → le b a ≡ true → cond (is_before a b) second first ≡ first
keeps_first first second a b h = cond-false (is_before a b) second first (before_not a b ∙ ap not h)

takes_second : (first second : HashAlg) (a b : Moment) → le b a ≡ false → cond (is_before a b) second first ≡ second
takes_second first second a b h = cond-true (is_before a b) second first (before_not a b ∙ ap not h)

above : (a b : Moment) → le b a ≡ false → le a b ≡ true
above a b h = le_below a b (before_not a b ∙ ap not h)

pub later_twice : (c : Content) → later_of c (later_of c Sha256 Sha384) Sha512 ≡ target c
later_twice c = by_first (le b a) refl
  where
    a : Moment
    a = hash_end c Sha256

    b : Moment
    b = hash_end c Sha384

    d : Moment
    d = hash_end c Sha512

    chosen : HashAlg
    chosen = pick (le a a && (le b a && (le d a && true))) (le a b && (le b b && (le d b && true))) (le a d && (le b d && (le d d && true)))

    after_first : (x : Bool) → le b a ≡ true → le d a ≡ x → later_of c Sha256 Sha512 ≡ chosen
    after_first true ba da =
        keeps_first Sha256 Sha512 a d da
        ∙ sym (λ i. pick (le_self a i && (ba i && (da i && true))) (le a b && (le b b && (le d b && true))) (le a d && (le b d && (le d d && true))))
    after_first false ba da =
        let db = false_from_ne_true (le d b) (λ h. let e = le_along d b a h ba in cc) in
        let ad = above a d da in
        let none = and_right (le a b) (le b b && (le d b && true)) (and_right (le b b) (le d b && true) (and_left (le d b) true db)) in
        takes_second Sha256 Sha512 a d da
        ∙ sym (λ i. pick (le_self a i && (ba i && (da i && true))) (none i) (ad i && (le_along b a d ba ad i && (le_self d i && true))))

    after_second : (x : Bool) → le b a ≡ false → le d b ≡ x → later_of c Sha384 Sha512 ≡ chosen
    after_second true ba db =
        let ab = above a b ba in
        keeps_first Sha384 Sha512 b d db
        ∙ sym (λ i. pick (le_self a i && (ba i && (le d a && true))) (ab i && (le_self b i && (db i && true))) (le a d && (le b d && (le d d && true))))
    after_second false ba db =
        let ab = above a b ba in
        let bd = above b d db in
        takes_second Sha384 Sha512 b d db
        ∙ sym (λ i. pick (le_self a i && (ba i && (le d a && true))) (ab i && (le_self b i && (db i && true))) (le_along a b d ab bd i && (bd i && (le_self d i && true))))

    by_first : (x : Bool) → le b a ≡ x → later_of c (later_of c Sha256 Sha384) Sha512 ≡ target c
    by_first true ba = ap (λ first. later_of c first Sha512) (keeps_first Sha256 Sha384 a b ba) ∙ after_first (le d a) ba refl
    by_first false ba = ap (λ first. later_of c first Sha512) (takes_second Sha256 Sha384 a b ba) ∙ after_second (le d b) ba refl

-- ---- what the target says

later_above : (c : Content) (x y : HashAlg) (g : Bool) → is_before (hash_end c x) (hash_end c y) ≡ g → (le (hash_end c x) (hash_end c (cond g y x)) ≡ true) × (le (hash_end c y) (hash_end c (cond g y x)) ≡ true)
later_above c x y true h = (le_below (hash_end c x) (hash_end c y) h, le_self (hash_end c y))
later_above c x y false h = (le_self (hash_end c x), not-false (le (hash_end c y) (hash_end c x)) (sym (before_not (hash_end c x) (hash_end c y)) ∙ h))

abbrev first_two : Content → HashAlg
first_two c = later_of c Sha256 Sha384

pub target_last : (c : Content) (alg : HashAlg) → le (hash_end c alg) (hash_end c (target c)) ≡ true
target_last c alg = ap (λ t. le (hash_end c alg) (hash_end c t)) (sym (later_twice c)) ∙ at alg
  where
    front : (le (hash_end c Sha256) (hash_end c (first_two c)) ≡ true) × (le (hash_end c Sha384) (hash_end c (first_two c)) ≡ true)
    front = later_above c Sha256 Sha384 (is_before (hash_end c Sha256) (hash_end c Sha384)) refl

    back : (le (hash_end c (first_two c)) (hash_end c (later_of c (first_two c) Sha512)) ≡ true) × (le (hash_end c Sha512) (hash_end c (later_of c (first_two c) Sha512)) ≡ true)
    back = later_above c (first_two c) Sha512 (is_before (hash_end c (first_two c)) (hash_end c Sha512)) refl

    at : (alg : HashAlg) → le (hash_end c alg) (hash_end c (later_of c (first_two c) Sha512)) ≡ true
    at Sha256 = le_along (hash_end c Sha256) (hash_end c (first_two c)) (hash_end c (later_of c (first_two c) Sha512)) front.0 back.0
    at Sha384 = le_along (hash_end c Sha384) (hash_end c (first_two c)) (hash_end c (later_of c (first_two c) Sha512)) front.1 back.0
    at Sha512 = back.1

less_than : (a b : Moment) → is_before a b ≡ true → moment_order a b ≡ Less
less_than a b h = less (moment_order a b) h

less_along : (a b c : Moment) → le a b ≡ true → moment_order b c ≡ Less → moment_order a c ≡ Less
less_along a b c h k = at (moment_order a b) refl h
  where
    at : (o : Ordering) → moment_order a b ≡ o → is_le o ≡ true → moment_order a c ≡ Less
    at Less x h = moments.trans a b c x k
    at Equal x h = moments.congr a b c x ∙ k
    at Greater x h = cc h

-- each algorithm before this one ends earlier
abbrev Firsts : Content → HashAlg → Type 0
Firsts c l = (alg : HashAlg) → place_of alg < place_of l → moment_order (hash_end c alg) (hash_end c l) ≡ Less

first_of_two : (c : Content) (g : Bool) → is_before (hash_end c Sha256) (hash_end c Sha384) ≡ g → Firsts c (cond g Sha384 Sha256)
first_of_two c true h Sha256 lt = less_than (hash_end c Sha256) (hash_end c Sha384) h
first_of_two c true h Sha384 lt = absurd (omega arith)
first_of_two c true h Sha512 lt = absurd (omega arith)
first_of_two c false h Sha256 lt = absurd (omega arith)
first_of_two c false h Sha384 lt = absurd (omega arith)
first_of_two c false h Sha512 lt = absurd (omega arith)

first_of_three : (c : Content) (l : HashAlg) (g : Bool) → is_before (hash_end c l) (hash_end c Sha512) ≡ g → (le (hash_end c Sha256) (hash_end c l) ≡ true) × (le (hash_end c Sha384) (hash_end c l) ≡ true) → Firsts c l → Firsts c (cond g Sha512 l)
first_of_three c l true h below before Sha256 lt = less_along (hash_end c Sha256) (hash_end c l) (hash_end c Sha512) below.0 (less_than (hash_end c l) (hash_end c Sha512) h)
first_of_three c l true h below before Sha384 lt = less_along (hash_end c Sha384) (hash_end c l) (hash_end c Sha512) below.1 (less_than (hash_end c l) (hash_end c Sha512) h)
first_of_three c l true h below before Sha512 lt = absurd (omega arith)
first_of_three c l false h below before alg lt = before alg lt

pub target_first : (c : Content) → Firsts c (target c)
target_first c =
    let one = is_before (hash_end c Sha256) (hash_end c Sha384) in
    let two = is_before (hash_end c (first_two c)) (hash_end c Sha512) in
    let P : HashAlg → Type 0 = λ t. Firsts c t in
    subst P (later_twice c) (first_of_three c (first_two c) two refl (later_above c Sha256 Sha384 one refl) (first_of_two c one refl))
