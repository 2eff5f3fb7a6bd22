-- Entries in their places, and what stands before them.
use Rattle.std.proofs.Common.{◌≡◌, ◌≤◌, ℕ, ◌+◌, Bool, true, false, not, ◌&&◌, ◌||◌, cond, nat_le, List, [], ◌∷◌, ◌++◌, length, suc, map, Option, Some, None, Result, Ok, Err, IfErr, refl, sym, ap, ◌∙◌, arith, append_assoc, length-append, count_by, add_comm, add-one}
use Rattle.std.specs.List.{list_all, list_any, AllByRecursion}
use Rattle.std.specs.Str.{bytes_eq}
use Rattle.std.proofs.lemmas.List.Recursion.{is_count_by}
use Rattle.std.proofs.lemmas.Bool.{and_parts, and_from, or_parts, not_from_false, lt-leb}
use Rattle.civil_moment.specs.declared.moment.Moment.{Moment}
use Rattle.hash_kit.specs.declared.algorithm.HashAlg.{HashAlg}
use Rattle.hash_kit.specs.declared.algorithm.HashAlg.TheVariants.{Sha256, Sha384, Sha512}
use Rattle.algorithm_policy.specs.declared.signer.Signer.{Signer}
use Rattle.algorithm_policy.specs.declared.policy_line.PolicyLine.TheVariants.{Hash, Authority}
use Rattle.algorithm_policy.specs.declared.fault.PolicyKind.{PolicyKind}
use Rattle.algorithm_policy.specs.declared.fault.PolicyKind.TheVariants.{Order, Twice, TooMany}
use Rattle.algorithm_policy.specs.declared.fault.LineFault.{LineFault}
use Rattle.algorithm_policy.specs.Content.{Content, IsSigner, IsPolicy, is_below, all_pairs}
use Rattle.algorithm_policy.specs.Text.{named, policy_lines}
use Rattle.algorithm_policy.specs.Fault.{Subject, algorithm, signer, may_follow, share_sid, is_signer, place_fault}
use Rattle.algorithm_policy.specs.Change.{with_end, with_signer, signer_fault, refusal}
use Rattle.algorithm_policy.specs.Inside.{Blames, line_subject, subjects, is_nil, names_later, names_from, hash_fault, MayCome, Adds}

-- ---- lists

pub map_joined : {A B : Type 0} (f : A → B) (xs ys : List A) → map f (xs ++ ys) ≡ map f xs ++ map f ys
map_joined f [] ys = refl
map_joined f (x ∷ xs) ys = ap (λ l. f x ∷ l) (map_joined f xs ys)

pub all_joined : {A : Type 0} (p : A → Bool) (xs ys : List A) → list_all p (xs ++ ys) ≡ (list_all p xs && list_all p ys)
all_joined p [] ys = refl
all_joined p (x ∷ xs) ys = ap (λ b. p x && b) (all_joined p xs ys) ∙ and_assoc (p x) (list_all p xs) (list_all p ys)
  where
    and_assoc : (a b c : Bool) → (a && (b && c)) ≡ ((a && b) && c)
    and_assoc true b c = refl
    and_assoc false b c = refl

pub all_mapped : {A B : Type 0} (p : B → Bool) (f : A → B) (xs : List A) → list_all p (map f xs) ≡ list_all (λ x. p (f x)) xs
all_mapped p f [] = refl
all_mapped p f (x ∷ xs) = ap (λ b. p (f x) && b) (all_mapped p f xs)

pub any_mapped : {A B : Type 0} (p : B → Bool) (f : A → B) (xs : List A) → list_any p (map f xs) ≡ list_any (λ x. p (f x)) xs
any_mapped p f [] = refl
any_mapped p f (x ∷ xs) = ap (λ b. p (f x) || b) (any_mapped p f xs)

-- ---- what a policy is about

-- the algorithms that are named
abbrev pub one : HashAlg → Option Moment → List HashAlg
one alg None = []
one alg (Some end) = alg ∷ []

abbrev pub about : Signer → Subject
about s = signer s.name s.sid

abbrev pub algs : Content → List HashAlg
algs c = one Sha256 c.sha256 ++ one Sha384 c.sha384 ++ one Sha512 c.sha512

about_named : (alg : HashAlg) (end : Option Moment) → map line_subject (named alg end) ≡ map algorithm (one alg end)
about_named alg None = refl
about_named alg (Some end) = refl

about_signers : (l : List Signer) → map line_subject (map Authority l) ≡ map about l
about_signers [] = refl
about_signers (s ∷ l) = ap (λ t. about s ∷ t) (about_signers l)

pub subjects_are : (c : Content) → subjects c ≡ map algorithm (algs c) ++ map about c.signers
subjects_are c =
    map_joined line_subject ((named Sha256 c.sha256 ++ named Sha384 c.sha384) ++ named Sha512 c.sha512) (map Authority c.signers)
    ∙ (λ i. (map_joined line_subject (named Sha256 c.sha256 ++ named Sha384 c.sha384) (named Sha512 c.sha512)
    ∙ (λ j. map_joined line_subject (named Sha256 c.sha256) (named Sha384 c.sha384) j ++ map line_subject (named Sha512 c.sha512))
    ∙ (λ j. (about_named Sha256 c.sha256 j ++ about_named Sha384 c.sha384 j) ++ about_named Sha512 c.sha512 j)
    ∙ (λ j. sym (map_joined algorithm (one Sha256 c.sha256) (one Sha384 c.sha384)) j ++ map algorithm (one Sha512 c.sha512))
    ∙ sym (map_joined algorithm (one Sha256 c.sha256 ++ one Sha384 c.sha384) (one Sha512 c.sha512))) i ++ about_signers c.signers i)

-- ---- a hash algorithm's place

none_shares : (alg : HashAlg) (l : List Subject) → list_any (λ e. share_sid e (algorithm alg)) l ≡ false
none_shares alg [] = refl
none_shares alg (algorithm a ∷ l) = none_shares alg l
none_shares alg (signer name sid ∷ l) = none_shares alg l

no_signer : (alg : HashAlg) (l : List Signer) → list_all (λ e. may_follow e (algorithm alg)) (map about l) ≡ is_nil l
no_signer alg [] = refl
no_signer alg (s ∷ l) = refl

follows : (c : Content) (alg : HashAlg) → list_all (λ e. may_follow e (algorithm alg)) (subjects c) ≡ not (names_from c alg)
follows c alg =
    ap (list_all (λ e. may_follow e (algorithm alg))) (subjects_are c)
    ∙ all_joined (λ e. may_follow e (algorithm alg)) (map algorithm (algs c)) (map about c.signers)
    ∙ (λ i. all_mapped (λ e. may_follow e (algorithm alg)) algorithm (algs c) i && no_signer alg c.signers i)
    ∙ by_ends alg c.sha256 c.sha384 c.sha512 c.signers (is_nil c.signers)
  where
    by_ends : (alg : HashAlg) (a b d : Option Moment) (l : List Signer) (n : Bool)
        → (list_all (λ x. may_follow (algorithm x) (algorithm alg)) ((one Sha256 a ++ one Sha384 b) ++ one Sha512 d) && n) ≡ not (names_later (record { sha256 = a; sha384 = b; sha512 = d; signers = l }) alg || not n)
    by_ends Sha256 None None None l true = refl
    by_ends Sha256 None None None l false = refl
    by_ends Sha256 None None (Some z) l n = refl
    by_ends Sha256 None (Some y) None l n = refl
    by_ends Sha256 None (Some y) (Some z) l n = refl
    by_ends Sha256 (Some x) None None l n = refl
    by_ends Sha256 (Some x) None (Some z) l n = refl
    by_ends Sha256 (Some x) (Some y) None l n = refl
    by_ends Sha256 (Some x) (Some y) (Some z) l n = refl
    by_ends Sha384 None None None l true = refl
    by_ends Sha384 None None None l false = refl
    by_ends Sha384 None None (Some z) l n = refl
    by_ends Sha384 None (Some y) None l n = refl
    by_ends Sha384 None (Some y) (Some z) l n = refl
    by_ends Sha384 (Some x) None None l true = refl
    by_ends Sha384 (Some x) None None l false = refl
    by_ends Sha384 (Some x) None (Some z) l n = refl
    by_ends Sha384 (Some x) (Some y) None l n = refl
    by_ends Sha384 (Some x) (Some y) (Some z) l n = refl
    by_ends Sha512 None None None l true = refl
    by_ends Sha512 None None None l false = refl
    by_ends Sha512 None None (Some z) l n = refl
    by_ends Sha512 None (Some y) None l true = refl
    by_ends Sha512 None (Some y) None l false = refl
    by_ends Sha512 None (Some y) (Some z) l n = refl
    by_ends Sha512 (Some x) None None l true = refl
    by_ends Sha512 (Some x) None None l false = refl
    by_ends Sha512 (Some x) None (Some z) l n = refl
    by_ends Sha512 (Some x) (Some y) None l true = refl
    by_ends Sha512 (Some x) (Some y) None l false = refl
    by_ends Sha512 (Some x) (Some y) (Some z) l n = refl

pub hash_place : (c : Content) (alg : HashAlg) → place_fault (subjects c) (algorithm alg) ≡ hash_fault c alg
hash_place c alg = by_tests _ _ _ (follows c alg) (none_shares alg (subjects c))
  where
    by_tests : (a b n : Bool) → a ≡ not n → b ≡ false → cond (not a) (Some Order) (cond b (Some Twice) None) ≡ cond n (Some Order) None
    by_tests a b true ha hb = rw ha refl
    by_tests a b false ha hb = rw (ha, hb) refl

-- one line more
more : (alg : HashAlg) (a b d : Option Moment) (l : List Signer) (end : Moment) → names_from (record { sha256 = a; sha384 = b; sha512 = d; signers = l }) alg ≡ false
    → policy_lines (with_end (record { sha256 = a; sha384 = b; sha512 = d; signers = l }) alg end) ≡ policy_lines (record { sha256 = a; sha384 = b; sha512 = d; signers = l }) ++ Hash alg end ∷ []
more Sha256 None None None [] end h = refl
more Sha256 None None None (s ∷ l) end h = cc h
more Sha256 None None (Some z) l end h = cc h
more Sha256 None (Some y) None l end h = cc h
more Sha256 None (Some y) (Some z) l end h = cc h
more Sha256 (Some x) b d l end h = cc h
more Sha384 None None None [] end h = refl
more Sha384 (Some x) None None [] end h = refl
more Sha384 a None None (s ∷ l) end h = cc h
more Sha384 a None (Some z) l end h = cc h
more Sha384 a (Some y) d l end h = cc h
more Sha512 None None None [] end h = refl
more Sha512 None (Some y) None [] end h = refl
more Sha512 (Some x) None None [] end h = refl
more Sha512 (Some x) (Some y) None [] end h = refl
more Sha512 a b None (s ∷ l) end h = cc h
more Sha512 a b (Some z) l end h = cc h

pub adds_hash : (c d : Content) (alg : HashAlg) (end : Moment) → d ≡ with_end c alg end → IsPolicy d → names_from c alg ≡ false → Adds c d (Hash alg end)
adds_hash c d alg end is valid free =
    record {
      valid = valid;
      added = ap policy_lines is ∙ more alg c.sha256 c.sha384 c.sha512 c.signers end free;
      placed = hash_place c alg ∙ ap (λ b. cond b (Some Order) None) free;
    }

-- ---- an authority's place

below_all : (name sid : List ℕ) (l : List HashAlg) → list_all (λ e. may_follow e (signer name sid)) (map algorithm l) ≡ true
below_all name sid [] = refl
below_all name sid (a ∷ l) = below_all name sid l

shares_none : (name sid : List ℕ) (l : List HashAlg) (m : List Subject) → list_any (λ e. share_sid e (signer name sid)) (map algorithm l ++ m) ≡ list_any (λ e. share_sid e (signer name sid)) m
shares_none name sid [] m = refl
shares_none name sid (a ∷ l) m = shares_none name sid l m

counted : (l : List HashAlg) (m : List Signer) → count_by is_signer (map algorithm l ++ map about m) ≡ length m
counted [] m = sym (is_count_by length_of is_signer refl step (map about m)) ∙ long m
  where
    length_of : List Subject → ℕ
    length_of [] = 0
    length_of (x ∷ xs) = cond (is_signer x) (1 + length_of xs) (length_of xs)

    step : (x : Subject) (xs : List Subject) → length_of (x ∷ xs) ≡ cond (is_signer x) (1 + length_of xs) (length_of xs)
    step x xs = refl

    long : (m : List Signer) → length_of (map about m) ≡ length m
    long [] = refl
    long (s ∷ m) = ap (λ n. 1 + n) (long m) ∙ add_comm 1 (length m) ∙ add-one (length m)
counted (a ∷ l) m = counted l m

-- after these algorithms and authorities
pub signer_after : (front : List HashAlg) (l : List Signer) (name sid : List ℕ)
    → place_fault (map algorithm front ++ map about l) (signer name sid)
    ≡ cond (not (list_all (λ s. is_below s.name name) l)) (Some Order) (cond (list_any (λ s. bytes_eq s.sid sid) l) (Some Twice) (cond (nat_le 64 (length l)) (Some TooMany) None))
signer_after front l name sid i = cond (not (order i)) (Some Order) (cond (twice i) (Some Twice) (cond (nat_le 64 (counted front l i)) (Some TooMany) None))
  where
    order : list_all (λ e. may_follow e (signer name sid)) (map algorithm front ++ map about l) ≡ list_all (λ s. is_below s.name name) l
    order =
        all_joined (λ e. may_follow e (signer name sid)) (map algorithm front) (map about l)
        ∙ (λ i. below_all name sid front i && all_mapped (λ e. may_follow e (signer name sid)) about l i)

    twice : list_any (λ e. share_sid e (signer name sid)) (map algorithm front ++ map about l) ≡ list_any (λ s. bytes_eq s.sid sid) l
    twice = shares_none name sid front (map about l) ∙ any_mapped (λ e. share_sid e (signer name sid)) about l

pub signer_place : (c : Content) (name sid : List ℕ) → place_fault (subjects c) (signer name sid) ≡ signer_fault c name sid
signer_place c name sid = ap (λ l. place_fault l (signer name sid)) (subjects_are c) ∙ signer_after (algs c) c.signers name sid

-- ---- one authority more

pub all_more : {A : Type 0} (P : A → Type 0) (xs : List A) (y : A) → AllByRecursion P xs → P y → AllByRecursion P (xs ++ y ∷ [])
all_more P [] y h k = (k, tt)
all_more P (x ∷ xs) y h k = (h.0, all_more P xs y h.1 k)

pub pairs_more : {A : Type 0} (test : A → A → Bool) (xs : List A) (y : A) → all_pairs test xs ≡ true → list_all (λ x. test x y) xs ≡ true → all_pairs test (xs ++ y ∷ []) ≡ true
pairs_more test [] y h k = refl
pairs_more test (x ∷ xs) y h k =
    let a = and_parts (list_all (test x) xs) (all_pairs test xs) h in
    let b = and_parts (test x y) (list_all (λ z. test z y) xs) k in
    and_from _ _
    (all_joined (test x) xs (y ∷ []) ∙ and_from _ _ a.0 (and_from (test x y) true b.0 refl))
    (pairs_more test xs y a.1 b.1)

no_one : {A : Type 0} (test : A → Bool) (xs : List A) → list_any test xs ≡ false → list_all (λ x. not (test x)) xs ≡ true
no_one test [] h = refl
no_one test (x ∷ xs) h = let p = or_parts (test x) (list_any test xs) h in and_from _ _ (not_from_false (test x) p.0) (no_one test xs p.1)

pub valid_signer : (c : Content) (s : Signer) → MayCome c s → IsPolicy (with_signer c s)
valid_signer c s h =
    let few = h.few in
    record {
      signers = all_more IsSigner c.signers s h.valid.signers h.is;
      ascending = pairs_more (λ a b. is_below a.name b.name) c.signers s h.valid.ascending h.below;
      distinct = pairs_more (λ a b. not (bytes_eq a.sid b.sid)) c.signers s h.valid.distinct (no_one (λ x. bytes_eq x.sid s.sid) c.signers h.new);
      few = omega (arith, length-append c.signers (s ∷ []));
    }

pub adds_signer : (c d : Content) (s : Signer) → d ≡ with_signer c s → MayCome c s → Adds c d (Authority s)
adds_signer c d s is h =
    let front = (named Sha256 c.sha256 ++ named Sha384 c.sha384) ++ named Sha512 c.sha512 in
    record {
      valid = rw is (valid_signer c s h);
      added = ap policy_lines is ∙ ap (λ l. front ++ l) (map_joined Authority c.signers (s ∷ [])) ∙ sym (append_assoc front (map Authority c.signers) (Authority s ∷ []));
      placed =
          signer_place c s.name s.sid
          ∙ (λ i. cond (not (h.below i)) (Some Order) (cond (h.new i) (Some Twice) (cond (lt-leb 64 (length c.signers) h.few i) (Some TooMany) None)));
    }

-- ---- how many policy_lines there are

at_most_one : (alg : HashAlg) (end : Option Moment) → length (named alg end) ≤ 1
at_most_one alg None = omega arith
at_most_one alg (Some end) = omega arith

as_many : (l : List Signer) → length (map Authority l) ≡ length l
as_many [] = refl
as_many (s ∷ l) = ap suc (as_many l)

pub few_lines : (c : Content) → IsPolicy c → length (policy_lines c) ≤ 67
few_lines c valid =
    let few = valid.few in
    let a = named Sha256 c.sha256 in
    let b = named Sha384 c.sha384 in
    let d = named Sha512 c.sha512 in
    omega (arith, length-append ((a ++ b) ++ d) (map Authority c.signers), length-append (a ++ b) d, length-append a b, at_most_one Sha256 c.sha256, at_most_one Sha384 c.sha384, at_most_one Sha512 c.sha512, as_many c.signers, few)

-- ---- what is answered for an authority that is kept out

pub blamed : (r : Result (Unit {0}) LineFault) (fault : Option PolicyKind) → IfErr r (λ f. f ≡ refusal fault) → IfErr r (λ f. Blames f fault)
blamed (Ok x) fault h = tt
blamed (Err f) fault h = rw h (refused fault)
  where
    refused : (fault : Option PolicyKind) → Blames (refusal fault) fault
    refused None = tt
    refused (Some kind) = refl
