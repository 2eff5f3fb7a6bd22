-- A text and its policy: no fault, and neither has two of the other.
use Rattle.std.proofs.Common.{◌≡◌, ℕ, ◌+◌, ◌<◌, ◌≤◌, Bool, true, false, not, cond, nat_lt, List, [], ◌∷◌, ◌++◌, length, map, Option, Some, None, Ok, Result, ◌==◌, Vec, Global, ◌⊎◌, inl, inr, Err, IfOk, IfErr, subst, refl, sym, ap, ◌∙◌, arith, append_assoc, append-nil, length-append}
use Rattle.std.specs.List.{list_all, list_any, AllByRecursion}
use Rattle.std.specs.Str.{bytes_eq}
use Rattle.std.proofs.lemmas.Bool.{and_parts, and_from, or_from, lt-leb, not-true}
use Rattle.std.proofs.lemmas.List.Splits.{slice_split_at}
use Rattle.civil_moment.specs.declared.moment.Moment.{Moment}
use Rattle.civil_moment.specs.Moment.{Text}
use Rattle.civil_moment.proofs.FirstFault.{one_moment}
use Rattle.civil_moment.proofs.Unique.{one_text as one_time}
use Rattle.hash_kit.specs.declared.algorithm.HashAlg.{HashAlg}
use Rattle.hash_kit.specs.declared.algorithm.HashAlg.TheVariants.{Sha256, Sha384, Sha512}
use Rattle.hex.specs.Hex.{IsBytes, encode_lower}
use Rattle.algorithm_policy.specs.declared.signer.Signer.{Signer}
use Rattle.algorithm_policy.specs.declared.policy_line.PolicyLine.{PolicyLine}
use Rattle.algorithm_policy.specs.declared.policy_line.PolicyLine.TheVariants.{Hash, Authority}
use Rattle.algorithm_policy.specs.declared.fault.PolicyKind.{PolicyKind}
use Rattle.algorithm_policy.specs.declared.fault.PolicyKind.TheVariants.{Order, Twice, TooMany}
use Rattle.algorithm_policy.specs.declared.fault.PolicyFault.{PolicyFault}
use Rattle.algorithm_policy.specs.declared.fault.PolicyFault.TheVariants.{At, Memory}
use Rattle.algorithm_policy.specs.Words.{bytes_of}
use Rattle.algorithm_policy.specs.Content.{Content, IsSigner, IsPolicy, is_below, all_pairs}
use Rattle.algorithm_policy.specs.Text.{header, ended, end_of, line_of, LineText, LinesText, named, policy_lines, PolicyText}
use Rattle.algorithm_policy.specs.Fault.{parts, place_fault, Subject, algorithm, fault_in, fault_of_lines, first_fault}
use Rattle.algorithm_policy.specs.Inside.{Names, IsPolicyLine, line_subject, subjects}
use Rattle.algorithm_policy.proofs.PlaceLemmas.{map_joined, one, about, subjects_are, signer_after}
use Rattle.algorithm_policy.proofs.Splitting.{some_part}
use Rattle.algorithm_policy.proofs.LineLemmas.{form_with, again, none_at, bytes_again}
use Rattle.algorithm_policy.proofs.ReadLemmas.{step, sound_goes, goes}

-- ---- the lines of a text

first_line : (line rest : List ℕ) → list_all (λ b. nat_lt 31 b) line ≡ true → parts 10 (line ++ 10 ∷ rest) ≡ line ∷ parts 10 rest
first_line line rest h = slice_split_at (λ b. b == 10) line 10 rest (none_at 31 10 line (omega arith) h) refl

entries_valid : (l : List Signer) → AllByRecursion IsSigner l → AllByRecursion IsPolicyLine (map Authority l)
entries_valid [] h = tt
entries_valid (s ∷ l) h = (h.0, entries_valid l h.1)

pub all_valid : (c : Content) → IsPolicy c → AllByRecursion IsPolicyLine (policy_lines c)
all_valid c valid = by_ends c.sha256 c.sha384 c.sha512 (entries_valid c.signers valid.signers)
  where
    by_ends : (a b d : Option Moment) → AllByRecursion IsPolicyLine (map Authority c.signers) → AllByRecursion IsPolicyLine (named Sha256 a ++ named Sha384 b ++ named Sha512 d ++ map Authority c.signers)
    by_ends None None None h = h
    by_ends None None (Some z) h = (tt, h)
    by_ends None (Some y) None h = (tt, h)
    by_ends None (Some y) (Some z) h = (tt, (tt, h))
    by_ends (Some x) None None h = (tt, h)
    by_ends (Some x) None (Some z) h = (tt, (tt, h))
    by_ends (Some x) (Some y) None h = (tt, (tt, h))
    by_ends (Some x) (Some y) (Some z) h = (tt, (tt, (tt, h)))

pub split_lines : (lines : List (List ℕ)) (es : List PolicyLine) → LinesText lines es → AllByRecursion IsPolicyLine es → parts 10 (ended lines) ≡ lines ++ [] ∷ []
split_lines [] [] h k = refl
split_lines [] (e ∷ es) h k = absurd h
split_lines (line ∷ lines) [] h k = absurd h
split_lines (line ∷ lines) (e ∷ es) h k =
    first_line line (ended lines) (again line e k.0 h.0).no_feed ∙ ap (λ l. line ∷ l) (split_lines lines es h.1 k.1)

-- ---- each said is in its place

-- nothing is wrong with the place of any of them, one after the other
abbrev Placed : List Subject → List Subject → Type 0
Placed before [] = Unit {0}
Placed before (s ∷ rest) = (place_fault before s ≡ None) × Placed (before ++ s ∷ []) rest

before_one : {A : Type 0} (test : A → A → Bool) (done : List A) (x : A) (todo : List A) → all_pairs test (done ++ x ∷ todo) ≡ true → list_all (λ y. test y x) done ≡ true
before_one test [] x todo h = refl
before_one {A = A} test (y ∷ done) x todo h =
    let parts = and_parts (list_all (test y) (done ++ x ∷ todo)) _ h in
    and_from _ _ (at done parts.0) (before_one test done x todo parts.1)
  where
    at : (done : List A) → list_all (test y) (done ++ x ∷ todo) ≡ true → test y x ≡ true
    at [] k = (and_parts (test y x) _ k).0
    at (z ∷ done) k = at done (and_parts (test y z) _ k).1

some_other : {A : Type 0} (test : A → Bool) (xs : List A) → list_all (λ x. not (test x)) xs ≡ true → list_any test xs ≡ false
some_other test [] h = refl
some_other test (x ∷ xs) h = let p = and_parts (not (test x)) _ h in or_from _ _ (not-true (test x) p.0) (some_other test xs p.1)

signers_placed : (front : List HashAlg) (done todo : List Signer) → all_pairs (λ a b. is_below a.name b.name) (done ++ todo) ≡ true → all_pairs (λ a b. not (bytes_eq a.sid b.sid)) (done ++ todo) ≡ true → length (done ++ todo) ≤ 64
    → Placed (map algorithm front ++ map about done) (map about todo)
signers_placed front done [] up apart few = tt
signers_placed front done (s ∷ todo) up apart few =
    let below = before_one (λ a b. is_below a.name b.name) done s todo up in
    let new = some_other (λ x. bytes_eq x.sid s.sid) done (before_one (λ a b. not (bytes_eq a.sid b.sid)) done s todo apart) in
    let fewer : length done < 64 = omega (arith, length-append done (s ∷ todo), few) in
    let regroup = append_assoc done (s ∷ []) todo in (
      signer_after front done s.name s.sid ∙ (λ i. cond (not (below i)) (Some Order) (cond (new i) (Some Twice) (cond (lt-leb 64 (length done) fewer i) (Some TooMany) None))),
      let P : List Subject → Type 0 = λ l. Placed l (map about todo) in
          subst P
          (ap (λ l. map algorithm front ++ l) (map_joined about done (s ∷ [])) ∙ sym (append_assoc (map algorithm front) (map about done) (about s ∷ [])))
          (signers_placed front (done ++ s ∷ []) todo (ap (all_pairs (λ a b. is_below a.name b.name)) regroup ∙ up) (ap (all_pairs (λ a b. not (bytes_eq a.sid b.sid))) regroup ∙ apart) (rw regroup few)),
    )

all_placed : (c : Content) → IsPolicy c → Placed [] (subjects c)
all_placed c valid =
    let P : List Subject → Type 0 = λ l. Placed [] l in
    subst P (sym (subjects_are c)) (by_ends c.sha256 c.sha384 c.sha512 (λ front.
    let Q : List Subject → Type 0 = λ l. Placed l (map about c.signers) in
    subst Q (append-nil (map algorithm front)) (signers_placed front [] c.signers valid.ascending valid.distinct valid.few)))
  where
    by_ends : (a b d : Option Moment) → ((front : List HashAlg) → Placed (map algorithm front) (map about c.signers))
        → Placed [] (map algorithm ((one Sha256 a ++ one Sha384 b) ++ one Sha512 d) ++ map about c.signers)
    by_ends None None None h = h []
    by_ends None None (Some z) h = (refl, h (Sha512 ∷ []))
    by_ends None (Some y) None h = (refl, h (Sha384 ∷ []))
    by_ends None (Some y) (Some z) h = (refl, (refl, h (Sha384 ∷ Sha512 ∷ [])))
    by_ends (Some x) None None h = (refl, h (Sha256 ∷ []))
    by_ends (Some x) None (Some z) h = (refl, (refl, h (Sha256 ∷ Sha512 ∷ [])))
    by_ends (Some x) (Some y) None h = (refl, (refl, h (Sha256 ∷ Sha384 ∷ [])))
    by_ends (Some x) (Some y) (Some z) h = (refl, (refl, (refl, h (Sha256 ∷ Sha384 ∷ Sha512 ∷ []))))

-- ---- a text of a policy has no fault

lines_sound : (number : ℕ) (before : List Subject) (lines : List (List ℕ)) (es : List PolicyLine) → LinesText lines es → AllByRecursion IsPolicyLine es → Placed before (map line_subject es)
    → fault_in number before (parts 10 (ended lines)) ≡ None
unfolding fault_in
lines_sound number before [] [] h k p = refl
lines_sound number before [] (e ∷ es) h k p = absurd h
lines_sound number before (line ∷ lines) [] h k p = absurd h
lines_sound number before (line ∷ lines) (e ∷ es) h k p =
    let a = again line e k.0 h.0 in
    step number before (line ++ 10 ∷ ended lines) line (ended lines) (first_line line (ended lines) a.no_feed)
    ∙ ap (goes number before (parts 10 (ended lines))) a.form
    ∙ sound_goes number before (parts 10 (ended lines)) (form_with e h.0.time) a.sound None (ap (place_fault before) a.subject ∙ p.0)
    ∙ ap (λ s. fault_in (number + 1) (before ++ s ∷ []) (parts 10 (ended lines))) a.subject
    ∙ lines_sound (number + 1) (before ++ line_subject e ∷ []) lines es h.1 k.1 p.1

pub no_fault : (text : List ℕ) (c : Content) → PolicyText text c → first_fault text ≡ None
unfolding fault_of_lines
no_fault text c t =
    let valid = all_valid c t.valid in
    let rest = some_part 10 (ended t.lines) in
    ap first_fault t.spelled
    ∙ ap fault_of_lines (first_line header (ended t.lines) refl ∙ ap (λ l. header ∷ l) rest.is)
    ∙ ap (fault_in 2 []) (sym rest.is)
    ∙ lines_sound 2 [] t.lines (policy_lines c) t.say valid (all_placed c t.valid)

-- ---- no text is two policies

same_bytes : (a b : List ℕ) → IsBytes a → IsBytes b → encode_lower a ≡ encode_lower b → a ≡ b
same_bytes a b h k e = sym (bytes_again a h) ∙ ap bytes_of e ∙ bytes_again b k

some_is : {A : Type 0} (a b : A) → ◌≡◌ {A = Option A} (Some a) (Some b) → a ≡ b
some_is a b e = cc

same_signer : (s r : Signer) → s.name ≡ r.name → s.sid ≡ r.sid → s.key ≡ r.key → s.cert ≡ r.cert → s.end ≡ r.end → s ≡ r
same_signer s r a b d e f i = record { name = a i; sid = b i; key = d i; cert = e i; end = f i }

one_entry : (e f : PolicyLine) (t u : List ℕ) → IsPolicyLine e → IsPolicyLine f → Text t (end_of e) → Text u (end_of f) → form_with e t ≡ form_with f u → e ≡ f
one_entry (Hash a x) (Hash b y) t u h k p q e =
    let alg : a ≡ b = cc in
    let time : t ≡ u = cc in
    let end = one_moment u x y (rw (← time) p) q in
    (λ i. Hash (alg i) (end i))
one_entry (Hash a x) (Authority r) t u h k p q e = cc e
one_entry (Authority s) (Hash b y) t u h k p q e = cc e
one_entry (Authority s) (Authority r) t u h k p q e =
    let name : s.name ≡ r.name = cc in
    let sid : encode_lower s.sid ≡ encode_lower r.sid = cc in
    let key : encode_lower s.key ≡ encode_lower r.key = cc in
    let cert : encode_lower s.cert ≡ encode_lower r.cert = cc in
    let time : t ≡ u = cc in
    ap Authority (same_signer s r name (same_bytes s.sid r.sid h.sid_bytes k.sid_bytes sid) (same_bytes s.key r.key h.key_bytes k.key_bytes key) (same_bytes s.cert r.cert h.cert_bytes k.cert_bytes cert)
    (one_moment u s.end r.end (rw (← time) p) q))

same_entry : (line : List ℕ) (e f : PolicyLine) → IsPolicyLine e → IsPolicyLine f → LineText line e → LineText line f → e ≡ f
same_entry line e f h k p q =
    one_entry e f p.time q.time h k p.end q.end (some_is _ _ (sym (again line e h p).form ∙ (again line f k q).form))

same_entries : (lines : List (List ℕ)) (es fs : List PolicyLine) → AllByRecursion IsPolicyLine es → AllByRecursion IsPolicyLine fs → LinesText lines es → LinesText lines fs → es ≡ fs
same_entries [] [] [] h k p q = refl
same_entries [] [] (f ∷ fs) h k p q = absurd q
same_entries [] (e ∷ es) fs h k p q = absurd p
same_entries (line ∷ lines) [] fs h k p q = absurd p
same_entries (line ∷ lines) (e ∷ es) [] h k p q = absurd q
same_entries (line ∷ lines) (e ∷ es) (f ∷ fs) h k p q = (λ i. same_entry line e f h.0 k.0 p.0 q.0 i ∷ same_entries lines es fs h.1 k.1 p.1 q.1 i)

without_last : List (List ℕ) → List (List ℕ)
without_last [] = []
without_last (x ∷ []) = []
without_last (x ∷ y ∷ more) = x ∷ without_last (y ∷ more)

last_away : (lines : List (List ℕ)) → without_last (lines ++ [] ∷ []) ≡ lines
unfolding without_last
last_away [] = refl
last_away (x ∷ []) = refl
last_away (x ∷ y ∷ more) = ap (λ l. x ∷ l) (last_away (y ∷ more))

-- what the policy_lines say of each part
end_in : HashAlg → List PolicyLine → Option Moment
end_in Sha256 (Hash Sha256 end ∷ es) = Some end
end_in Sha384 (Hash Sha384 end ∷ es) = Some end
end_in Sha512 (Hash Sha512 end ∷ es) = Some end
end_in alg (e ∷ es) = end_in alg es
end_in alg [] = None

signers_in : List PolicyLine → List Signer
signers_in [] = []
signers_in (Hash alg end ∷ es) = signers_in es
signers_in (Authority s ∷ es) = s ∷ signers_in es

no_end : (alg : HashAlg) (l : List Signer) → end_in alg (map Authority l) ≡ None
unfolding end_in
no_end Sha256 [] = refl
no_end Sha384 [] = refl
no_end Sha512 [] = refl
no_end Sha256 (s ∷ l) = no_end Sha256 l
no_end Sha384 (s ∷ l) = no_end Sha384 l
no_end Sha512 (s ∷ l) = no_end Sha512 l

signers_are : (l : List Signer) → signers_in (map Authority l) ≡ l
unfolding signers_in
signers_are [] = refl
signers_are (s ∷ l) = ap (λ t. s ∷ t) (signers_are l)

record Parts (es : List PolicyLine) (a b d : Option Moment) (l : List Signer) : Type 0 where
  first : end_in Sha256 es ≡ a
  second : end_in Sha384 es ≡ b
  third : end_in Sha512 es ≡ d
  rest : signers_in es ≡ l

parts_are : (a b d : Option Moment) (l : List Signer) → Parts (named Sha256 a ++ named Sha384 b ++ named Sha512 d ++ map Authority l) a b d l
unfolding end_in signers_in
parts_are None None None l = record { first = no_end Sha256 l; second = no_end Sha384 l; third = no_end Sha512 l; rest = signers_are l }
parts_are None None (Some z) l = record { first = no_end Sha256 l; second = no_end Sha384 l; third = refl; rest = signers_are l }
parts_are None (Some y) None l = record { first = no_end Sha256 l; second = refl; third = no_end Sha512 l; rest = signers_are l }
parts_are None (Some y) (Some z) l = record { first = no_end Sha256 l; second = refl; third = refl; rest = signers_are l }
parts_are (Some x) None None l = record { first = refl; second = no_end Sha384 l; third = no_end Sha512 l; rest = signers_are l }
parts_are (Some x) None (Some z) l = record { first = refl; second = no_end Sha384 l; third = refl; rest = signers_are l }
parts_are (Some x) (Some y) None l = record { first = refl; second = refl; third = no_end Sha512 l; rest = signers_are l }
parts_are (Some x) (Some y) (Some z) l = record { first = refl; second = refl; third = refl; rest = signers_are l }

same_content : (c d : Content) → policy_lines c ≡ policy_lines d → c ≡ d
same_content c d e i =
    let p = parts_are c.sha256 c.sha384 c.sha512 c.signers in
    let q = parts_are d.sha256 d.sha384 d.sha512 d.signers in
    record {
      sha256 = (sym p.first ∙ ap (end_in Sha256) e ∙ q.first) i;
      sha384 = (sym p.second ∙ ap (end_in Sha384) e ∙ q.second) i;
      sha512 = (sym p.third ∙ ap (end_in Sha512) e ∙ q.third) i;
      signers = (sym p.rest ∙ ap signers_in e ∙ q.rest) i;
    }

all_lines : (text : List ℕ) (c : Content) → (t : PolicyText text c) → parts 10 text ≡ header ∷ t.lines ++ [] ∷ []
all_lines text c t = ap (parts 10) t.spelled ∙ first_line header (ended t.lines) refl ∙ ap (λ l. header ∷ l) (split_lines t.lines (policy_lines c) t.say (all_valid c t.valid))

behind : List (List ℕ) → List (List ℕ)
behind [] = []
behind (x ∷ xs) = without_last xs

lines_behind : (text : List ℕ) (c : Content) → (t : PolicyText text c) → behind (parts 10 text) ≡ t.lines
unfolding behind
lines_behind text c t = ap behind (all_lines text c t) ∙ last_away t.lines

pub one_policy : (text : List ℕ) (c d : Content) → PolicyText text c → PolicyText text d → c ≡ d
one_policy text c d t u =
    let lines = sym (lines_behind text c t) ∙ lines_behind text d u in
    let P : List (List ℕ) → Type 0 = λ l. LinesText l (policy_lines c) in
    same_content c d (same_entries u.lines (policy_lines c) (policy_lines d) (all_valid c t.valid) (all_valid d u.valid) (subst P lines t.say) u.say)

-- ---- no policy is two texts

same_line : (a b : List ℕ) (e : PolicyLine) → LineText a e → LineText b e → a ≡ b
same_line a b e p q = p.spelled ∙ ap (line_of e) (one_time (end_of e) p.time q.time p.end q.end) ∙ sym q.spelled

same_lines : (a b : List (List ℕ)) (es : List PolicyLine) → LinesText a es → LinesText b es → a ≡ b
same_lines [] [] [] p q = refl
same_lines [] (m ∷ b) [] p q = absurd q
same_lines (l ∷ a) b [] p q = absurd p
same_lines [] b (e ∷ es) p q = absurd p
same_lines (l ∷ a) [] (e ∷ es) p q = absurd q
same_lines (l ∷ a) (m ∷ b) (e ∷ es) p q = (λ i. same_line l m e p.0 q.0 i ∷ same_lines a b es p.1 q.1 i)

pub one_text : (a b : List ℕ) (c : Content) → PolicyText a c → PolicyText b c → a ≡ b
one_text a b c t u = t.spelled ∙ ap (λ l. ended (header ∷ l)) (same_lines t.lines u.lines (policy_lines c) t.say u.say) ∙ sym u.spelled

-- ---- what a reader answers

pub only_reads : (text : List ℕ) (r : Result Content PolicyFault) → IfOk r (PolicyText text) → IfErr r (λ f. Names f (first_fault text)) → (c : Content) → PolicyText text c → (r ≡ Ok c) ⊎ (r ≡ Err Memory)
only_reads text (Ok d) found fault c t = inl (ap Ok (one_policy text d c found t))
only_reads text (Err Memory) found fault c t = inr refl
only_reads text (Err (At line kind)) found fault c t = let e = sym fault ∙ no_fault text c t in cc

pub only_refuses : (text : List ℕ) (r : Result Content PolicyFault) → IfOk r (PolicyText text) → IfErr r (λ f. Names f (first_fault text)) → (line : ℕ) (kind : PolicyKind) → first_fault text ≡ Some (line, kind)
    → (r ≡ Err (At line kind)) ⊎ (r ≡ Err Memory)
only_refuses text (Ok d) found fault line kind h = let e = sym h ∙ no_fault text d found in cc
only_refuses text (Err Memory) found fault line kind h = inr refl
only_refuses text (Err (At n k)) found fault line kind h =
    let same = some_is (n, k) (line, kind) (sym fault ∙ h) in
    inl (λ i. Err (At ((same i).0) ((same i).1)))

-- ---- what a writer answers

pub only_writes : {E : Type 0} (r : Result (Vec ℕ Global) E) (c : Content) → IfOk r (λ text. PolicyText text.items c) → IfOk r (λ text. (other : List ℕ) → PolicyText other c → other ≡ text.items)
only_writes (Ok text) c h = λ other t. one_text other text.items c t h
only_writes (Err e) c h = tt
