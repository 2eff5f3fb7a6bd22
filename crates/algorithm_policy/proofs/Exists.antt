-- A text without a fault is the text of a policy.
use Rattle.std.proofs.Common.{◌≡◌, ℕ, ◌+◌, Bool, true, false, not, ◌&&◌, cond, nat_le, List, [], ◌∷◌, ◌++◌, length, map, Option, Some, None, is_none, refl, sym, ap, ◌∙◌, arith, append_assoc, append-nil}
use Rattle.std.specs.List.{list_all, list_any, join_with_byte}
use Rattle.std.specs.Str.{bytes_eq}
use Rattle.std.proofs.lemmas.Bool.{leb-false}
use Rattle.std.proofs.lemmas.List.Splits.{join_with_byte-slice_split}
use Rattle.std.proofs.lemmas.Slice.Eq.{bytes_eq-Decides}
use Rattle.civil_moment.specs.declared.moment.Moment.{Moment}
use Rattle.civil_moment.specs.declared.fault.TimeFault.{TimeFault}
use Rattle.civil_moment.specs.Moment.{Text}
use Rattle.civil_moment.specs.Fault.{first_fault as time_fault}
use Rattle.civil_moment.proofs.Said.{said}
use Rattle.hash_kit.specs.declared.algorithm.HashAlg.{HashAlg}
use Rattle.hash_kit.specs.declared.algorithm.HashAlg.TheVariants.{Sha256, Sha384, Sha512}
use Rattle.der_values.specs.Next.{is_empty}
use Rattle.algorithm_policy.specs.declared.signer.Signer.{Signer}
use Rattle.algorithm_policy.specs.declared.policy_line.PolicyLine.{PolicyLine}
use Rattle.algorithm_policy.specs.declared.policy_line.PolicyLine.TheVariants.{Hash, Authority}
use Rattle.algorithm_policy.specs.declared.fault.PolicyKind.{PolicyKind}
use Rattle.algorithm_policy.specs.declared.fault.PolicyKind.TheVariants.{Header, Form, Name, Hex, Sid, Key, Cert, Date, Order, Twice, TooMany}
use Rattle.algorithm_policy.specs.Words.{is_name, is_hex, is_sid, is_key, is_cert, is_time, bytes_of}
use Rattle.algorithm_policy.specs.Content.{Content, IsPolicy, is_below, empty}
use Rattle.algorithm_policy.specs.Text.{header, ended, LinesText, policy_lines, PolicyText}
use Rattle.algorithm_policy.specs.Fault.{Line, hash, authority, form_of, parts, words, word_fault, place_fault, line_fault, or_else, subject_of, Subject, fault_in, fault_of_lines, first_fault}
use Rattle.algorithm_policy.specs.Change.{with_end, with_signer}
use Rattle.algorithm_policy.specs.Inside.{IsPolicyLine, SaysLine, Adds, MayCome, next_fault, line_subject, subjects, names_from}
use Rattle.algorithm_policy.proofs.PolicyLineLemmas.{Sound, says_signer, says_hash, says_authority}
use Rattle.algorithm_policy.proofs.PlaceLemmas.{map_joined, hash_place, signer_place, adds_hash, adds_signer}

-- ---- what a line says

pub record Found (line : List ℕ) (form : Line) : Type 0 where
  pub said : PolicyLine
  pub says : SaysLine line said
  pub subject : subject_of form ≡ line_subject said

sound_words : (a b c d e : List ℕ) → word_fault (authority a b c d e) ≡ None → Sound a b c d e
sound_words a b c d e h = by_tests (is_name a) (is_hex b && is_hex c && is_hex d) (is_sid (bytes_of b)) (is_key (bytes_of c)) (is_cert (bytes_of d)) (is_time e) refl refl refl refl refl refl h
  where
    by_tests : (n x s k t m : Bool) → is_name a ≡ n → (is_hex b && is_hex c && is_hex d) ≡ x → is_sid (bytes_of b) ≡ s → is_key (bytes_of c) ≡ k → is_cert (bytes_of d) ≡ t → is_time e ≡ m
        → cond (not n) (Some Name) (cond (not x) (Some Hex) (cond (not s) (Some Sid) (cond (not k) (Some Key) (cond (not t) (Some Cert) (cond (not m) (Some Date) None))))) ≡ None → Sound a b c d e
    by_tests true true true true true true n x s k t m h = record { name = n; hex = x; sid = s; key = k; cert = t; end = m }
    by_tests true true true true true false n x s k t m h = cc h
    by_tests true true true true false m2 n x s k t m h = cc h
    by_tests true true true false t2 m2 n x s k t m h = cc h
    by_tests true true false k2 t2 m2 n x s k t m h = cc h
    by_tests true false s2 k2 t2 m2 n x s k t m h = cc h
    by_tests false x2 s2 k2 t2 m2 n x s k t m h = cc h

timed : (e : List ℕ) → cond (is_time e) None (Some Date) ≡ None → is_time e ≡ true
timed e h = at (is_time e) refl h
  where
    at : (b : Bool) → is_time e ≡ b → cond b None (Some Date) ≡ None → is_time e ≡ true
    at true is h = is
    at false is h = cc h

-- a time says a moment
moment_said : (word : List ℕ) → is_time word ≡ true → (moment : Moment) × Text word moment
unfolding is_time
moment_said word h = said word (none_is (time_fault word) h)
  where
    none_is : (o : Option TimeFault) → is_none o ≡ true → o ≡ None
    none_is None h = refl
    none_is (Some fault) h = cc

found : (line : List ℕ) (form : Line) → form_of (words line) ≡ Some form → word_fault form ≡ None → Found line form
found line (hash alg end) is sound =
    let ok = timed end sound in
    let m = moment_said end ok in
    record { said = Hash alg m.0; says = says_hash line alg end m.0 is m.1 ok; subject = refl }
found line (authority a b c d e) is sound =
    let s = sound_words a b c d e sound in
    let m = moment_said e s.end in
    let one : Signer = record { name = a; sid = bytes_of b; key = bytes_of c; cert = bytes_of d; end = m.0 } in
    record { said = Authority one; says = says_authority line a b c d e one is (says_signer a b c d e one s refl refl refl refl m.1); subject = refl }

-- ---- a policy that takes it in

pub record Taken (c : Content) (said : PolicyLine) : Type 0 where
  pub policy : Content
  pub adds : Adds c policy said

same_signers : (c : Content) (alg : HashAlg) (end : Moment) → IsPolicy c → IsPolicy (with_end c alg end)
same_signers c Sha256 end h = record { signers = h.signers; ascending = h.ascending; distinct = h.distinct; few = h.few }
same_signers c Sha384 end h = record { signers = h.signers; ascending = h.ascending; distinct = h.distinct; few = h.few }
same_signers c Sha512 end h = record { signers = h.signers; ascending = h.ascending; distinct = h.distinct; few = h.few }

free : (b : Bool) → cond b (Some Order) None ≡ None → b ≡ false
free true h = cc h
free false h = refl

taken : (c : Content) (said : PolicyLine) → IsPolicy c → IsPolicyLine said → next_fault c said ≡ None → Taken c said
taken c (Hash alg end) valid is h =
    record {
      policy = with_end c alg end;
      adds = adds_hash c (with_end c alg end) alg end refl (same_signers c alg end valid) (free (names_from c alg) (sym (hash_place c alg) ∙ h));
    }
taken c (Authority s) valid is h =
    record { policy = with_signer c s; adds = adds_signer c (with_signer c s) s refl (by_tests _ _ _ refl refl refl (sym (signer_place c s.name s.sid) ∙ h)) }
  where
    by_tests : (below twice full : Bool) → list_all (λ x. is_below x.name s.name) c.signers ≡ below → list_any (λ x. bytes_eq x.sid s.sid) c.signers ≡ twice → nat_le 64 (length c.signers) ≡ full
        → cond (not below) (Some Order) (cond twice (Some Twice) (cond full (Some TooMany) None)) ≡ None → MayCome c s
    by_tests true false false x y z h = record { valid = valid; is = is; below = x; new = y; few = leb-false 64 (length c.signers) z }
    by_tests true false true x y z h = cc h
    by_tests true true full x y z h = cc h
    by_tests false twice full x y z h = cc h

-- ---- line after line

pub record Grown (c : Content) (lines : List (List ℕ)) : Type 0 where
  pub policy : Content
  pub valid : IsPolicy policy
  pub more : List PolicyLine
  pub says : List (List ℕ)
  pub text : LinesText says more
  pub lines_are : lines ≡ says ++ [] ∷ []
  pub added : policy_lines policy ≡ policy_lines c ++ more

-- what the first fault is, by the fault of this line
abbrev after : ℕ → List Subject → List (List ℕ) → Line → Option PolicyKind → Option (ℕ × PolicyKind)
after number before rest form fault = elim fault as (λ _. Option (ℕ × PolicyKind)) [ Some kind ↦ Some (number, kind) | None ↦ fault_in (number + 1) (before ++ subject_of form ∷ []) rest ]

nothing : (line : List ℕ) → is_empty line ≡ true → line ≡ []
nothing [] h = refl
nothing (b ∷ bs) h = cc h

grown_by : (c : Content) (line : List ℕ) (form : Line) (lines : List (List ℕ)) (f : Found line form) (t : Taken c f.said) → Grown t.policy lines → Grown c (line ∷ lines)
grown_by c line form lines f t g = record {
  policy = g.policy;
  valid = g.valid;
  more = f.said ∷ g.more;
  says = line ∷ g.says;
  text = (f.says.text, g.text);
  lines_are = ap (λ l. line ∷ l) g.lines_are;
  added = g.added ∙ ap (λ l. l ++ g.more) t.adds.added ∙ append_assoc (policy_lines c) (f.said ∷ []) g.more;
}

next_line : (number : ℕ) (c : Content) → IsPolicy c → (line : List ℕ) (rest : List (List ℕ)) (o : Option Line) → form_of (words line) ≡ o
    → elim o as (λ _. Option (ℕ × PolicyKind)) [ None ↦ Some (number, Form) | Some form ↦ after number (subjects c) rest form (line_fault (subjects c) form) ] ≡ None
    → ((d : Content) → IsPolicy d → fault_in (number + 1) (subjects d) rest ≡ None → Grown d rest) → Grown c (line ∷ rest)
next_line number c valid line rest None is h go = cc h
next_line number c valid line rest (Some form) is h go = by_words (word_fault form) refl h
  where
    by_place : (w : word_fault form ≡ None) (p : Option PolicyKind) → place_fault (subjects c) (subject_of form) ≡ p → after number (subjects c) rest form p ≡ None → Grown c (line ∷ rest)
    by_place w (Some kind) place h = cc h
    by_place w None place h =
        let f = found line form is w in
        let t = taken c f.said valid f.says.valid (ap (place_fault (subjects c)) (sym f.subject) ∙ place) in
        let same : subjects c ++ subject_of form ∷ [] ≡ subjects t.policy =
        ap (λ s. subjects c ++ s ∷ []) f.subject ∙ sym (map_joined line_subject (policy_lines c) (f.said ∷ [])) ∙ ap (map line_subject) (sym t.adds.added) in
        grown_by c line form rest f t (go t.policy t.adds.valid (ap (λ l. fault_in (number + 1) l rest) (sym same) ∙ h))

    by_words : (w : Option PolicyKind) → word_fault form ≡ w → after number (subjects c) rest form (or_else w (place_fault (subjects c) (subject_of form))) ≡ None → Grown c (line ∷ rest)
    by_words (Some kind) w h = cc h
    by_words None w h = by_place w (place_fault (subjects c) (subject_of form)) refl h

grow : (rest : List (List ℕ)) (number : ℕ) (c : Content) → IsPolicy c → (line : List ℕ) → fault_in number (subjects c) (line ∷ rest) ≡ None → Grown c (line ∷ rest)
unfolding fault_in
grow [] number c valid line h = record {
  policy = c;
  valid = valid;
  more = [];
  says = [];
  text = tt;
  lines_are = ap (λ l. l ∷ []) (nothing line (at (is_empty line) refl h));
  added = sym (append-nil (policy_lines c));
}
  where
    at : (b : Bool) → is_empty line ≡ b → cond {A = Option (ℕ × PolicyKind)} b None (Some (number, Form)) ≡ None → is_empty line ≡ true
    at true is h = is
    at false is h = cc h
grow (next ∷ rest) number c valid line h =
    next_line number c valid line (next ∷ rest) (form_of (words line)) refl h (λ d is k. grow rest (number + 1) d is next k)

-- ---- the text

joined_lines : (says : List (List ℕ)) → join_with_byte 10 (says ++ [] ∷ []) ≡ ended says
joined_lines [] = refl
joined_lines (line ∷ []) = refl
joined_lines (line ∷ next ∷ rest) = ap (λ l. line ++ 10 ∷ l) (joined_lines (next ∷ rest))

pub record Policy (text : List ℕ) : Type 0 where
  pub policy : Content
  pub says : PolicyText text policy

all_lines : (lines : List (List ℕ)) → fault_of_lines lines ≡ None → (text : List ℕ) → join_with_byte 10 lines ≡ text → Policy text
unfolding fault_of_lines
all_lines [] h text is = cc h
all_lines (line ∷ []) h text is = cc h
all_lines (line ∷ next ∷ rest) h text is = at (bytes_eq line header) refl h
  where
    at : (b : Bool) → bytes_eq line header ≡ b → cond {A = Option (ℕ × PolicyKind)} b (fault_in 2 [] (next ∷ rest)) (Some (1, Header)) ≡ None → Policy text
    at false same h = cc h
    at true same h =
        let none : IsPolicy empty = record { signers = tt; ascending = refl; distinct = refl; few = omega arith } in
        let g = grow rest 2 empty none next h in
        record {
          policy = g.policy;
          says = record {
            valid = g.valid;
            lines = g.says;
            say = rw g.added g.text;
            spelled =
                sym is
                ∙ (λ i. join_with_byte 10 ((bytes_eq-Decides line header).0 same i ∷ g.lines_are i))
                ∙ joined_lines (header ∷ g.says);
          };
        }

pub policy_of : (text : List ℕ) → first_fault text ≡ None → Policy text
policy_of text h = all_lines (parts 10 text) h text (join_with_byte-slice_split 10 text)
