-- A verification: what is read is what stands there, and what is spelled is read.
use Rattle.std.proofs.Common.{◌≡◌, ℕ, zero, suc, ◌≤◌, Bool, true, false, List, [], ◌∷◌, ◌++◌, length, None, Result, Ok, Err, refl, sym, ap, subst, ◌∙◌, arith, ◌⊎◌, inl, inr}
use Rattle.std.specs.Prelude.{codes, if◌then◌else◌}
use Rattle.std.specs.List.{flat_map, AllByRecursion}
use Rattle.std.specs.Str.{bytes_eq}
use Rattle.std.proofs.lemmas.Slice.Eq.{bytes_eq-Decides}
use Rattle.civil_moment.specs.declared.moment.Moment.{Moment}
use Rattle.civil_moment.specs.Moment.{Text}
use Rattle.civil_moment.proofs.FirstFault.{one_moment}
use Rattle.der_values.specs.Next.{is_empty}
use Rattle.der_values.proofs.Values.{bind_ok, ok_is}
use Rattle.evidence_verify.specs.declared.verdict.Mode.{Mode}
use Rattle.evidence_verify.specs.declared.verdict.Mode.TheVariants.{Member, Whole}
use Rattle.session_text.specs.declared.shape.ShapeFault.{ShapeFault}
use Rattle.session_text.specs.declared.shape.ShapeKind.TheVariants.{Word}
use Rattle.session_text.specs.Unread.{Unread, Reading, shape_fault, followed}
use Rattle.session_text.specs.Words.{word_at, separator_on, keyword_at, time_at}
use Rattle.session_text.specs.Counted.{counted_at, counted_text}
use Rattle.algorithm_policy.specs.Text.{longest_policy}
use Rattle.evidence_syntax.specs.Record.{longest_record}
use Rattle.object_groups.specs.Groups.{longest_document}
use Rattle.session_text.specs.VerifyInput.{Verification, mode_text, document_text, IsVerification, mode_in, mode_at, document_at, documents_at, all_documents_at, VerifyParts, verify_at, from_start, fault_of, verify_first_fault}
use Rattle.session_text.specs.Inside.{ReadsTime}
use Rattle.session_text.proofs.Passing.{Passes, both, both_pass}
use Rattle.session_text.proofs.WordLemmas.{word_again, separator_again, behind_word, keyword_again, keyword_takes, time_again, time_takes}
use Rattle.session_text.proofs.CountedLemmas.{counted_takes, counted_again}

-- ---- the mode

mode_is : (place : ℕ) (word : List ℕ) (m : Mode) → mode_in place word ≡ Ok m → word ≡ mode_text m
unfolding mode_in
mode_is place word m e = first (bytes_eq word (codes "member")) (bytes_eq word (codes "whole")) refl refl e
  where
    first : (a b : Bool) → bytes_eq word (codes "member") ≡ a → bytes_eq word (codes "whole") ≡ b → (if a then Ok Member else if b then Ok Whole else shape_fault place Word) ≡ Ok m → word ≡ mode_text m
    first true b one other f = subst (λ (x : Mode). word ≡ mode_text x) (ok_is {F = ShapeFault} _ _ f) ((bytes_eq-Decides word (codes "member")).0 one)
    first false true one other f = subst (λ (x : Mode). word ≡ mode_text x) (ok_is {F = ShapeFault} _ _ f) ((bytes_eq-Decides word (codes "whole")).0 other)
    first false false one other f = absurd cc

mode_takes : (separator : ℕ) (before : Unread) (m : Mode) (after : Unread) → mode_at separator before ≡ Ok (m, after) → before.bytes ≡ mode_text m ++ separator ∷ after.bytes
unfolding mode_at
mode_takes separator before m after e =
    let a = bind_ok (word_at before) _ _ e in
    let b = bind_ok (mode_in before.place a.0.0) _ _ a.2 in
    let c = bind_ok (separator_on separator a.0.1.place a.0.1.bytes) _ _ b.2 in
    let same = ok_is {A = Mode × Unread} {F = ShapeFault} _ _ c.2 in
    let read = behind_word separator before a.0.0 a.0.1 c.0.0 c.0.1 a.1 c.1 ∙ ap (λ (l : List ℕ). l ++ separator ∷ c.0.1.bytes) (mode_is before.place a.0.0 b.0 b.1) in
    subst (λ (y : Mode × Unread). before.bytes ≡ mode_text y.0 ++ separator ∷ y.1.bytes) same read

mode_again : (place : ℕ) (m : Mode) (tail : List ℕ) → Passes m tail (mode_at 32 (record { place = place; bytes = mode_text m ++ 32 ∷ tail }))
unfolding mode_at mode_in
mode_again place Member tail =
    let word = word_again place (codes "member") 32 tail refl refl in
    let behind = separator_again 32 word.place tail in
    record { place = behind.place; is = rw (word.is, behind.is) refl }
mode_again place Whole tail =
    let word = word_again place (codes "whole") 32 tail refl refl in
    let behind = separator_again 32 word.place tail in
    record { place = behind.place; is = rw (word.is, behind.is) refl }

-- ---- the documents

abbrev IsDocument : List ℕ → Type 0
IsDocument d = length d ≤ longest_document

record DocumentsTaken (most : ℕ) (before : Unread) (ds : List (List ℕ)) : Type 0 where
  is : before.bytes ≡ flat_map document_text ds
  few : length ds ≤ most
  each : AllByRecursion IsDocument ds

nothing : (bytes : List ℕ) → is_empty bytes ≡ true → bytes ≡ []
nothing [] h = refl
nothing (b ∷ bytes) h = absurd cc

chosen : {A F : Type 0} (b : Bool) (x y : Result A F) (z : A) → (if b then x else y) ≡ Ok z → ((b ≡ true) × (x ≡ Ok z)) ⊎ ((b ≡ false) × (y ≡ Ok z))
chosen true x y z e = inl (refl, e)
chosen false x y z e = inr (refl, e)

documents_take : (most : ℕ) (before : Unread) (ds : List (List ℕ)) (after : Unread) → documents_at most before ≡ Ok (ds, after) → DocumentsTaken most before ds
unfolding documents_at
documents_take zero before ds after e = elim (chosen (is_empty before.bytes) _ _ _ e) [
  | inl none ↦
      let same = ok_is {A = List (List ℕ) × Unread} {F = ShapeFault} _ _ none.1 in
      subst (λ (y : List (List ℕ) × Unread). DocumentsTaken zero before y.0) same (record { is = nothing before.bytes none.0; few = omega arith; each = tt })
  | inr some ↦ absurd (let w = bind_ok (word_at before) _ _ some.1 in cc)
]
documents_take (suc most) before ds after e = elim (chosen (is_empty before.bytes) _ _ _ e) [
  | inl none ↦
      let same = ok_is {A = List (List ℕ) × Unread} {F = ShapeFault} _ _ none.1 in
      subst (λ (y : List (List ℕ) × Unread). DocumentsTaken (suc most) before y.0) same (record { is = nothing before.bytes none.0; few = omega arith; each = tt })
  | inr some ↦
      let a = bind_ok (document_at before) _ _ some.1 in
      let b = bind_ok (documents_at most a.0.1) _ _ a.2 in
      let one = counted_takes (codes "doc") longest_document before a.0.0 a.0.1 (omega arith) a.1 in
      let more = documents_take most a.0.1 b.0.0 b.0.1 b.1 in
      let same = ok_is {A = List (List ℕ) × Unread} {F = ShapeFault} _ _ b.2 in
      subst (λ (y : List (List ℕ) × Unread). DocumentsTaken (suc most) before y.0) same (record {
        is = one.is ∙ ap (λ (l : List ℕ). document_text a.0.0 ++ l) more.is;
        few = (let less = more.few in omega arith);
        each = (one.within, more.each);
      })
]

document_behind : (d : List ℕ) (tail : List ℕ) → is_empty (document_text d ++ tail) ≡ false
document_behind d tail = refl

documents_again : (place most : ℕ) (ds : List (List ℕ)) → length ds ≤ most → AllByRecursion IsDocument ds → Passes ds [] (documents_at most (record { place = place; bytes = flat_map document_text ds }))
unfolding documents_at
documents_again place zero [] few each = record { place = place; is = refl }
documents_again place zero (d ∷ ds) few each = absurd (omega arith)
documents_again place (suc most) [] few each = record { place = place; is = refl }
documents_again place (suc most) (d ∷ ds) few each =
    let one = counted_again place (codes "doc") longest_document d (flat_map document_text ds) refl each.0 (omega arith) in
    let more = documents_again one.place most ds (omega arith) each.1 in
    record { place = more.place; is = rw (document_behind d (flat_map document_text ds), one.is, more.is) refl }

-- ---- the whole

-- what stands behind each part
abbrev behind_record : List (List ℕ) → List ℕ
behind_record ds = flat_map document_text ds

abbrev behind_policy : List ℕ → List (List ℕ) → List ℕ
behind_policy evidence ds = counted_text (codes "record") evidence ++ behind_record ds

abbrev behind_time : List ℕ → List ℕ → List (List ℕ) → List ℕ
behind_time policy evidence ds = counted_text (codes "policy") policy ++ behind_policy evidence ds

abbrev behind_mode : List ℕ → List ℕ → List ℕ → List (List ℕ) → List ℕ
behind_mode time policy evidence ds = time ++ (10 ∷ behind_time policy evidence ds)

abbrev behind_verify : Mode → List ℕ → List ℕ → List ℕ → List (List ℕ) → List ℕ
behind_verify mode time policy evidence ds = mode_text mode ++ (32 ∷ behind_mode time policy evidence ds)

-- what stands behind a part is read in its turn
abbrev after_policy : Unread → Reading (List ℕ × (List ℕ × List (List ℕ)))
after_policy = followed (counted_at (codes "record") longest_record) all_documents_at

abbrev after_time : Unread → Reading (List ℕ × (List ℕ × (List ℕ × List (List ℕ))))
after_time = followed (counted_at (codes "policy") longest_policy) after_policy

abbrev after_mode : Unread → Reading (List ℕ × (List ℕ × (List ℕ × (List ℕ × List (List ℕ)))))
after_mode = followed (time_at 10) after_time

abbrev after_verify : Unread → Reading (Mode × (List ℕ × (List ℕ × (List ℕ × (List ℕ × List (List ℕ))))))
after_verify = followed (mode_at 32) after_mode

pub record VerifyTaken (bytes : List ℕ) (m : Mode) (time policy evidence first : List ℕ) (further : List (List ℕ)) : Type 0 where
  pub is : bytes ≡ codes "verify" ++ (32 ∷ behind_verify m time policy evidence (first ∷ further))
  pub policy_fits : length policy ≤ longest_policy
  pub evidence_fits : length evidence ≤ longest_record
  pub few : length further ≤ 63
  pub each : AllByRecursion IsDocument (first ∷ further)

pub verify_takes : (before : Unread) (y : VerifyParts) (after : Unread) → verify_at before ≡ Ok (y, after)
    → VerifyTaken before.bytes y.1.0 y.1.1.0 y.1.1.1.0 y.1.1.1.1.0 y.1.1.1.1.1.0 y.1.1.1.1.1.1
verify_takes before y after e =
    let a = both (keyword_at (codes "verify") 32) after_verify before y after e in
    let b = both (mode_at 32) after_mode a.middle y.1 after a.other in
    let c = both (time_at 10) after_time b.middle y.1.1 after b.other in
    let d = both (counted_at (codes "policy") longest_policy) after_policy c.middle y.1.1.1 after c.other in
    let f = both (counted_at (codes "record") longest_record) all_documents_at d.middle y.1.1.1.1 after d.other in
    let g = both document_at (documents_at 63) f.middle y.1.1.1.1.1 after f.other in
    let policy = counted_takes (codes "policy") longest_policy c.middle y.1.1.1.0 d.middle (omega arith) d.one in
    let evidence = counted_takes (codes "record") longest_record d.middle y.1.1.1.1.0 f.middle (omega arith) f.one in
    let one = counted_takes (codes "doc") longest_document f.middle y.1.1.1.1.1.0 g.middle (omega arith) g.one in
    let more = documents_take 63 g.middle y.1.1.1.1.1.1 after g.other in
    let documents = one.is ∙ ap (λ (l : List ℕ). document_text y.1.1.1.1.1.0 ++ l) more.is in
    let records = evidence.is ∙ ap (λ (l : List ℕ). counted_text (codes "record") y.1.1.1.1.0 ++ l) documents in
    let policies = policy.is ∙ ap (λ (l : List ℕ). counted_text (codes "policy") y.1.1.1.0 ++ l) records in
    let times = time_takes 10 b.middle y.1.1.0 c.middle c.one ∙ ap (λ (l : List ℕ). y.1.1.0 ++ (10 ∷ l)) policies in
    let modes = mode_takes 32 a.middle y.1.0 b.middle b.one ∙ ap (λ (l : List ℕ). mode_text y.1.0 ++ (32 ∷ l)) times in
    record {
      is = keyword_takes (codes "verify") 32 before y.0 a.middle a.one ∙ ap (λ (l : List ℕ). codes "verify" ++ (32 ∷ l)) modes;
      policy_fits = policy.within;
      evidence_fits = evidence.within;
      few = more.few;
      each = (one.within, more.each);
    }

-- what a verification is read as
pub record Again (bytes : List ℕ) (v : Verification) : Type 0 where
  pub time : List ℕ
  pub says : Text time v.moment
  pub first : List ℕ
  pub further : List (List ℕ)
  pub after : Unread
  pub is : verify_at (from_start bytes) ≡ Ok ((tt, (v.mode, (time, (v.policy, (v.evidence, (first, further)))))), after)
  pub all : v.documents ≡ first ∷ further

again_of : (m : Mode) (moment : Moment) (time policy evidence d : List ℕ) (ds : List (List ℕ)) → Text time moment → length policy ≤ longest_policy → length evidence ≤ longest_record → length ds ≤ 63 → AllByRecursion IsDocument (d ∷ ds)
    → Passes (tt, (m, (time, (policy, (evidence, (d, ds)))))) [] (verify_at (from_start (codes "verify" ++ (32 ∷ behind_verify m time policy evidence (d ∷ ds)))))
again_of m moment time policy evidence d ds says policy_fits evidence_fits few each =
    both_pass (keyword_at (codes "verify") 32) after_verify _ tt (m, (time, (policy, (evidence, (d, ds))))) (behind_verify m time policy evidence (d ∷ ds)) []
    (keyword_again 0 (codes "verify") 32 (behind_verify m time policy evidence (d ∷ ds)) refl refl) (λ p.
    both_pass (mode_at 32) after_mode _ m (time, (policy, (evidence, (d, ds)))) (behind_mode time policy evidence (d ∷ ds)) []
    (mode_again p m (behind_mode time policy evidence (d ∷ ds))) (λ q.
    both_pass (time_at 10) after_time _ time (policy, (evidence, (d, ds))) (behind_time policy evidence (d ∷ ds)) []
    (time_again q 10 time moment (behind_time policy evidence (d ∷ ds)) says refl) (λ r.
    both_pass (counted_at (codes "policy") longest_policy) after_policy _ policy (evidence, (d, ds)) (behind_policy evidence (d ∷ ds)) []
    (counted_again r (codes "policy") longest_policy policy (behind_policy evidence (d ∷ ds)) refl policy_fits (omega arith)) (λ s.
    both_pass (counted_at (codes "record") longest_record) all_documents_at _ evidence (d, ds) (behind_record (d ∷ ds)) []
    (counted_again s (codes "record") longest_record evidence (behind_record (d ∷ ds)) refl evidence_fits (omega arith)) (λ t.
    both_pass document_at (documents_at 63) _ d ds (behind_record ds) []
    (counted_again t (codes "doc") longest_document d (behind_record ds) refl each.0 (omega arith))
    (λ u. documents_again u 63 ds few each.1))))))

pub again : (bytes : List ℕ) (v : Verification) → IsVerification bytes v → Again bytes v
again bytes v i = by_documents v.documents refl
  where
    by_documents : (all : List (List ℕ)) → v.documents ≡ all → Again bytes v
    by_documents [] e = absurd (let some = i.some in let none = ap (λ (l : List (List ℕ)). length l) e in omega arith)
    by_documents (d ∷ ds) e =
        let count = ap (λ (l : List (List ℕ)). length l) e in
        let most = i.few in
        let each = subst (λ (l : List (List ℕ)). AllByRecursion IsDocument l) e i.each in
        let p = again_of v.mode v.moment i.time v.policy v.evidence d ds i.says i.policy i.evidence (omega arith) each in
        let text = i.spelled ∙ ap (λ (l : List (List ℕ)). codes "verify" ++ (32 ∷ behind_verify v.mode i.time v.policy v.evidence l)) e in
        record {
          time = i.time;
          says = i.says;
          first = d;
          further = ds;
          after = record { place = p.place; bytes = [] };
          is = ap (λ (l : List ℕ). verify_at (from_start l)) text ∙ p.is;
          all = e;
        }

-- from what was read to the verification that it is
pub is_verification : (bytes : List ℕ) (v : Verification) (y : VerifyParts) (after : Unread) → verify_at (from_start bytes) ≡ Ok (y, after) → y.1.0 ≡ v.mode → Text y.1.1.0 v.moment → y.1.1.1.0 ≡ v.policy → y.1.1.1.1.0 ≡ v.evidence
    → v.documents ≡ y.1.1.1.1.1.0 ∷ y.1.1.1.1.1.1 → IsVerification bytes v
is_verification bytes v y after e mode says policy evidence documents =
    let t = verify_takes (from_start bytes) y after e in
    let few = t.few in
    let count = ap (λ (l : List (List ℕ)). length l) documents in
    record {
      time = y.1.1.0;
      says = says;
      spelled = t.is ∙ text y.1.0 v.mode y.1.1.1.0 v.policy y.1.1.1.1.0 v.evidence (y.1.1.1.1.1.0 ∷ y.1.1.1.1.1.1) v.documents mode policy evidence (sym documents);
      policy = subst (λ (l : List ℕ). length l ≤ longest_policy) policy t.policy_fits;
      evidence = subst (λ (l : List ℕ). length l ≤ longest_record) evidence t.evidence_fits;
      some = omega arith;
      few = omega arith;
      each = subst (λ (l : List (List ℕ)). AllByRecursion IsDocument l) (sym documents) t.each;
    }
  where
    text : (m n : Mode) (p q e f : List ℕ) (ds es : List (List ℕ)) → m ≡ n → p ≡ q → e ≡ f → ds ≡ es → codes "verify" ++ (32 ∷ behind_verify m y.1.1.0 p e ds) ≡ codes "verify" ++ (32 ∷ behind_verify n y.1.1.0 q f es)
    text m n p q e f ds es one two three four = rw (one, two, three, four) refl

pub no_fault : (bytes : List ℕ) (v : Verification) → IsVerification bytes v → verify_first_fault bytes ≡ None
no_fault bytes v i = let a = again bytes v i in rw a.is refl

-- a verification is what was read
pub same : (bytes : List ℕ) (v : Verification) (i : IsVerification bytes v) (y : VerifyParts) (after : Unread) → verify_at (from_start bytes) ≡ Ok (y, after)
    → (m : Mode) (moment : Moment) (policy evidence : List ℕ) (documents : List (List ℕ)) → y.1.0 ≡ m → Text y.1.1.0 moment → y.1.1.1.0 ≡ policy → y.1.1.1.1.0 ≡ evidence → documents ≡ y.1.1.1.1.1.0 ∷ y.1.1.1.1.1.1
    → ◌≡◌ {A = Verification} (record { mode = m; moment = moment; policy = policy; evidence = evidence; documents = documents }) v
same bytes v i y after e m moment policy evidence documents a b c d f =
    let g = again bytes v i in
    let p : (y, after) ≡ ((tt, (v.mode, (g.time, (v.policy, (v.evidence, (g.first, g.further)))))), g.after) = ok_is {A = VerifyParts × Unread} {F = ShapeFault} _ _ (sym e ∙ g.is) in
    let mode : m ≡ v.mode = sym a ∙ ap (λ (z : VerifyParts × Unread). z.0.1.0) p in
    let time : y.1.1.0 ≡ g.time = ap (λ (z : VerifyParts × Unread). z.0.1.1.0) p in
    let says : moment ≡ v.moment = one_moment g.time moment v.moment (subst (λ (t : List ℕ). Text t moment) time b) g.says in
    let policies : policy ≡ v.policy = sym c ∙ ap (λ (z : VerifyParts × Unread). z.0.1.1.1.0) p in
    let evidences : evidence ≡ v.evidence = sym d ∙ ap (λ (z : VerifyParts × Unread). z.0.1.1.1.1.0) p in
    let all : documents ≡ v.documents = f ∙ ap (λ (z : VerifyParts × Unread). z.0.1.1.1.1.1.0 ∷ z.0.1.1.1.1.1.1) p ∙ sym g.all in
    λ i. record { mode = mode i; moment = says i; policy = policies i; evidence = evidences i; documents = all i }

pub one_verification : (bytes : List ℕ) (v w : Verification) → IsVerification bytes v → IsVerification bytes w → v ≡ w
one_verification bytes v w i j =
    let a = again bytes v i in
    same bytes w j _ a.after a.is v.mode v.moment v.policy v.evidence v.documents refl a.says refl refl a.all

-- what has no fault is read
passed : (bytes : List ℕ) → verify_first_fault bytes ≡ None → (x : VerifyParts × Unread) × (verify_at (from_start bytes) ≡ Ok x)
passed bytes none = at (verify_at (from_start bytes)) refl
  where
    at : (r : Reading VerifyParts) → verify_at (from_start bytes) ≡ r → (x : VerifyParts × Unread) × (verify_at (from_start bytes) ≡ Ok x)
    at (Ok x) e = (x, e)
    at (Err f) e = absurd (let wrong = sym (ap fault_of e) ∙ none in cc)

-- what stands before the policy was read up to here
pub record HasHead (bytes : List ℕ) (x : VerifyParts × Unread) (behind_mode : Unread) : Type 0 where
  pub after : Unread
  pub time : time_at 10 behind_mode ≡ Ok (x.0.1.1.0, after)

pub head : (bytes : List ℕ) (x : VerifyParts × Unread) (first second : Unread) (m : Mode) → verify_at (from_start bytes) ≡ Ok x → keyword_at (codes "verify") 32 (from_start bytes) ≡ Ok (tt, first) → mode_at 32 first ≡ Ok (m, second)
    → HasHead bytes x second
head bytes x first second m e one two =
    let a = both (keyword_at (codes "verify") 32) after_verify (from_start bytes) x.0 x.1 e in
    let middle : a.middle ≡ first = ap (λ (z : Unit {0} × Unread). z.1) (ok_is {A = Unit {0} × Unread} {F = ShapeFault} _ _ (sym a.one ∙ one)) in
    let b = both (mode_at 32) after_mode a.middle x.0.1 x.1 a.other in
    let behind : b.middle ≡ second = ap (λ (z : Mode × Unread). z.1) (ok_is {A = Mode × Unread} {F = ShapeFault} _ _ (sym b.one ∙ ap (mode_at 32) middle ∙ two)) in
    let c = both (time_at 10) after_time b.middle x.0.1.1 x.1 b.other in
    record { after = c.middle; time = ap (time_at 10) (sym behind) ∙ c.one }

-- what has no fault is a verification, if the text of its time says a moment
pub whole : (bytes : List ℕ) (first second : Unread) (m : Mode) (after : Unread) (moment : Moment) → keyword_at (codes "verify") 32 (from_start bytes) ≡ Ok (tt, first) → mode_at 32 first ≡ Ok (m, second) → ReadsTime 10 second after moment
    → verify_first_fault bytes ≡ None → (v : Verification) × IsVerification bytes v
whole bytes first second m after moment one two three none =
    let p = passed bytes none in
    let h = head bytes p.0 first second m p.1 one two in
    let time : three.text ≡ p.0.0.1.1.0 = ap (λ (z : List ℕ × Unread). z.0) (ok_is {A = List ℕ × Unread} {F = ShapeFault} _ _ (sym three.is ∙ h.time)) in
    let says = subst (λ (t : List ℕ). Text t moment) time three.says in
    let v : Verification = record { mode = p.0.0.1.0; moment = moment; policy = p.0.0.1.1.1.0; evidence = p.0.0.1.1.1.1.0; documents = p.0.0.1.1.1.1.1.0 ∷ p.0.0.1.1.1.1.1.1 } in
    (v, is_verification bytes v p.0.0 p.0.1 p.1 refl says refl refl refl)
