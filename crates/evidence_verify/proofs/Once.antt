-- Bytes have one verdict.
use Rattle.std.proofs.Common.{◌≡◌, ℕ, Bool, List, [], ◌∷◌, ◌++◌, length, map, Option, Some, None, Ok, Err, refl, sym, ap, subst, ◌∙◌, inl, inr, if◌then◌else◌}
use Rattle.std.specs.List.{AllByRecursion}
use Rattle.std.proofs.lemmas.Bool.{le-ltb}
use Rattle.civil_moment.specs.declared.moment.Moment.{Moment}
use Rattle.algorithm_policy.specs.Content.{Content}
use Rattle.der_values.specs.Grammar.{from_start}
use Rattle.der_values.specs.Reading.{read, Reading}
use Rattle.der_values.proofs.Meaning.{means_found, one_meaning}
use Rattle.token_check.specs.declared.fault.Check.{Check}
use Rattle.token_check.specs.Sound.{Stamp as Says, Sound}
use Rattle.token_check.specs.Fault.{Fails}
use Rattle.token_check.proofs.Once.{says_once, fails_once, sound_passes}
use Rattle.evidence_syntax.specs.declared.fault.SyntaxFault.{SyntaxFault}
use Rattle.evidence_syntax.specs.declared.fault.SyntaxFault.TheVariants.{At, Memory}
use Rattle.evidence_syntax.specs.declared.fault.SyntaxKind.TheVariants.{TooLong}
use Rattle.evidence_syntax.specs.Checks.{record_checks}
use Rattle.evidence_syntax.specs.Record.{EvidenceRecord, RecordParts, record_of, record_shape, longest_record, Spells, record_first_fault}
use Rattle.evidence_verify.specs.declared.verdict.Mode.{Mode}
use Rattle.evidence_verify.specs.declared.verdict.Verdict.{Verdict}
use Rattle.evidence_verify.specs.declared.verdict.Verdict.TheVariants.{Valid, Syntax, BadStamp}
use Rattle.evidence_verify.specs.Stamps.{Place, places_of, Checked, IsSound, AreSound}
use Rattle.evidence_verify.specs.Verdict.{verdict_of, Judges, Verdicts}

-- ---- lists with one more item in front

front_of : Place → List Place → Place
front_of d [] = d
front_of d (p ∷ ps) = p

rest_of : List Place → List Place
rest_of [] = []
rest_of (p ∷ ps) = ps

same_front : (p q : Place) (ps qs : List Place) → p ∷ ps ≡ q ∷ qs → p ≡ q
unfolding front_of
same_front p q ps qs e = ap (front_of p) e

same_rest : (p q : Place) (ps qs : List Place) → p ∷ ps ≡ q ∷ qs → ps ≡ qs
unfolding rest_of
same_rest p q ps qs e = ap rest_of e

not_empty : (p : Place) (ps : List Place) → [] ≡ p ∷ ps → ⊥
not_empty p ps e = cc

abbrev places_in : List Checked → List Place
places_in cs = map (λ (c : Checked). c.place) cs

-- ---- tokens say one thing

module _ (policy : Content) where
  apart : (p q : Place) (says : Says) (check : Check) → p ≡ q → Sound policy p.ats.token says → Fails policy q.ats.token check → ⊥
  apart p q says check e sound fails = sound_passes policy q.ats.token says check (subst (λ (r : Place). Sound policy r.ats.token says) e sound) fails

  one_thing : (c d : Checked) → c.place ≡ d.place → IsSound policy c → IsSound policy d → c ≡ d
  one_thing c d e h k =
      let said : c.says ≡ d.says = says_once policy d.place.ats.token c.says d.says (subst (λ (r : Place). Sound policy r.ats.token c.says) e h) k in
      let first : c ≡ record { place = d.place; says = c.says } = ap (λ (p : Place). let made : Checked = record { place = p; says = c.says } in made) e in
      first ∙ ap (λ (s : Says). let made : Checked = record { place = d.place; says = s } in made) said

  one_saying : (cs ds : List Checked) → places_in cs ≡ places_in ds → AllByRecursion (IsSound policy) cs → AllByRecursion (IsSound policy) ds → cs ≡ ds
  one_saying [] [] e h k = refl
  one_saying [] (d ∷ ds) e h k = absurd (not_empty d.place (places_in ds) e)
  one_saying (c ∷ cs) [] e h k = absurd (not_empty c.place (places_in cs) (sym e))
  one_saying (c ∷ cs) (d ∷ ds) e h k =
      let first = one_thing c d (same_front c.place d.place (places_in cs) (places_in ds) e) h.0 k.0 in
      let rest = one_saying cs ds (same_rest c.place d.place (places_in cs) (places_in ds) e) h.1 k.1 in
      ap (λ x. x ∷ cs) first ∙ ap (λ xs. d ∷ xs) rest

  pub tokens_once : (places : List Place) (a b : List Checked) → AreSound policy places a → AreSound policy places b → a ≡ b
  tokens_once places a b h k = one_saying a b (h.in_place ∙ sym k.in_place) h.sound k.sound

  -- the first that is not sound is one, and fails one check
  one_bad : (bs cs : List Checked) (p q : Place) (ps qs : List Place) (a b : Check) → places_in bs ++ p ∷ ps ≡ places_in cs ++ q ∷ qs
      → AllByRecursion (IsSound policy) bs → AllByRecursion (IsSound policy) cs → Fails policy p.ats.token a → Fails policy q.ats.token b
      → BadStamp p.chain p.stamp a ≡ BadStamp q.chain q.stamp b
  one_bad [] [] p q ps qs a b e h k f g =
      let same = same_front p q ps qs e in
      let check = fails_once policy q.ats.token a b (subst (λ (r : Place). Fails policy r.ats.token a) same f) g in
      ap (λ (r : Place). BadStamp r.chain r.stamp a) same ∙ ap (λ (c : Check). BadStamp q.chain q.stamp c) check
  one_bad [] (c ∷ cs) p q ps qs a b e h k f g = absurd (apart c.place p c.says a (sym (same_front p c.place ps _ e)) k.0 f)
  one_bad (c ∷ bs) [] p q ps qs a b e h k f g = absurd (apart c.place q c.says b (same_front c.place q _ qs e) h.0 g)
  one_bad (c ∷ bs) (d ∷ cs) p q ps qs a b e h k f g = one_bad bs cs p q ps qs a b (same_rest c.place d.place _ _ e) h.1 k.1 f g

  -- where one is not sound, not all are
  not_both : (bs cs : List Checked) (p : Place) (ps : List Place) (a : Check) → places_in bs ++ p ∷ ps ≡ places_in cs
      → AllByRecursion (IsSound policy) cs → Fails policy p.ats.token a → ⊥
  not_both [] [] p ps a e k f = not_empty p ps (sym e)
  not_both [] (c ∷ cs) p ps a e k f = apart c.place p c.says a (sym (same_front p c.place ps _ e)) k.0 f
  not_both (b ∷ bs) [] p ps a e k f = not_empty b.place (places_in bs ++ p ∷ ps) (sym e)
  not_both (b ∷ bs) (c ∷ cs) p ps a e k f = not_both bs cs p ps a (same_rest b.place c.place _ _ e) k.1 f

-- ---- bytes that are a record have no fault

no_first_fault : (bytes : List ℕ) (r : EvidenceRecord) → Spells bytes r → record_first_fault bytes ≡ None
no_first_fault bytes r s =
    let found = means_found record_checks record_shape 0 (λ p stamps. record_of p.0) (from_start bytes) r s.means in
    ap (λ (b : Bool). if b then Some (At 0 TooLong) else (elim (read record_checks record_shape 0 (from_start bytes)) [ Ok x ↦ None | Err e ↦ Some e ])) (le-ltb longest_record (length bytes) s.short)
    ∙ ap (λ (o : Reading (RecordParts × Unit {0}) ℕ SyntaxFault). elim o as (λ z. Option SyntaxFault) [ Ok x ↦ None | Err e ↦ Some e ]) found.is

syntax_of : Option SyntaxFault → Verdict
syntax_of None = Valid
syntax_of (Some (At place kind)) = Syntax place kind
syntax_of (Some Memory) = Valid

none_some : (o : Option SyntaxFault) (e : SyntaxFault) → o ≡ None → o ≡ Some e → ⊥
none_some None e h k = cc
none_some (Some x) e h k = cc

-- ---- one verdict

module _ (policy : Content) (documents : List (List ℕ)) (mode : Mode) (moment : Moment) where
  one_judgement : (places : List Place) (v w : Verdict) → Judges policy documents mode moment places v → Judges policy documents mode moment places w → v ≡ w
  one_judgement places v w (inl a) (inl b) =
      a.blames ∙ one_bad policy a.first.before b.first.before a.bad b.bad a.first.after b.first.after a.check b.check (a.first.in_place ∙ sym b.first.in_place) a.first.sound b.first.sound a.first.fails b.first.fails ∙ sym b.blames
  one_judgement places v w (inl a) (inr b) = absurd (not_both policy a.first.before b.stamps a.bad a.first.after a.check (a.first.in_place ∙ sym b.sound.in_place) b.sound.sound a.first.fails)
  one_judgement places v w (inr a) (inl b) = absurd (not_both policy b.first.before a.stamps b.bad b.first.after b.check (b.first.in_place ∙ sym a.sound.in_place) a.sound.sound b.first.fails)
  one_judgement places v w (inr a) (inr b) =
      a.judges ∙ ap (verdict_of policy documents mode moment) (one_saying policy a.stamps b.stamps (a.sound.in_place ∙ sym b.sound.in_place) a.sound.sound b.sound.sound) ∙ sym b.judges

  pub verdict_once : (bytes : List ℕ) (v w : Verdict) → Verdicts policy documents mode moment bytes v → Verdicts policy documents mode moment bytes w → v ≡ w
  unfolding syntax_of
  verdict_once bytes v w (inl a) (inl b) = a.blames ∙ ap syntax_of (sym a.fault ∙ b.fault) ∙ sym b.blames
  verdict_once bytes v w (inl a) (inr b) = absurd (none_some (record_first_fault bytes) (At a.place a.kind) (no_first_fault bytes b.evidence b.spells) a.fault)
  verdict_once bytes v w (inr a) (inl b) = absurd (none_some (record_first_fault bytes) (At b.place b.kind) (no_first_fault bytes a.evidence a.spells) b.fault)
  verdict_once bytes v w (inr a) (inr b) =
      let same = one_meaning record_checks record_shape 0 (λ p stamps. record_of p.0) (from_start bytes) a.evidence b.evidence a.spells.means b.spells.means in
      one_judgement (places_of b.evidence.chains) v w (subst (λ (r : EvidenceRecord). Judges policy documents mode moment (places_of r.chains) v) same a.judges) b.judges
