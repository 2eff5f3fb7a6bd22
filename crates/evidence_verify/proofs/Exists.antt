-- Every string of bytes has a verdict.
use Rattle.std.proofs.Common.{◌≡◌, ◌⊎◌, inl, inr, ℕ, List, [], ◌∷◌, Option, Some, None, refl, ap}
use Rattle.std.specs.List.{AllByRecursion}
use Rattle.civil_moment.specs.declared.moment.Moment.{Moment}
use Rattle.der_values.proofs.Octets.{IsBytes}
use Rattle.algorithm_policy.specs.Content.{Content}
use Rattle.evidence_syntax.specs.declared.fault.SyntaxFault.{SyntaxFault}
use Rattle.evidence_syntax.specs.declared.fault.SyntaxFault.TheVariants.{At, Memory}
use Rattle.evidence_syntax.specs.Record.{record_first_fault}
use Rattle.evidence_syntax.proofs.Faults.{no_memory, record_without_fault}
use Rattle.token_check.specs.declared.fault.Check.{Check}
use Rattle.token_check.specs.Sound.{Stamp, Sound}
use Rattle.token_check.specs.Fault.{Fails}
use Rattle.token_check.proofs.Decided.{token_decided}
use Rattle.evidence_verify.specs.declared.verdict.Mode.{Mode}
use Rattle.evidence_verify.specs.declared.verdict.Verdict.{Verdict}
use Rattle.evidence_verify.specs.declared.verdict.Verdict.TheVariants.{Syntax, BadStamp}
use Rattle.evidence_verify.specs.Stamps.{Place, places_of, Checked, AreSound, IsFirstBad}
use Rattle.evidence_verify.specs.Verdict.{verdict_of, Judges, Verdicts}
use Rattle.evidence_verify.proofs.TokenBytes.{TokenFits, tokens_fit}

module _ (policy : Content) where
  -- ---- the tokens are sound, or one is the first that is not

  abbrev Decided : List Place → Type 0
  Decided places = ((stamps : List Checked) × AreSound policy places stamps) ⊎ ((bad : Place) × (check : Check) × IsFirstBad policy places bad check)

  one_more : (p : Place) (rest : List Place) (says : Stamp) → Sound policy p.ats.token says → Decided rest → Decided (p ∷ rest)
  one_more p rest says sound (inl (stamps, are)) =
      inl (record { place = p; says = says } ∷ stamps, record { in_place = ap (λ l. p ∷ l) are.in_place; sound = (sound, are.sound) })
  one_more p rest says sound (inr (bad, check, first)) = inr (
    bad,
    check,
    record {
      before = record { place = p; says = says } ∷ first.before;
      after = first.after;
      in_place = ap (λ l. p ∷ l) first.in_place;
      sound = (sound, first.sound);
      fails = first.fails;
    },
  )

  decided : (places : List Place) → AllByRecursion TokenFits places → Decided places
  decided [] fits = inl ([], record { in_place = refl; sound = tt })
  decided (p ∷ rest) fits = by_token (token_decided policy p.ats.token fits.0) (decided rest fits.1) where
    by_token : ((says : Stamp) × Sound policy p.ats.token says) ⊎ ((check : Check) × Fails policy p.ats.token check) → Decided rest → Decided (p ∷ rest)
    by_token (inl (says, sound)) later = one_more p rest says sound later
    by_token (inr (check, fails)) later = inr (p, check, record { before = []; after = rest; in_place = refl; sound = tt; fails = fails })

  -- ---- the verdict

  module _ (documents : List (List ℕ)) (mode : Mode) (moment : Moment) where
    judged : (places : List Place) → Decided places → (verdict : Verdict) × Judges policy documents mode moment places verdict
    judged places (inl (stamps, sound)) = (verdict_of policy documents mode moment stamps, inr (record { stamps = stamps; sound = sound; judges = refl }))
    judged places (inr (bad, check, first)) = (BadStamp bad.chain bad.stamp check, inl (record { bad = bad; check = check; first = first; blames = refl }))

    pub has_verdict : (bytes : List ℕ) → IsBytes bytes → (verdict : Verdict) × Verdicts policy documents mode moment bytes verdict
    has_verdict bytes fits = by_fault (record_first_fault bytes) refl where
      by_fault : (fault : Option SyntaxFault) → record_first_fault bytes ≡ fault → (verdict : Verdict) × Verdicts policy documents mode moment bytes verdict
      by_fault (Some (At place kind)) e = (Syntax place kind, inl (record { place = place; kind = kind; fault = e; blames = refl }))
      by_fault (Some Memory) e = absurd (no_memory bytes e)
      by_fault None e =
          let r = record_without_fault bytes fits e in
          let j = judged (places_of r.0.chains) (decided (places_of r.0.chains) (tokens_fit bytes r.0 fits r.1)) in
          (j.0, inr (record { evidence = r.0; spells = r.1; judges = j.1 }))
