-- The line of a verdict.
use Rattle.std.specs.declared.alloc.AllocError.{AllocError}
use Rattle.std.proofs.Common.{◌≡◌, ℕ, Result, Ok, Err, OnOk, List, [], ◌∷◌, ◌++◌, append_assoc, refl, sym, ap, ◌∙◌}
use Rattle.std.specs.Prelude.{codes}
use Rattle.civil_moment.specs.declared.moment.Moment.{Moment}
use Rattle.civil_moment.specs.Moment.{AddsTime}
use Rattle.civil_moment.proofs.Unique.{one_text}
use Rattle.evidence_verify.specs.declared.verdict.Lapse.{Lapse}
use Rattle.evidence_verify.specs.declared.verdict.Verdict.{Verdict}
use Rattle.evidence_verify.specs.declared.verdict.Verdict.TheVariants.{Valid, Syntax, BadStamp, MixedHash, OutOfOrder, NotCovered, NotWhole, Early, Lapsed}
use Rattle.session_text.specs.Verdicts.{numbered, cause_name, verdict_words, SaysMoments, IsVerdictLine, AddsVerdict}
use Rattle.session_text.specs.Inside.{HasVerdictWords}

one_say : (v : Verdict) (f g s t : List ℕ) → SaysMoments v f s → SaysMoments v g t → (f ≡ g) × (s ≡ t)
one_say Valid f g s t a b = (a.0 ∙ sym b.0, a.1 ∙ sym b.1)
one_say (Syntax place kind) f g s t a b = (a.0 ∙ sym b.0, a.1 ∙ sym b.1)
one_say (BadStamp chain stamp check) f g s t a b = (a.0 ∙ sym b.0, a.1 ∙ sym b.1)
one_say (MixedHash chain stamp) f g s t a b = (a.0 ∙ sym b.0, a.1 ∙ sym b.1)
one_say (OutOfOrder chain stamp) f g s t a b = (a.0 ∙ sym b.0, a.1 ∙ sym b.1)
one_say (NotCovered chain stamp document) f g s t a b = (a.0 ∙ sym b.0, a.1 ∙ sym b.1)
one_say (NotWhole chain) f g s t a b = (a.0 ∙ sym b.0, a.1 ∙ sym b.1)
one_say (Early moment last) f g s t a b = (one_text moment f g a.0 b.0, one_text last s t a.1 b.1)
one_say (Lapsed lapse) f g s t a b = (one_text lapse.end f g a.0 b.0, a.1 ∙ sym b.1)

same_words : (v : Verdict) (f g s t : List ℕ) → f ≡ g → s ≡ t → verdict_words v f s ++ 10 ∷ [] ≡ verdict_words v g t ++ 10 ∷ []
same_words v f g s t one other = rw (one, other) refl

pub one_line : (v : Verdict) (a b : List ℕ) → IsVerdictLine a v → IsVerdictLine b v → a ≡ b
one_line v a b x y =
    let same = one_say v x.first y.first x.second y.second x.say y.say in
    x.is ∙ same_words v x.first y.first x.second y.second same.0 same.1 ∙ sym y.is

-- the words behind a text, and the line feed behind them
line_added : (v : Verdict) (old start front whole : List ℕ) → start ≡ old → HasVerdictWords start front v → whole ≡ front ++ 10 ∷ [] → AddsVerdict old whole v
line_added v old start front whole same h feed = record {
  line = verdict_words v h.first h.second ++ 10 ∷ [];
  added = feed ∙ ap (λ l. l ++ 10 ∷ []) (h.added ∙ ap (λ l. l ++ verdict_words v h.first h.second) same) ∙ append_assoc old (verdict_words v h.first h.second) (10 ∷ []);
  is_line = record { first = h.first; second = h.second; say = h.say; is = refl };
}

pub line_written : (r : Result (Unit {0}) AllocError) (v : Verdict) (old start front whole : List ℕ) → start ≡ old → HasVerdictWords start front v → OnOk r (whole ≡ front ++ 10 ∷ []) → OnOk r (AddsVerdict old whole v)
line_written (Ok u) v old start front whole same h feed = line_added v old start front whole same h feed
line_written (Err e) v old start front whole same h feed = tt

pub early_words : (moment last : Moment) (old a b c d : List ℕ) → a ≡ old ++ codes "early " → AddsTime a b moment → c ≡ b ++ 32 ∷ [] → AddsTime c d last → HasVerdictWords old d (Early moment last)
early_words moment last old a b c d e x f y = record {
  first = x.time;
  second = y.time;
  say = (x.says, y.says);
  added = y.added ∙ ap (λ l. l ++ y.time) (f ∙ ap (λ l. l ++ 32 ∷ []) (x.added ∙ ap (λ l. l ++ x.time) e)) ∙ regroup old (codes "early ") x.time (32 ∷ []) y.time;
}
  where
    regroup : (o a b c d : List ℕ) → (((o ++ a) ++ b) ++ c) ++ d ≡ o ++ ((a ++ b) ++ (c ++ d))
    regroup o a b c d = simp append_assoc

pub lapsed_words : (lapse : Lapse) (old a b c d e : List ℕ) → a ≡ old ++ numbered (codes "lapsed") (lapse.chain ∷ lapse.stamp ∷ []) → b ≡ a ++ 32 ∷ [] → c ≡ b ++ cause_name lapse.cause → d ≡ c ++ 32 ∷ [] → AddsTime d e lapse.end
    → HasVerdictWords old e (Lapsed lapse)
lapsed_words lapse old a b c d e p q r t x = record {
  first = x.time;
  second = [];
  say = (x.says, refl);
  added = x.added ∙ ap (λ l. l ++ x.time) (t ∙ ap (λ l. l ++ 32 ∷ []) (r ∙ ap (λ l. l ++ cause_name lapse.cause) (q ∙ ap (λ l. l ++ 32 ∷ []) p)))
      ∙ regroup old (numbered (codes "lapsed") (lapse.chain ∷ lapse.stamp ∷ [])) (32 ∷ []) (cause_name lapse.cause) (32 ∷ []) x.time;
}
  where
    regroup : (o a b c d e : List ℕ) → ((((o ++ a) ++ b) ++ c) ++ d) ++ e ≡ o ++ ((a ++ (b ++ c)) ++ (d ++ e))
    regroup o a b c d e = simp append_assoc
