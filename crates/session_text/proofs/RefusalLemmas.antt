-- The text of a refusal.
use Rattle.std.specs.declared.alloc.AllocError.{AllocError}
use Rattle.std.proofs.Common.{◌≡◌, ℕ, Result, Ok, Err, OnOk, List, [], ◌∷◌, ◌++◌, append_assoc, refl, sym, ap, ◌∙◌}
use Rattle.std.specs.Prelude.{codes}
use Rattle.civil_moment.specs.declared.moment.Moment.{Moment}
use Rattle.civil_moment.specs.Moment.{AddsTime}
use Rattle.civil_moment.proofs.Unique.{one_text}
use Rattle.archive_chain.specs.declared.refusal.Refusal.{Refusal}
use Rattle.archive_chain.specs.declared.refusal.Refusal.TheVariants.{Limit, Count, NotLive, OtherHash, ChainFull, Token, Imprint, TokenEarly, BadPolicy, PolicyDrops, Memory}
use Rattle.session_text.specs.RefusalTexts.{IsRefusalText, AddsRefusal}

same_texts : (f g s t : List ℕ) → f ≡ g → s ≡ t → codes "tokenearly " ++ f ++ 32 ∷ s ≡ codes "tokenearly " ++ g ++ 32 ∷ t
same_texts f g s t one other = rw (one, other) refl

pub one_refusal_text : (refusal : Refusal) (a b : List ℕ) → IsRefusalText refusal a → IsRefusalText refusal b → a ≡ b
one_refusal_text (Limit full) a b x y = x ∙ sym y
one_refusal_text (Count count pending) a b x y = x ∙ sym y
one_refusal_text (NotLive cohort) a b x y = x ∙ sym y
one_refusal_text (OtherHash cohort) a b x y = x ∙ sym y
one_refusal_text (ChainFull id) a b x y = x ∙ sym y
one_refusal_text (Token check) a b x y = x ∙ sym y
one_refusal_text Imprint a b x y = x ∙ sym y
one_refusal_text (TokenEarly token covered) a b x y =
    x.4 ∙ same_texts x.0 y.0 x.1 y.1 (one_text token x.0 y.0 x.2 y.2) (one_text covered x.1 y.1 x.3 y.3) ∙ sym y.4
one_refusal_text (BadPolicy line kind) a b x y = x ∙ sym y
one_refusal_text (PolicyDrops name) a b x y = x ∙ sym y
one_refusal_text Memory a b x y = x ∙ sym y

-- the texts of both moments
regroup : (o a b c d : List ℕ) → (((o ++ a) ++ b) ++ c) ++ d ≡ o ++ ((a ++ b) ++ (c ++ d))
regroup o a b c d = simp append_assoc

pub early_added : (r : Result (Unit {0}) AllocError) (token covered : Moment) (old a b c d : List ℕ) → a ≡ old ++ codes "tokenearly " → AddsTime a b token → c ≡ b ++ 32 ∷ [] → OnOk r (AddsTime c d covered)
    → OnOk r (AddsRefusal old d (TokenEarly token covered))
early_added (Ok u) token covered old a b c d e x f y = record {
  text = codes "tokenearly " ++ x.time ++ 32 ∷ y.time;
  added = y.added ∙ ap (λ l. l ++ y.time) (f ∙ ap (λ l. l ++ 32 ∷ []) (x.added ∙ ap (λ l. l ++ x.time) e)) ∙ regroup old (codes "tokenearly ") x.time (32 ∷ []) y.time;
  is = (x.time, y.time, x.says, y.says, refl);
}
early_added (Err e') token covered old a b c d e x f y = tt
