-- What is added part by part is added whole.
use Rattle.std.proofs.Common.{◌≡◌, ℕ, ◌+◌, ◌≤◌, List, [], ◌∷◌, ◌++◌, Result, Ok, Err, Vec, Global, append_assoc, sym, ap, ◌∙◌, arith}
use Rattle.std.specs.Prelude.{codes}
use Rattle.std.specs.declared.alloc.AllocError.{AllocError}
use Rattle.civil_moment.specs.declared.moment.Moment.{Moment}
use Rattle.evidence_verify.specs.declared.verdict.Lapse.{Lapse}
use Rattle.evidence_verify.specs.declared.verdict.Verdict.{Verdict}
use Rattle.evidence_verify.specs.declared.verdict.Verdict.TheVariants.{Early, Lapsed}
use Rattle.session_text.specs.Lines.{Adds, AddsMoment}
use Rattle.session_text.specs.Verdicts.{numbered, cause_name, verdict_words, SaysMoments}
use Rattle.session_text.specs.Inside.{AddsVerdictWords}
use Rattle.session_text.proofs.LineLemmas.{early_words, lapsed_words}

pub then : (a b : List ℕ) (m n : ℕ) (x y z : Vec ℕ Global) (u : Unit {0}) (r : Result (Unit {0}) AllocError) → Adds a m x y (Ok u) → Adds b n y z r → Adds (a ++ b) (m + n) x z r
then a b m n x y z u (Ok w) h k =
    let s = h.short in
    let t = k.short in
    let c = h.capacity in
    let d = k.capacity in
    record { ok = k.ok ∙ ap (λ l. l ++ b) h.ok ∙ append_assoc x.items a b; short = omega arith; capacity = omega arith; room = λ fits. k.room (omega arith) }
then a b m n x y z u (Err e) h k =
    let s = h.short in
    let c = h.capacity in
    let d = k.capacity in record { ok = tt; short = tt; capacity = omega arith; room = λ fits. k.room (omega arith) }

-- a verdict without moments
pub plain : (v : Verdict) (text : List ℕ) (most : ℕ) (x y : Vec ℕ Global) (r : Result (Unit {0}) AllocError) → SaysMoments v [] [] → verdict_words v [] [] ≡ text → most ≤ 120 → Adds text most x y r → AddsVerdictWords v x y r
plain v text most x y (Ok w) say is few h =
    let s = h.short in
    let c = h.capacity in
    record { ok = record { first = []; second = []; say = say; added = h.ok ∙ ap (λ l. x.items ++ l) (sym is) }; short = omega arith; capacity = c; room = λ fits. h.room (omega arith) }
plain v text most x y (Err e) say is few h =
    let c = h.capacity in record { ok = tt; short = tt; capacity = c; room = λ fits. h.room (omega arith) }

-- words, a space and words
pub spaced_words : (a b c : List ℕ) → b ≡ c → a ++ (32 ∷ c) ≡ (a ++ (32 ∷ [])) ++ b
spaced_words a b c e = ap (λ l. a ++ (32 ∷ l)) (sym e) ∙ sym (append_assoc a (32 ∷ []) b)

pub early_added : (moment last : Moment) (o a b c d : Vec ℕ Global) (u v w : Unit {0}) (r : Result (Unit {0}) AllocError)
    → Adds (codes "early ") 6 o a (Ok u) → AddsMoment moment a b (Ok v) → Adds (32 ∷ []) 1 b c (Ok w) → AddsMoment last c d r → AddsVerdictWords (Early moment last) o d r
early_added moment last o a b c d u v w (Ok z) h k l m =
    let s1 = h.short in
    let s2 = k.short in
    let s3 = l.short in
    let s4 = m.short in
    let c1 = h.capacity in
    let c2 = k.capacity in
    let c3 = l.capacity in
    let c4 = m.capacity in
    record { ok = early_words moment last o.items a.items b.items c.items d.items h.ok k.ok l.ok m.ok; short = omega arith; capacity = omega arith; room = λ fits. m.room (omega arith) }
early_added moment last o a b c d u v w (Err e) h k l m =
    let s1 = h.short in
    let s2 = k.short in
    let s3 = l.short in
    let c1 = h.capacity in
    let c2 = k.capacity in
    let c3 = l.capacity in
    let c4 = m.capacity in record { ok = tt; short = tt; capacity = omega arith; room = λ fits. m.room (omega arith) }

pub lapsed_added : (lapse : Lapse) (name : List ℕ) (most : ℕ) (o a b c d e : Vec ℕ Global) (u v w x : Unit {0}) (r : Result (Unit {0}) AllocError)
    → Adds (numbered (codes "lapsed") (lapse.chain ∷ lapse.stamp ∷ [])) 62 o a (Ok u) → Adds (32 ∷ []) 1 a b (Ok v) → Adds name most b c (Ok w) → Adds (32 ∷ []) 1 c d (Ok x) → AddsMoment lapse.end d e r
    → name ≡ cause_name lapse.cause → most ≤ 4 → AddsVerdictWords (Lapsed lapse) o e r
lapsed_added lapse name most o a b c d e u v w x (Ok z) h k l m n is few =
    let s1 = h.short in
    let s2 = k.short in
    let s3 = l.short in
    let s4 = m.short in
    let s5 = n.short in
    let c1 = h.capacity in
    let c2 = k.capacity in
    let c3 = l.capacity in
    let c4 = m.capacity in
    let c5 = n.capacity in
    record {
      ok = lapsed_words lapse o.items a.items b.items c.items d.items e.items h.ok k.ok (l.ok ∙ ap (λ t. b.items ++ t) is) m.ok n.ok;
      short = omega arith;
      capacity = omega arith;
      room = λ fits. n.room (omega arith);
    }
lapsed_added lapse name most o a b c d e u v w x (Err z) h k l m n is few =
    let s1 = h.short in
    let s2 = k.short in
    let s3 = l.short in
    let s4 = m.short in
    let c1 = h.capacity in
    let c2 = k.capacity in
    let c3 = l.capacity in
    let c4 = m.capacity in
    let c5 = n.capacity in record { ok = tt; short = tt; capacity = omega arith; room = λ fits. n.room (omega arith) }
