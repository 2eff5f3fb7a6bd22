-- A value whose contents are values of one kind: what is read of them is read of it.
use Rattle.std.proofs.Common.{◌≡◌, ◌∙◌, ℕ, List, length, Result, Ok, Err, refl, sym, ap}
use Rattle.std.specs.Prelude.{IsErrAnd}
use Rattle.der_values.specs.Input.{Input, Item}
use Rattle.der_values.specs.Steps.{◌>>=◌}
use Rattle.der_values.specs.Next.{contents, finish_of}
use Rattle.der_values.specs.Shape.{Tags, tagged, Check, Shape, nothing_more, repeated, Part, Parts}
use Rattle.der_values.specs.Reading.{at_header, at_end, Reading, body, read_each, read, beside, Found, Unless}
use Rattle.evidence_syntax.specs.declared.fault.SyntaxFault.{SyntaxFault}
use Rattle.evidence_syntax.specs.declared.fault.SyntaxFault.TheVariants.{At, Memory}
use Rattle.evidence_syntax.specs.Checks.{RecordCheck, der, is_memory, record_checks}
use Rattle.evidence_syntax.specs.Inside.{Counts}

module _ (tag : ℕ) (c : Check RecordCheck) (tags : Tags) (d : Check RecordCheck) (inner : Shape RecordCheck) (stamps : ℕ) (v : Item) where
  abbrev each : Input → Reading (List (Part tags (Parts inner))) ℕ SyntaxFault
  each input = read_each der tags (body record_checks tags d (read record_checks inner)) (length input.left) stamps input

  abbrev whole : Reading (List (Part tags (Parts inner)) × Unit {0}) ℕ SyntaxFault
  whole = body record_checks (tagged tag) c (read record_checks (repeated tags d inner nothing_more)) stamps v

  abbrev Passes : Type 0
  Passes = (at_header record_checks c stamps v ≡ Ok stamps) × ((n : ℕ) → at_end record_checks c n v ≡ Ok n)

  -- the end of the contents, and the check behind it
  abbrev ended : Reading (List (Part tags (Parts inner))) ℕ SyntaxFault → Reading (List (Part tags (Parts inner)) × Unit {0}) ℕ SyntaxFault
  ended r = r >>= λ x. beside {Q = Unit {0}} x.0 (Ok (tt, x.1))

  abbrev checked_after : Reading (List (Part tags (Parts inner)) × Unit {0}) ℕ SyntaxFault → Reading (List (Part tags (Parts inner)) × Unit {0}) ℕ SyntaxFault
  checked_after r = r >>= λ x. at_end record_checks c x.1 v >>= λ n. Ok (x.0, n)

  abbrev alone : Reading (List (Part tags (Parts inner))) ℕ SyntaxFault → Reading (List (Part tags (Parts inner)) × Unit {0}) ℕ SyntaxFault
  alone r = r >>= λ x. Ok ((x.0, tt), x.1)

  whole_is : Passes → whole ≡ alone (each (contents v))
  unfolding read finish_of
  whole_is h = rw h.0 (by_each (each (contents v))) where
    by_each : (r : Reading (List (Part tags (Parts inner))) ℕ SyntaxFault) → checked_after (ended r) ≡ alone r
    by_each (Ok x) = rw (h.1 x.1) refl
    by_each (Err e) = refl

  pub each_found : Passes → (input : Input) → input ≡ contents v → {V : Type 0} (f : List (Part tags (Parts inner)) → V) (w : V × ℕ)
      → Found {V = V × ℕ} (λ ps n. (f ps, n)) w (each input) → Found {V = V × ℕ} (λ p n. (f p.0, n)) w whole
  each_found h input at f w found = record {
    parts = (found.parts, tt);
    state = found.state;
    is = whole_is h ∙ ap (λ i. alone (each i)) (sym at) ∙ ap alone found.is;
    named = found.named;
  }

  each_fails : Passes → (input : Input) → input ≡ contents v → (e : SyntaxFault) → Unless (is_memory e) (each input ≡ Err e) → Unless (is_memory e) (whole ≡ Err e)
  each_fails h input at Memory u = tt
  each_fails h input at (At place kind) is = whole_is h ∙ ap (λ i. alone (each i)) (sym at) ∙ ap alone is

  pub each_refused : Passes → (input : Input) → input ≡ contents v → {V X : Type 0} (f : List (Part tags (Parts inner)) → V) (view : X → V) (after : X → ℕ) (r : Result X SyntaxFault) (e : SyntaxFault)
      → IsErrAnd r (λ d. d ≡ e) → Unless (is_memory e) (each input ≡ Err e) → Counts {V = V} (λ p. f p.0) view after r whole
  each_refused h input at f view after (Ok x) e is u = absurd is
  each_refused h input at f view after (Err d) e is u = rw is (each_fails h input at e u)
