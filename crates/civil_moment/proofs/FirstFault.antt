-- The first fault of a text, and the one moment of a text that has none.
use Rattle.std.proofs.Common.{◌≡◌, ℕ, Bool, true, false, List, pos, refl, sym, ap, ◌∙◌, if◌then◌else◌}
use Rattle.std.specs.Prelude.{not, Result, Ok, Err, Option, Some, None, ◌<◌, ◌≤ℤ◌}
use Rattle.std.proofs.Props.{props}
use mathlib.Core.HLevel.{is_prop→PathP}
use Rattle.civil_moment.specs.declared.moment.Moment.{Moment}
use Rattle.civil_moment.specs.declared.fault.TimeFault.{TimeFault}
use Rattle.civil_moment.specs.declared.fault.TimeFault.TheVariants.{Shape, Fraction, Range}
use Rattle.civil_moment.specs.Moment.{Text, is_fraction, is_civil, seconds_of, nanos_of}
use Rattle.civil_moment.specs.Fault.{has_shape, fields_in, fraction_in, first_fault}
use Rattle.civil_moment.proofs.Shape.{pieces, Reads, reads}

-- ---- which fault it is

abbrev picked : Bool → Bool → Bool → Option TimeFault
picked shape fraction civil =
    if not shape then Some Shape else (if not fraction then Some Fraction else (if not civil then Some Range else None))

picked_shape : (a b c : Bool) → (a ≡ true → ⊥) → picked a b c ≡ Some Shape
picked_shape true b c h = absurd (h refl)
picked_shape false b c h = refl

picked_fraction : (a b c : Bool) → a ≡ true → (b ≡ true → ⊥) → picked a b c ≡ Some Fraction
picked_fraction true true c e h = absurd (h refl)
picked_fraction true false c e h = refl
picked_fraction false b c e h = cc

picked_range : (a b c : Bool) → a ≡ true → b ≡ true → (c ≡ true → ⊥) → picked a b c ≡ Some Range
picked_range true true true e f h = absurd (h refl)
picked_range true true false e f h = refl
picked_range true false c e f h = cc
picked_range false b c e f h = cc

pub shape_fault : (text : List ℕ) → (has_shape text ≡ true → ⊥) → first_fault text ≡ Some Shape
shape_fault text = picked_shape (has_shape text) (is_fraction (fraction_in text)) (is_civil (fields_in text))

pub fraction_fault : (text : List ℕ) → has_shape text ≡ true → (is_fraction (fraction_in text) ≡ true → ⊥) → first_fault text ≡ Some Fraction
fraction_fault text = picked_fraction (has_shape text) (is_fraction (fraction_in text)) (is_civil (fields_in text))

pub range_fault : (text : List ℕ) → has_shape text ≡ true → is_fraction (fraction_in text) ≡ true → (is_civil (fields_in text) ≡ true → ⊥) → first_fault text ≡ Some Range
range_fault text = picked_range (has_shape text) (is_fraction (fraction_in text)) (is_civil (fields_in text))

-- ---- a text that says a moment has no fault

text_reads : (text : List ℕ) (moment : Moment) (t : Text text moment) → Reads t.fields t.fraction
text_reads text moment t = reads t.fields t.fraction t.fourteen t.digits

fields_same : (text : List ℕ) (moment : Moment) (t : Text text moment) → fields_in text ≡ t.fields
fields_same text moment t = ap fields_in t.spelled ∙ (text_reads text moment t).fields_same

fraction_same : (text : List ℕ) (moment : Moment) (t : Text text moment) → fraction_in text ≡ t.fraction
fraction_same text moment t = ap fraction_in t.spelled ∙ (text_reads text moment t).fraction_same

pub no_fault : (text : List ℕ) (moment : Moment) → Text text moment → first_fault text ≡ None
no_fault text moment t =
    let a : has_shape text ≡ true = ap has_shape t.spelled ∙ (text_reads text moment t).shape in
    let b : is_fraction (fraction_in text) ≡ true = ap is_fraction (fraction_same text moment t) ∙ t.shortest in
    let c : is_civil (fields_in text) ≡ true = ap is_civil (fields_same text moment t) ∙ t.civil in
    λ i. picked (a i) (b i) (c i)

pub refused-only : (text : List ℕ) (f : TimeFault) (r : Result Moment TimeFault) → first_fault text ≡ Some f → (moment : Moment) → Text text moment → r ≡ Ok moment
refused-only text f r is moment t = let e = sym is ∙ no_fault text moment t in cc

pub refused-fault : (text : List ℕ) (f : TimeFault) (r : Result Moment TimeFault) → r ≡ Err f → first_fault text ≡ Some f → (fault : TimeFault) → (r ≡ Err fault → first_fault text ≡ Some fault) × (first_fault text ≡ Some fault → r ≡ Err fault)
refused-fault text f r e is fault = (λ same. cc, λ same. cc)

-- ---- the moment that is read

same_moment : (a b : Moment) → a.seconds ≡ b.seconds → a.nanos ≡ b.nanos → a ≡ b
same_moment a b p q i = record {
  seconds = p i;
  nanos = q i;
  from_1970 = is_prop→PathP (λ j. pos 0 ≤ℤ p j) (λ j. hlevel props) a.from_1970 b.from_1970 i;
  until_9999 = is_prop→PathP (λ j. p j ≤ℤ pos 253402300799) (λ j. hlevel props) a.until_9999 b.until_9999 i;
  below_second = is_prop→PathP (λ j. q j < 1000000000) (λ j. hlevel props) a.below_second b.below_second i;
}

pub read-text : (text : List ℕ) (moment : Moment) → has_shape text ≡ true → is_fraction (fraction_in text) ≡ true → is_civil (fields_in text) ≡ true → moment.seconds ≡ pos (seconds_of (fields_in text)) → moment.nanos ≡ nanos_of (fraction_in text) → Text text moment
read-text text moment shape fraction civil s n =
    let p = pieces text shape in
    record {
      fields = fields_in text;
      fraction = fraction_in text;
      spelled = p.spelled;
      fourteen = p.fourteen;
      digits = p.digits;
      shortest = fraction;
      civil = civil;
      seconds = s;
      nanos = n;
    }

pub read-only : (text : List ℕ) (moment : Moment) → moment.seconds ≡ pos (seconds_of (fields_in text)) → moment.nanos ≡ nanos_of (fraction_in text) → (other : Moment) → Text text other → moment ≡ other
read-only text moment s n other t =
    same_moment moment other
    (s ∙ ap (λ f. pos (seconds_of f)) (fields_same text other t) ∙ sym t.seconds)
    (n ∙ ap nanos_of (fraction_same text other t) ∙ sym t.nanos)

-- no text says two moments
pub one_moment : (text : List ℕ) (a b : Moment) → Text text a → Text text b → a ≡ b
one_moment text a b t u =
    read-only text a
    (t.seconds ∙ ap (λ f. pos (seconds_of f)) (sym (fields_same text a t)))
    (t.nanos ∙ ap nanos_of (sym (fraction_same text a t))) b u
