-- A TSTInfo has one meaning, since the text of its time says one moment; bytes without a first fault are one.
use Rattle.std.proofs.Common.{◌≡◌, ℕ, List, Option, Some, None, Result, Ok, Err, refl, ap, subst}
use Rattle.std.specs.Prelude.{IfOk, IsOkAnd}
use Rattle.civil_moment.specs.declared.moment.Moment.{Moment}
use Rattle.civil_moment.specs.declared.fault.TimeFault.{TimeFault}
use Rattle.civil_moment.specs.Moment.{Text}
use Rattle.civil_moment.specs.Fault.{first_fault}
use Rattle.civil_moment.proofs.FirstFault.{one_moment}
use Rattle.civil_moment.proofs.Said.{said}
use Rattle.der_values.specs.Shape.{spell}
use Rattle.der_values.specs.Grammar.{Valid, from_start}
use Rattle.der_values.proofs.Accepted.{last_inside}
use Rattle.der_values.proofs.Octets.{IsBytes}
use Rattle.der_values.proofs.Meaning.{found_means, is_only, one_meaning, free_means}
use Rattle.tst_info.specs.declared.fault.TstFault.{TstFault}
use Rattle.tst_info.specs.declared.info.TstInfo.{TstInfo}
use Rattle.tst_info.specs.Checks.{time_answer, time_of, stamp_checks}
use Rattle.tst_info.specs.Info.{Tst, TstParts, tst_contents_shape, tst_shape, tst_of, tst_seen, with_text, ReadsTst, tst_first_fault}
use Rattle.tst_info.specs.Inside.{tst_at, FindsTst}

-- the parts with this moment
abbrev with_moment : {T : Type 0} → Moment → Tst T → Tst Moment
with_moment moment t = record {
  policy = t.policy;
  hash = t.hash;
  imprint = t.imprint;
  serial = t.serial;
  time = moment;
  ordering = t.ordering;
  nonce = t.nonce;
}

same_tst : (a b : List ℕ) (t u : Tst Moment) → Text a t.time → Text b u.time → with_text a t ≡ with_text b u → t ≡ u
same_tst a b t u s r e =
    let texts : a ≡ b = ap (λ (x : Tst (List ℕ)). x.time) e in
    let moments = one_moment b t.time u.time (subst (λ x. Text x t.time) texts s) r in
    λ i. with_moment (moments i) (e i)

pub one_tst : (bytes : List ℕ) (t u : Tst Moment) → ReadsTst bytes t → ReadsTst bytes u → t ≡ u
one_tst bytes t u m n =
    same_tst m.text n.text t u m.said n.said (one_meaning stamp_checks tst_shape tt (λ p σ. tst_of p.0) (from_start bytes) (with_text m.text t) (with_text n.text u) m.meant n.meant)

-- ---- the clauses of the reader

abbrev Finds : List ℕ → Result TstInfo TstFault → Type 0
Finds bytes r = FindsTst (λ (p : TstParts × Unit {0}). tst_of p.0) r (tst_at (from_start bytes))

pub tst_found : (bytes : List ℕ) (r : Result TstInfo TstFault) → IsBytes bytes → Finds bytes r → IfOk r (λ info. ReadsTst bytes (tst_seen info))
tst_found bytes (Ok info) fits h = record {
  text = h.text;
  said = h.said;
  meant = found_means stamp_checks tst_shape tt (λ p σ. tst_of p.0) (from_start bytes) (with_text h.text (tst_seen info)) fits h.found;
}
tst_found bytes (Err e) fits h = tt

pub tst_only : (bytes : List ℕ) (r : Result TstInfo TstFault) → Finds bytes r → (t : Tst Moment) → ReadsTst bytes t → IsOkAnd r (λ info. tst_seen info ≡ t)
tst_only bytes (Ok info) h t m =
    same_tst h.text m.text (tst_seen info) t h.said m.said (is_only stamp_checks tst_shape tt (λ p σ. tst_of p.0) (from_start bytes) (λ parts. parts) (Ok (with_text h.text (tst_seen info))) h.found (with_text m.text t) m.meant)
tst_only bytes (Err e) h t m =
    absurd (is_only stamp_checks tst_shape tt (λ p σ. tst_of p.0) (from_start bytes) (λ parts. parts) (Err e) h (with_text m.text t) m.meant)

-- ---- bytes without a first fault

no_time_fault : (place : ℕ) (o : Option TimeFault) (τ : Unit {0}) → time_answer place o ≡ Ok τ → o ≡ None
no_time_fault place None τ e = refl
no_time_fault place (Some fault) τ e = absurd cc

-- the time of valid parts says a moment
time_said : (place : ℕ) (p : TstParts) (τ : Unit {0}) → Valid stamp_checks tst_contents_shape tt place p τ → (moment : Moment) × Text (tst_of p).time moment
unfolding Valid spell time_of
time_said place p τ v =
    let text = (tst_of p).time in
    said text (no_time_fault _ (first_fault text) _ v.2.2.2.2.1.header_passes)

pub tst_without_fault : (bytes : List ℕ) → IsBytes bytes → tst_first_fault bytes ≡ None → (t : Tst Moment) × ReadsTst bytes t
tst_without_fault bytes fits none =
    let m = (free_means stamp_checks tst_shape tt (λ p σ. tst_of p.0) (from_start bytes) fits none).1 in
    let contents = last_inside stamp_checks 48 tst_contents_shape tt 0 m.parts m.state m.valid in
    let time = time_said contents.0 m.parts.0 m.state contents.1 in (
      with_moment time.0 (tst_of m.parts.0),
      record {
        text = (tst_of m.parts.0).time;
        said = time.1;
        meant = record { parts = m.parts; state = m.state; valid = m.valid; spelled = m.spelled; named = refl };
      },
    )
