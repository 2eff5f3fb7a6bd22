-- A written TSTInfo is read again.
use Rattle.std.proofs.Common.{◌≡◌, ℕ, ◌<◌, ◌^◌, Bool, true, false, List, [], ◌∷◌, ◌++◌, length, Option, Some, None, Ok, refl, sym, ap, ◌∙◌, append_assoc, arith}
use Rattle.std.specs.Prelude.{IfSome, is_some}
use Rattle.std.proofs.lemmas.List.{append-nil}
use Rattle.civil_moment.specs.declared.moment.Moment.{Moment}
use Rattle.civil_moment.specs.Moment.{Text}
use Rattle.civil_moment.proofs.FirstFault.{no_fault}
use Rattle.der_values.specs.Value.{value}
use Rattle.der_values.specs.Typed.{integer_of, boolean_of, version_of, IsInteger}
use Rattle.der_values.specs.Shape.{tagged, unchecked, is_integer, checked, unread, spell}
use Rattle.der_values.specs.Reading.{at_header}
use Rattle.der_values.specs.Grammar.{ValidValue, Valid, Means, from_start}
use Rattle.der_values.proofs.Written.{item, integer_passes, oid_passes, name_named, value_valid, oid_valid, integer_valid}
use Rattle.tst_info.specs.Checks.{StampCheck, version_one, generalized_time, true_alone, stamp_checks, true_of, time_of}
use Rattle.tst_info.specs.Imprint.{imprint_text}
use Rattle.tst_info.specs.Spelling.{flag_text, nonce_text}
use Rattle.tst_info.specs.Info.{Tst, options_shape, OptionsParts, tst_contents_shape, TstParts, tst_shape, tst_of, with_text, ReadsTst, tst_contents, WritesTst, HasTstSpelling}
use Rattle.tst_info.proofs.Lengths.{tst_shorter}
use Rattle.tst_info.proofs.Readable.{imprint_parts, imprint_spelled, imprint_valid}

-- ---- single values

pub version_passes : (place : ℕ) → at_header stamp_checks (checked version_one) tt (item place 2 (1 ∷ [])) ≡ Ok tt
unfolding version_of integer_of
version_passes place = refl

pub true_passes : (place : ℕ) → at_header stamp_checks (checked true_alone) tt (item place 1 (255 ∷ [])) ≡ Ok tt
unfolding true_of boolean_of
true_passes place = refl

time_passes : (place : ℕ) (text : List ℕ) (moment : Moment) → Text text moment → at_header stamp_checks (checked generalized_time) tt (item place 24 text) ≡ Ok tt
unfolding time_of
time_passes place text moment said = rw (no_fault text moment said) refl

-- ---- what follows the time

pub flag_part : Bool → Option (List ℕ)
flag_part false = None
flag_part true = Some (255 ∷ [])

flag_named : (flag : Bool) → is_some (flag_part flag) ≡ flag
unfolding flag_part
flag_named false = refl
flag_named true = refl

abbrev options_parts : Bool → Option (List ℕ) → OptionsParts
options_parts ordering nonce = (None, (flag_part ordering, (nonce, (None, (None, tt)))))

options_spelled : (ordering : Bool) (nonce : Option (List ℕ)) → spell options_shape (options_parts ordering nonce) ≡ flag_text ordering ++ nonce_text nonce
unfolding flag_part spell
options_spelled false None = refl
options_spelled false (Some n) = append-nil (value 2 n)
options_spelled true None = refl
options_spelled true (Some n) = ap (λ rest. value 1 (255 ∷ []) ++ rest) (append-nil (value 2 n))

nonce_valid : (place : ℕ) (n : List ℕ) → IsInteger n → length n < 2 ^ 32 → ValidValue stamp_checks (tagged 2) is_integer (Valid stamp_checks unread) (spell {C = StampCheck} unread) tt place n tt
nonce_valid place n is short = integer_valid stamp_checks tt place n short (integer_passes place n is)

options_valid : (place : ℕ) (ordering : Bool) (nonce : Option (List ℕ)) → IfSome nonce IsInteger → IfSome nonce (λ n. length n < 2 ^ 32) → Valid stamp_checks options_shape tt place (options_parts ordering nonce) tt
unfolding flag_part Valid spell value
options_valid place false None is short = (tt, (refl, refl), (tt, (refl, refl), (tt, (refl, refl), (tt, (refl, refl), (tt, (refl, refl), refl)))))
options_valid place false (Some n) is short = (tt, (refl, refl), (tt, (refl, refl), (tt, nonce_valid _ n is short, (tt, (refl, refl), (tt, (refl, refl), refl)))))
options_valid place true None is short = (tt, (refl, refl), (tt, value_valid stamp_checks 1 (checked true_alone) tt tt tt _ (255 ∷ []) (λ e. omega arith) (omega arith) (true_passes _) refl, (tt, (refl, refl), (tt, (refl, refl), (tt, (refl, refl), refl)))))
options_valid place true (Some n) is short = (tt, (refl, refl), (tt, value_valid stamp_checks 1 (checked true_alone) tt tt tt _ (255 ∷ []) (λ e. omega arith) (omega arith) (true_passes _) refl, (tt, nonce_valid _ n is short, (tt, (refl, refl), (tt, (refl, refl), refl)))))

-- ---- the SEQUENCE

regrouped : (a b c d e f g : List ℕ) → a ++ (b ++ (c ++ (d ++ (e ++ (f ++ g))))) ≡ a ++ b ++ c ++ d ++ e ++ f ++ g
regrouped a b c d e f g = simp append_assoc refl

module _ (t : Tst Moment) (text : List ℕ) (is : HasTstSpelling t) (said : Text text t.time) where
  abbrev parts : TstParts
  parts = (1 ∷ [], (t.policy, (imprint_parts t.hash is.hash t.imprint, (t.serial, (text, options_parts t.ordering t.nonce)))))

  named : tst_of parts ≡ with_text text t
  named i = record {
    policy = t.policy;
    hash = name_named t.hash is.hash i;
    imprint = t.imprint;
    serial = t.serial;
    time = text;
    ordering = flag_named t.ordering i;
    nonce = t.nonce;
  }

  spelled : spell tst_contents_shape parts ≡ tst_contents (with_text text t)
  unfolding spell
  spelled =
      (λ i. value 2 (1 ∷ []) ++ (value 6 t.policy ++ (value 48 (imprint_spelled t.hash is.hash t.imprint i) ++ (value 2 t.serial ++ (value 24 text ++ options_spelled t.ordering t.nonce i)))))
      ∙ regrouped (value 2 (1 ∷ [])) (value 6 t.policy) (value 48 (imprint_text t.hash t.imprint)) (value 2 t.serial) (value 24 text) (flag_text t.ordering) (nonce_text t.nonce)

  valid : (place : ℕ) → ValidValue stamp_checks (tagged 48) unchecked (Valid stamp_checks tst_contents_shape) (spell tst_contents_shape) tt place parts tt
  unfolding Valid spell
  valid place =
      let small = is.short text said in
      let short = tst_shorter (with_text text t) (2 ^ 32) small in
      record {
        before = tt;
        after = tt;
        low_tag = λ e. omega arith;
        short = rw spelled small;
        header_passes = refl;
        inside = (
          tt,
          value_valid stamp_checks 2 (checked version_one) tt tt tt _ (1 ∷ []) (λ e. omega arith) (omega arith) (version_passes _) refl,
          (
            tt,
            oid_valid stamp_checks tt _ t.policy short.policy (oid_passes _ t.policy is.policy),
            (
              tt,
              imprint_valid t.hash is.hash t.imprint _ short.imprint,
              (
                tt,
                integer_valid stamp_checks tt _ t.serial short.serial (integer_passes _ t.serial is.serial),
                (
                  tt,
                  value_valid stamp_checks 24 (checked generalized_time) tt tt tt _ text (λ e. omega arith) short.time (time_passes _ text t.time said) refl,
                  options_valid _ t.ordering t.nonce is.nonce short.nonce,
                ),
              ),
            ),
          ),
        );
        end_passes = refl;
      }

  means : Means stamp_checks tst_shape tt (λ p σ. tst_of p.0) (from_start (value 48 (tst_contents (with_text text t)))) (with_text text t)
  unfolding Valid spell
  means = record {
    parts = (parts, tt);
    state = tt;
    valid = (tt, valid 0, refl);
    spelled = ap (λ content. value 48 content) (sym spelled) ∙ sym (append-nil (value 48 (spell tst_contents_shape parts)));
    named = named;
  }

pub tst_read_again : (bytes : List ℕ) (t : Tst Moment) → HasTstSpelling t → WritesTst bytes t → ReadsTst bytes t
tst_read_again bytes t is w = record {
  text = w.text;
  said = w.said;
  meant = rw w.is (means t w.text is w.said);
}
