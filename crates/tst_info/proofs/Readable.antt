-- A written imprint is valid in its table.
use Rattle.std.proofs.Common.{◌≡◌, ℕ, ◌<◌, ◌^◌, List, [], ◌++◌, length, Result, Ok, Err, refl, ap, ◌∙◌, arith}
use Rattle.std.specs.Prelude.{IfOk}
use Rattle.std.proofs.lemmas.List.{append-nil}
use Rattle.der_values.specs.Value.{value, bytes_or_none}
use Rattle.der_values.specs.Shape.{tagged, unchecked, spell}
use Rattle.der_values.specs.Grammar.{ValidValue, Valid}
use Rattle.der_values.specs.Algorithm.{Name, IsName, name_contents}
use Rattle.der_values.proofs.Lengths.{first_shorter, second_shorter}
use Rattle.der_values.proofs.Written.{value_valid, name_parts, name_spelled, name_valid}
use Rattle.tst_info.specs.Checks.{StampCheck, stamp_checks}
use Rattle.tst_info.specs.Imprint.{imprint_shape, ImprintParts, imprint_text}

pub if_ok : {T F : Type 0} {P Q : T → Type 0} (r : Result T F) → ((x : T) → P x → Q x) → IfOk r P → IfOk r Q
if_ok (Ok x) f p = f x p
if_ok (Err e) f p = tt

-- ---- the imprint

abbrev pub imprint_parts : (hash : Name) → IsName hash → List ℕ → ImprintParts
imprint_parts hash is imprint = (name_parts hash is, (imprint, tt))

pub imprint_spelled : (hash : Name) (is : IsName hash) (imprint : List ℕ) → spell imprint_shape (imprint_parts hash is imprint) ≡ imprint_text hash imprint
unfolding spell
imprint_spelled hash is imprint =
    ap (λ name. value 48 name ++ (value 4 imprint ++ [])) (name_spelled StampCheck hash is) ∙ ap (λ rest. value 48 (name_contents hash) ++ rest) (append-nil (value 4 imprint))

pub imprint_valid : (hash : Name) (is : IsName hash) (imprint : List ℕ) (place : ℕ) → length (imprint_text hash imprint) < 2 ^ 32
    → ValidValue stamp_checks (tagged 48) unchecked (Valid stamp_checks imprint_shape) (spell imprint_shape) tt place (imprint_parts hash is imprint) tt
unfolding Valid spell
imprint_valid hash is imprint place short =
    let name_short = first_shorter 48 (name_contents hash) (value 4 imprint) (2 ^ 32) short in
    let oid_short = first_shorter 6 hash.oid (bytes_or_none hash.params) (2 ^ 32) name_short in
    let imprint_short = second_shorter (value 48 (name_contents hash)) 4 imprint (2 ^ 32) short in
    record {
      before = tt;
      after = tt;
      low_tag = λ e. omega arith;
      short = rw (imprint_spelled hash is imprint) short;
      header_passes = refl;
      inside = (
        tt,
        record { before = tt; after = tt; low_tag = λ e. omega arith; short = rw (name_spelled StampCheck hash is) name_short; header_passes = refl; inside = name_valid stamp_checks tt hash is _ oid_short; end_passes = refl },
        (tt, value_valid stamp_checks 4 unchecked tt tt tt _ imprint (λ e. omega arith) imprint_short refl refl, refl),
      );
      end_passes = refl;
    }
