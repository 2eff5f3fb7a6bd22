-- TSTInfo (RFC 3161, 2.4.2):
--   TSTInfo ::= SEQUENCE {
--     version         INTEGER { v1(1) },
--     policy          TSAPolicyId,                    -- OBJECT IDENTIFIER
--     messageImprint  MessageImprint,
--     serialNumber    INTEGER,
--     genTime         GeneralizedTime,
--     accuracy        Accuracy              OPTIONAL, -- SEQUENCE
--     ordering        BOOLEAN          DEFAULT FALSE,
--     nonce           INTEGER               OPTIONAL,
--     tsa         [0] GeneralName           OPTIONAL,
--     extensions  [1] IMPLICIT Extensions   OPTIONAL }
use Rattle.std.specs.Prelude.{◌≡◌, ℕ, ◌^◌, ◌<◌, Bool, List, [], ◌∷◌, ◌++◌, length, Option, is_some, IfSome}
use Rattle.std.specs.Option.{option_map}
use Rattle.civil_moment.specs.declared.moment.Moment.{Moment}
use Rattle.civil_moment.specs.Moment.{Text}
use Rattle.der_values.specs.Value.{value}
use Rattle.der_values.specs.Typed.{IsInteger, IsOid}
use Rattle.der_values.specs.Shape.{tagged, unchecked, is_integer, is_oid, checked, Shape, nothing_more, unread, required, optional}
use Rattle.der_values.specs.Reading.{first}
use Rattle.der_values.specs.Grammar.{Means, from_start}
use Rattle.der_values.specs.Algorithm.{Name, name_of, name_seen, IsName}
use Rattle.tst_info.specs.declared.fault.TstFault.{TstFault}
use Rattle.tst_info.specs.declared.info.TstInfo.{TstInfo}
use Rattle.tst_info.specs.Checks.{StampCheck, version_one, generalized_time, true_alone, stamp_checks}
use Rattle.tst_info.specs.Imprint.{imprint_shape, ImprintParts, imprint_text}
use Rattle.tst_info.specs.Spelling.{flag_text, nonce_text}

-- ---- 1. the table; accuracy, tsa and extensions are not looked into

abbrev pub options_shape : Shape StampCheck
options_shape =
    optional (tagged 0x30) unchecked unread (
    optional (tagged 0x01) (checked true_alone) unread (
    optional (tagged 0x02) is_integer unread (
    optional (tagged 0xa0) unchecked unread (
    optional (tagged 0xa1) unchecked unread
    nothing_more))))

abbrev pub tst_contents_shape : Shape StampCheck
tst_contents_shape =
    required (tagged 0x02) (checked version_one) unread (
    required (tagged 0x06) is_oid unread (
    required (tagged 0x30) unchecked imprint_shape (
    required (tagged 0x02) is_integer unread (
    required (tagged 0x18) (checked generalized_time) unread
    options_shape))))

abbrev pub tst_shape : Shape StampCheck
tst_shape = required (tagged 0x30) unchecked tst_contents_shape nothing_more

-- ---- 2. the parts that are named; the time is a text in the table, and a moment in what the text says

pub record Tst (T : Type 0) : Type 0 where
  pub policy : List ℕ
  pub hash : Name
  pub imprint : List ℕ
  pub serial : List ℕ
  pub time : T
  pub ordering : Bool
  pub nonce : Option (List ℕ)

abbrev pub OptionsParts : Type 0
OptionsParts = Option (List ℕ) × (Option (List ℕ) × (Option (List ℕ) × (Option (List ℕ) × (Option (List ℕ) × Unit {0}))))

abbrev pub TstParts : Type 0
TstParts = List ℕ × (List ℕ × (ImprintParts × (List ℕ × (List ℕ × OptionsParts))))

abbrev pub tst_of : TstParts → Tst (List ℕ)
tst_of p = record {
  policy = p.1.0;
  hash = name_of p.1.1.0.0;
  imprint = p.1.1.0.1.0;
  serial = p.1.1.1.0;
  time = p.1.1.1.1.0;
  ordering = is_some p.1.1.1.1.1.1.0;
  nonce = p.1.1.1.1.1.1.1.0;
}

abbrev pub tst_seen : TstInfo → Tst Moment
tst_seen t = record {
  policy = t.policy.now;
  hash = name_seen t.hash;
  imprint = t.imprint.now;
  serial = t.serial.now;
  time = t.time;
  ordering = t.ordering;
  nonce = option_map (λ b. b.now) t.nonce;
}

-- the same with this text of its time
abbrev pub with_text : List ℕ → Tst Moment → Tst (List ℕ)
with_text text t = record {
  policy = t.policy;
  hash = t.hash;
  imprint = t.imprint;
  serial = t.serial;
  time = text;
  ordering = t.ordering;
  nonce = t.nonce;
}

-- ---- 3. its grammar and its first fault

-- The bytes are a TSTInfo with these parts, for some contents of what is not looked into.
pub record ReadsTst (bytes : List ℕ) (t : Tst Moment) : Type 0 where
  pub text : List ℕ
  pub said : Text text t.time
  pub meant : Means stamp_checks tst_shape tt (λ p σ. tst_of p.0) (from_start bytes) (with_text text t)

-- the first fault of the bytes as a TSTInfo, or none
abbrev pub tst_first_fault : List ℕ → Option TstFault
tst_first_fault bytes = first stamp_checks tst_shape tt (from_start bytes)

-- ---- 4. what is written: no accuracy, no tsa, no extensions

-- the contents of a TSTInfo as it is written
abbrev pub tst_contents : Tst (List ℕ) → List ℕ
tst_contents t =
    value 0x02 (1 ∷ [])
    ++ value 0x06 t.policy
    ++ value 0x30 (imprint_text t.hash t.imprint)
    ++ value 0x02 t.serial
    ++ value 0x18 t.time
    ++ flag_text t.ordering
    ++ nonce_text t.nonce

-- The bytes are the spelling of these parts, and of no others.
pub record WritesTst (bytes : List ℕ) (t : Tst Moment) : Type 0 where
  pub text : List ℕ
  pub said : Text text t.time
  pub is : bytes ≡ value 0x30 (tst_contents (with_text text t))

-- The parts have a spelling.
pub record HasTstSpelling (t : Tst Moment) : Type 0 where
  pub policy : IsOid t.policy
  pub hash : IsName t.hash
  pub serial : IsInteger t.serial
  pub nonce : IfSome t.nonce IsInteger
  pub short : (text : List ℕ) → Text text t.time → length (tst_contents (with_text text t)) < 2 ^ 32
