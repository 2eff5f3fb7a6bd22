-- An example of a format by a table. In ASN.1:
--   Catalogue ::= SEQUENCE {
--     hash      AlgorithmIdentifier,         -- id-sha256 without parameters
--     complete  BOOLEAN OPTIONAL,            -- TRUE where it stands
--     keys      SEQUENCE OF OCTET STRING }   -- none below the one before, in the order of a SET OF
use Rattle.std.specs.Prelude.{ℕ, Bool, false, ◌&&◌, List, [], ◌∷◌, length, Option, None, Result, Ok, Err, if◌then◌else◌, is_some, is_none}
use Rattle.std.specs.Ordering.{is_gt}
use Rattle.std.specs.Str.{bytes_eq}
use Rattle.der_values.specs.declared.fault.DerFault.{DerFault}
use Rattle.der_values.specs.declared.fault.DerKind.TheVariants.{BadValue}
use Rattle.der_values.specs.declared.example.Catalogue.{Catalogue}
use Rattle.der_values.specs.declared.example.CatalogueFault.{CatalogueFault}
use Rattle.der_values.specs.declared.example.CatalogueKind.{CatalogueKind}
use Rattle.der_values.specs.declared.example.CatalogueKind.TheVariants.{Der, UnknownHash, KeyOrder}
use Rattle.der_values.specs.Input.{Item}
use Rattle.der_values.specs.Value.{value}
use Rattle.der_values.specs.Steps.{◌>>=◌, lift}
use Rattle.der_values.specs.Next.{contents}
use Rattle.der_values.specs.Typed.{boolean_of}
use Rattle.der_values.specs.Order.{set_order_of}
use Rattle.der_values.specs.Shape.{tagged, unchecked, checked, checked_whole, Shape, nothing_more, unread, required, optional, repeated, Checks, spell}
use Rattle.der_values.specs.Reading.{first}
use Rattle.der_values.specs.Grammar.{Means, from_start}
use Rattle.der_values.specs.Algorithm.{Name, name_of, name_seen, algorithm_of, algorithm_shape, AlgorithmParts}

-- ---- 1. the names of the checks, and the table

pub data CatalogueCheck : Type 0 where
  hash_known : CatalogueCheck
  is_true : CatalogueCheck
  key_in_order : CatalogueCheck

abbrev pub keys_shape : Shape CatalogueCheck
keys_shape = repeated (tagged 0x04) (checked key_in_order) unread nothing_more

abbrev pub catalogue_contents : Shape CatalogueCheck
catalogue_contents =
    required (tagged 0x30) (checked_whole hash_known) algorithm_shape (
    optional (tagged 0x01) (checked is_true) unread (
    required (tagged 0x30) unchecked keys_shape
    nothing_more))

abbrev pub catalogue_shape : Shape CatalogueCheck
catalogue_shape = required (tagged 0x30) unchecked catalogue_contents nothing_more

-- ---- 2. what the checks mean; the state is the encoding of the key before

abbrev pub State : Type 0
State = List ℕ

abbrev pub start : State
start = []

abbrev pub der : DerFault → CatalogueFault
der e = record { place = e.place; kind = Der e.kind }

abbrev pub catalogue_fault : {A : Type 0} → ℕ → CatalogueKind → Result A CatalogueFault
catalogue_fault place kind = Err (record { place = place; kind = kind })

-- id-sha256 (RFC 5754, 2.2)
abbrev pub sha256 : List ℕ
sha256 = 96 ∷ 134 ∷ 72 ∷ 1 ∷ 101 ∷ 3 ∷ 4 ∷ 2 ∷ 1 ∷ []

-- the name is id-sha256, without parameters
abbrev pub is_sha256 : Name → Bool
is_sha256 name = bytes_eq name.oid sha256 && is_none name.params

-- the hash is id-sha256 without parameters
unfoldable pub known_hash : State → Item → Result State CatalogueFault
known_hash before v = lift der (algorithm_of (contents v)) >>= λ x. if is_sha256 (name_of x.0) then Ok before else catalogue_fault v.place UnknownHash

-- a BOOLEAN that is TRUE
unfoldable pub true_of : Item → Result (Unit {0}) CatalogueFault
true_of v = lift der (boolean_of v) >>= λ b. if b then Ok tt else catalogue_fault v.place (Der BadValue)

-- a key that isn't below the one before
unfoldable pub key_after : State → Item → Result State CatalogueFault
key_after before v = if is_gt (set_order_of before (value v.tag v.content)) then catalogue_fault v.place KeyOrder else Ok (value v.tag v.content)

-- the check of each name, on a value
abbrev pub judge : CatalogueCheck → State → Item → Result State CatalogueFault
judge hash_known before v = known_hash before v
judge is_true before v = true_of v >>= λ u. Ok before
judge key_in_order before v = key_after before v

-- what the names of the checks mean
abbrev pub catalogue_checks : Checks CatalogueCheck State CatalogueFault
catalogue_checks = record { der = der; at_value = judge; at_point = λ c before input. Ok before; holds = λ c before. false }

-- ---- 3. the parts that are named

pub record Parts : Type 0 where
  pub hash : Name
  pub is_complete : Bool
  pub keys : ℕ

abbrev pub ContentsParts : Type 0
ContentsParts = AlgorithmParts × (Option (List ℕ) × ((List (List ℕ) × Unit {0}) × Unit {0}))

abbrev pub parts_of : ContentsParts → Parts
parts_of p = record { hash = name_of p.0; is_complete = is_some p.1.0; keys = length p.1.1.0.0 }

abbrev pub parts_seen : Catalogue → Parts
parts_seen c = record { hash = name_seen c.hash; is_complete = c.is_complete; keys = c.keys }

-- ---- 4. its grammar, its first fault

-- The bytes are a catalogue with these parts.
abbrev pub ReadsCatalogue : List ℕ → Parts → Type 0
ReadsCatalogue bytes parts = Means catalogue_checks catalogue_shape start (λ p before. parts_of p.0) (from_start bytes) parts

-- the first fault of the bytes as a catalogue, or none
abbrev pub first_fault : List ℕ → Option CatalogueFault
first_fault bytes = first catalogue_checks catalogue_shape start (from_start bytes)

-- ---- 5. what the writer writes: a catalogue of one key, which is not complete

abbrev pub one_key : List ℕ → ContentsParts × Unit {0}
one_key key = (((sha256, (None, tt)), (None, ((key ∷ [], tt), tt))), tt)

abbrev pub one_key_text : List ℕ → List ℕ
one_key_text key = spell catalogue_shape (one_key key)

abbrev pub one_key_parts : Parts
one_key_parts = record { hash = record { oid = sha256; params = None }; is_complete = false; keys = 1 }
