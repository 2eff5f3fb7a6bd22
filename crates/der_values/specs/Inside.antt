-- What private functions of the crate say of each other.
use Rattle.std.specs.Prelude.{ℕ, Bool, List, ◌==◌, if◌then◌else◌, length}
use Rattle.std.specs.List.{list_all}
use Rattle.std.specs.declared.cmp.Ordering.{Ordering}
use Rattle.std.specs.declared.cmp.Ordering.TheVariants.{Less, Equal, Greater}
use Rattle.der_values.specs.declared.algorithm.AlgName.{AlgName}
use Rattle.der_values.specs.declared.example.CatalogueFault.{CatalogueFault}
use Rattle.der_values.specs.Input.{Input, Item}
use Rattle.der_values.specs.Shape.{tagged, unchecked, checked, checked_whole, unread}
use Rattle.der_values.specs.Reading.{Reading, body, read_each, read}
use Rattle.der_values.specs.Algorithm.{Name, name_of, name_seen, algorithm_shape, AlgorithmParts}
use Rattle.der_values.specs.Example.{hash_known, key_in_order, keys_shape, catalogue_contents, catalogue_shape, State, start, der, catalogue_checks, ContentsParts}

abbrev pub all_zero : List ℕ → Bool
all_zero bytes = list_all (λ b. b == 0) bytes

-- what one of two byte strings has over the other, against zeros
abbrev pub order_over : List ℕ → List ℕ → Ordering
order_over a b = if all_zero a then (if all_zero b then Equal else Less) else Greater

-- ---- the example: what is named of its parts, and their readings

-- the name of the hash, with the state after it
abbrev pub hash_named : AlgorithmParts → State → Name × State
hash_named p before = (name_of p, before)

-- what an AlgName says, with the state at the start
abbrev pub hash_seen : AlgName → Name × State
hash_seen a = (name_seen a, start)

abbrev pub hash_at : State → Item → Reading AlgorithmParts State CatalogueFault
hash_at before v = body catalogue_checks (tagged 0x30) (checked_whole hash_known) (read catalogue_checks algorithm_shape) before v

abbrev pub key_at : State → Item → Reading (List ℕ) State CatalogueFault
key_at before v = body catalogue_checks (tagged 0x04) (checked key_in_order) (read catalogue_checks unread) before v

abbrev pub each_key : Input → Reading (List (List ℕ)) State CatalogueFault
each_key input = read_each der (tagged 0x04) key_at (length input.left) start input

abbrev pub keys_at : State → Item → Reading (List (List ℕ) × Unit {0}) State CatalogueFault
keys_at before v = body catalogue_checks (tagged 0x30) unchecked (read catalogue_checks keys_shape) before v

abbrev pub contents_at : Input → Reading ContentsParts State CatalogueFault
contents_at input = read catalogue_checks catalogue_contents start input

abbrev pub catalogue_at : Input → Reading (ContentsParts × Unit {0}) State CatalogueFault
catalogue_at input = read catalogue_checks catalogue_shape start input
