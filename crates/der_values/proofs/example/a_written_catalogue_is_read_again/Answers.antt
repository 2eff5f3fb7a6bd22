use Rattle.std.proofs.Common.{◌≡◌, ◌<◌, ◌^◌, ℕ, List, [], ◌∷◌, ◌++◌, length, None, Ok, refl, arith}
use Rattle.std.proofs.lemmas.List.{append-nil, length-append}
use Rattle.der_values.specs.Value.{value}
use Rattle.der_values.specs.Typed.{oid_of}
use Rattle.der_values.specs.Shape.{Parts, tagged, unchecked, checked, checked_whole, spell}
use Rattle.der_values.specs.Reading.{at_header}
use Rattle.der_values.specs.Grammar.{ValidValue, Valid}
use Rattle.der_values.specs.Algorithm.{AlgorithmParts, plain, algorithm_shape, algorithm_of}
use Rattle.der_values.specs.Example.{start, sha256, CatalogueCheck, catalogue_checks, keys_shape, catalogue_contents, hash_known, known_hash, key_in_order, key_after}
use Rattle.der_values.proofs.Values.{value_length}
use Rattle.der_values.proofs.Again.{again}
use Rattle.der_values.proofs.Padded.{empty_is_least}
use Rattle.der_values.proofs.Written.{item, value_valid, algorithm_valid, algorithm_text}
use Rattle.der_values.proofs.example.a_written_catalogue_is_read_again.Goals as goal

abbrev hash_parts : AlgorithmParts
hash_parts = (sha256, (None, tt))

is_oid_sha256 : (place : ℕ) → oid_of (item place 6 sha256) ≡ Ok sha256
unfolding oid_of
is_oid_sha256 place = refl

hash_read : (place : ℕ) → algorithm_of (record { place = place; left = spell {C = CatalogueCheck} algorithm_shape hash_parts }) ≡ Ok (hash_parts, tt)
unfolding algorithm_of spell
hash_read place = again plain algorithm_shape tt place hash_parts tt (algorithm_valid plain tt place sha256 (omega arith) (is_oid_sha256 place))

hash_valid : (place : ℕ) → ValidValue catalogue_checks (tagged 48) (checked_whole hash_known) (Valid catalogue_checks algorithm_shape) (spell {C = CatalogueCheck} algorithm_shape) start place hash_parts start
unfolding known_hash
hash_valid place = record {
  before = start;
  after = start;
  low_tag = λ e. omega arith;
  short = rw (algorithm_text CatalogueCheck sha256) (omega (arith, value_length 6 sha256));
  header_passes = refl;
  inside = algorithm_valid catalogue_checks start _ sha256 (omega arith) (is_oid_sha256 _);
  end_passes = rw (hash_read _) refl;
}

key_passes : (place : ℕ) (key : List ℕ) → at_header catalogue_checks (checked key_in_order) start (item place 4 key) ≡ Ok (value 4 key)
unfolding key_after
key_passes place key = rw (empty_is_least (value 4 key)) refl

keys_text : (key : List ℕ) → spell keys_shape (key ∷ [], tt) ≡ value 4 key
unfolding spell
keys_text key = simp append-nil refl

keys_short : (key : List ℕ) → length key < 2 ^ 31 → length (spell keys_shape (key ∷ [], tt)) < 2 ^ 32
keys_short key short = rw (keys_text key) (omega (arith, value_length 4 key))

keys_valid : (place : ℕ) (key : List ℕ) → length key < 2 ^ 31 → ValidValue catalogue_checks (tagged 48) unchecked (Valid catalogue_checks keys_shape) (spell keys_shape) start place (key ∷ [], tt) (value 4 key)
unfolding Valid spell
keys_valid place key short = record {
  before = start;
  after = value 4 key;
  low_tag = λ e. omega arith;
  short = keys_short key short;
  header_passes = refl;
  inside = (value 4 key, (value 4 key, value_valid catalogue_checks 4 (checked key_in_order) start (value 4 key) (value 4 key) _ key (λ e. omega arith) (omega arith) (key_passes _ key) refl, refl), refl, refl);
  end_passes = refl;
}

abbrev contents_parts : List ℕ → Parts catalogue_contents
contents_parts key = (hash_parts, (None, ((key ∷ [], tt), tt)))

contents_text : (key : List ℕ) → spell catalogue_contents (contents_parts key) ≡ value 48 (value 6 sha256) ++ value 48 (value 4 key)
unfolding spell
contents_text key = simp append-nil refl

contents_short : (key : List ℕ) → length key < 2 ^ 31 → length (spell catalogue_contents (contents_parts key)) < 2 ^ 32
contents_short key short = rw (contents_text key) (omega (arith, length-append (value 48 (value 6 sha256)) (value 48 (value 4 key)), value_length 48 (value 6 sha256), value_length 6 sha256, value_length 48 (value 4 key), value_length 4 key))

contents_valid : (place : ℕ) (key : List ℕ) → length key < 2 ^ 31 → ValidValue catalogue_checks (tagged 48) unchecked (Valid catalogue_checks catalogue_contents) (spell catalogue_contents) start place (contents_parts key) (value 4 key)
unfolding Valid spell value
contents_valid place key short = record {
  before = start;
  after = value 4 key;
  low_tag = λ e. omega arith;
  short = contents_short key short;
  header_passes = refl;
  inside = (start, hash_valid _, (start, (refl, refl), (value 4 key, keys_valid _ key short, refl)));
  end_passes = refl;
}

pub returns : goal.returns
unfolding Valid
returns c = λ key short. record {
  parts = _;
  state = value 4 key;
  valid = (value 4 key, contents_valid 0 key short, refl);
  spelled = refl;
  named = refl;
}
