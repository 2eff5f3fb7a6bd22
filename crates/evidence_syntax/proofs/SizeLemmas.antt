-- How many bytes parts of an evidence record take, and that the whole is too long where a part is.
use Rattle.std.proofs.Common.{◌≡◌, ℕ, ◌+◌, ◌^◌, ◌<◌, ◌≤◌, List, [], ◌∷◌, ◌++◌, length, take, get_or, Option, Some, None, refl, sym, ap, subst, ◌∙◌, arith, lt-ltb, inl, inr}
use Rattle.std.specs.Prelude.{map}
use Rattle.std.specs.List.{flat_map}
use Rattle.std.proofs.lemmas.Bool.{cases_lt}
use Rattle.std.proofs.lemmas.List.{length-append}
use Rattle.der_values.specs.Value.{extra, length_octets, value, bytes_or_none}
use Rattle.der_values.proofs.Octets.{length-octets}
use Rattle.der_values.proofs.Values.{short_is, long_is_octets}
use Rattle.der_values.proofs.Lengths.{inner_shorter}
use Rattle.evidence_syntax.specs.Record.{EvidenceRecord}
use Rattle.evidence_syntax.specs.Text.{identifier_text, chain_text, names_text, sequence_spelling, record_contents}
use Rattle.evidence_syntax.specs.Inside.{value_size, IsSizeOf}
use Rattle.evidence_syntax.proofs.Parts.{viewed, one_more, one_shorter, front_no_longer}

-- ---- one value

none_extra : (n : ℕ) → n < 128 → extra n ≡ 0
unfolding extra
none_extra n lt = let t = lt-ltb n 128 lt in rw t refl

octets_are : (n : ℕ) → length (length_octets n) ≡ 1 + extra n
octets_are n =
    elim (cases_lt n 128) [
      | inl lt ↦ rw (short_is n lt, none_extra n lt) refl
      | inr le ↦ rw (long_is_octets n le) (omega (arith, length-octets (extra n) n))
    ]

pub value_is : (tag : ℕ) (content : List ℕ) → length (value tag content) ≡ value_size (length content)
unfolding value value_size
value_is tag content = omega (arith, length-append (length_octets (length content)) content, octets_are (length content))

pub value_of : (tag : ℕ) (content : List ℕ) (n : ℕ) → n ≡ length content → 0 + value_size n ≡ length (value tag content)
value_of tag content n is = omega (arith, value_is tag content, ap value_size is)

pub no_less : (n : ℕ) → n ≤ value_size n
unfolding value_size
no_less n = omega arith

-- ---- answers

-- a part is too long already
pub too_long : (part whole : ℕ) (r : Option ℕ) → part ≤ whole → (part < 2 ^ 32 → ⊥) → r ≡ None → IsSizeOf whole r
too_long part whole None le long is = λ short. long (omega (arith, le, short))
too_long part whole (Some n) le long is = absurd cc

pub same_size : (a b : ℕ) (r : Option ℕ) → a ≡ b → IsSizeOf a r → IsSizeOf b r
same_size a b r same is = subst (λ (n : ℕ). IsSizeOf n r) same is

-- ---- values of one tag, one behind the other

module _ {X : Type 0} (tag : ℕ) (inner : X → List ℕ) where
  abbrev text : X → List ℕ
  text x = value tag (inner x)

  with_one : (xs : List X) (i : ℕ) (x : X) (size one : ℕ) → i < length xs → x ≡ get_or xs i x → size ≡ length (flat_map text (take i xs)) → one ≡ length (inner x)
      → size + value_size one ≡ length (flat_map text (take (i + 1) xs))
  with_one xs i x size one h e before is =
      omega (arith, before, ap value_size is, value_is tag (inner x), ap length (one_more text xs i x h e), length-append (flat_map text (take i xs)) (text x))

  pub more : (xs : List X) (i : ℕ) (x : X) (size one after : ℕ) → i < length xs → x ≡ get_or xs i x → size ≡ length (flat_map text (take i xs)) → one ≡ length (inner x)
      → IsSizeOf (size + value_size one) (Some after) → IsSizeOf (length (flat_map text (take (i + 1) xs))) (Some after)
  more xs i x size one after h e before is sized = same_size _ _ (Some after) (with_one xs i x size one h e before is) sized

  pub one_too_long : (xs : List X) (i : ℕ) (x : X) (r : Option ℕ) → i < length xs → x ≡ get_or xs i x → (length (inner x) < 2 ^ 32 → ⊥) → r ≡ None → IsSizeOf (length (flat_map text xs)) r
  one_too_long xs i x None h e long is = λ short. long (inner_shorter tag (inner x) _ (one_shorter text xs i x _ h e short))
  one_too_long xs i x (Some n) h e long is = absurd cc

  pub all_too_long : (xs : List X) (i : ℕ) (x : X) (size one : ℕ) (r : Option ℕ) → i < length xs → x ≡ get_or xs i x → size ≡ length (flat_map text (take i xs)) → one ≡ length (inner x)
      → (size + value_size one < 2 ^ 32 → ⊥) → r ≡ None → IsSizeOf (length (flat_map text xs)) r
  all_too_long xs i x size one r h e before is long none =
      too_long (size + value_size one) _ r (omega (arith, with_one xs i x size one h e before is, front_no_longer text xs (i + 1))) long none

-- the same of what is seen of the items
module _ {X Y : Type 0} (view : X → Y) (tag : ℕ) (inner : Y → List ℕ) where
  abbrev seen_text : Y → List ℕ
  seen_text y = value tag (inner y)

  abbrev seen_inner : X → List ℕ
  seen_inner x = inner (view x)

  same : (xs : List X) → length (flat_map (text tag seen_inner) xs) ≡ length (flat_map seen_text (map view xs))
  same xs = ap length (sym (viewed view seen_text xs))

  pub more_seen : (xs : List X) (i : ℕ) (x : X) (size one after : ℕ) → i < length xs → x ≡ get_or xs i x → size ≡ length (flat_map seen_text (map view (take i xs))) → one ≡ length (inner (view x))
      → IsSizeOf (size + value_size one) (Some after) → IsSizeOf (length (flat_map seen_text (map view (take (i + 1) xs)))) (Some after)
  more_seen xs i x size one after h e before is sized =
      same_size _ _ (Some after) (same (take (i + 1) xs)) (more tag seen_inner xs i x size one after h e (before ∙ sym (same (take i xs))) is sized)

  pub one_seen_too_long : (xs : List X) (i : ℕ) (x : X) (r : Option ℕ) → i < length xs → x ≡ get_or xs i x → (length (inner (view x)) < 2 ^ 32 → ⊥) → r ≡ None
      → IsSizeOf (length (flat_map seen_text (map view xs))) r
  one_seen_too_long xs i x r h e long is = same_size _ _ r (same xs) (one_too_long tag seen_inner xs i x r h e long is)

  pub all_seen_too_long : (xs : List X) (i : ℕ) (x : X) (size one : ℕ) (r : Option ℕ) → i < length xs → x ≡ get_or xs i x → size ≡ length (flat_map seen_text (map view (take i xs))) → one ≡ length (inner (view x))
      → (size + value_size one < 2 ^ 32 → ⊥) → r ≡ None → IsSizeOf (length (flat_map seen_text (map view xs))) r
  all_seen_too_long xs i x size one r h e before is long none =
      same_size _ _ r (same xs) (all_too_long tag seen_inner xs i x size one r h e (before ∙ sym (same (take i xs))) is long none)

-- ---- the parts of a whole

-- an identifier and what stands behind it
pub name_size : (oid params : List ℕ) (behind one : ℕ) → behind ≡ length params → one ≡ length oid → behind + value_size one ≡ length (value 6 oid ++ params)
name_size oid params behind one b o = omega (arith, b, ap value_size o, value_is 6 oid, length-append (value 6 oid) params)

-- all parts of a record
pub record_size : (r : EvidenceRecord) (infos names chains : ℕ) → infos ≡ length (bytes_or_none r.crypto) + length (bytes_or_none r.encryption)
    → names ≡ length (flat_map identifier_text r.algorithms) → chains ≡ length (flat_map chain_text r.chains)
    → infos + value_size 1 + value_size names + value_size chains ≡ length (record_contents r)
record_size r infos names chains around named chained =
    let version = value 2 (1 ∷ []) in
    let hashes = names_text r.algorithms in
    let crypto = bytes_or_none r.crypto in
    let encryption = bytes_or_none r.encryption in
    let sequence = sequence_spelling r.chains in
    omega (
      arith,
      around,
      ap value_size named,
      ap value_size chained,
      value_is 2 (1 ∷ []),
      value_is 48 (flat_map identifier_text r.algorithms),
      value_is 48 (flat_map chain_text r.chains),
      length-append (version ++ hashes ++ crypto ++ encryption) sequence,
      length-append (version ++ hashes ++ crypto) encryption,
      length-append (version ++ hashes) crypto,
      length-append version hashes,
    )
