-- Bytes without a first fault are a record, and no first fault is want of memory.
use Rattle.std.proofs.Common.{◌≡◌, ℕ, zero, suc, Bool, true, false, List, length, Option, Some, None, Result, Ok, Err, refl, if◌then◌else◌}
use Rattle.std.specs.Prelude.{IfErr, nat_lt}
use Rattle.std.proofs.lemmas.Bool.{ltb-false}
use Rattle.der_values.specs.declared.fault.DerFault.{DerFault}
use Rattle.der_values.specs.Input.{Input, Item}
use Rattle.der_values.specs.Steps.{◌>>=◌, lift}
use Rattle.der_values.specs.Next.{is_empty, finish_of, contents}
use Rattle.der_values.specs.Typed.{integer_of, boolean_of, oid_of, is_one, version_of}
use Rattle.der_values.specs.Shape.{Tags, Check, unchecked, is_integer, is_boolean, is_oid, checked, checked_whole, Shape, nothing_more, unread, required, optional, repeated, checkpoint, depending, Parts}
use Rattle.der_values.specs.Reading.{header, optional_of, Reading, passes, at_header, at_end, body, body_optional, read_each, end_of, beside, read}
use Rattle.der_values.specs.Grammar.{from_start}
use Rattle.der_values.proofs.Octets.{IsBytes}
use Rattle.der_values.proofs.Meaning.{free_means}
use Rattle.evidence_syntax.specs.declared.fault.SyntaxFault.{SyntaxFault}
use Rattle.evidence_syntax.specs.declared.fault.SyntaxFault.TheVariants.{At, Memory}
use Rattle.evidence_syntax.specs.declared.fault.SyntaxKind.TheVariants.{TooLong}
use Rattle.evidence_syntax.specs.Checks.{RecordCheck, version_one, not_empty, hash_length, stamp_counted, der, is_memory, version_at, filled_of, hash_length_of, most_stamps, count_of, judge, record_checks}
use Rattle.evidence_syntax.specs.Record.{EvidenceRecord, record_shape, record_of, longest_record, Spells, record_first_fault}

-- ---- a fault has a place, whatever is read

-- a fault that was found is not want of memory
abbrev IsPlaced : {X : Type 0} → Result X SyntaxFault → Type 0
IsPlaced r = IfErr r (λ e. is_memory e ≡ false)

both_placed : {A B : Type 0} (r : Result A SyntaxFault) (f : A → Result B SyntaxFault) → IsPlaced r → ((x : A) → IsPlaced (f x)) → IsPlaced (r >>= f)
both_placed (Ok x) f h g = g x
both_placed (Err e) f h g = h

either_placed : {X : Type 0} (b : Bool) (r s : Result X SyntaxFault) → IsPlaced r → IsPlaced s → IsPlaced (if b then r else s)
either_placed true r s h g = h
either_placed false r s h g = g

lifted : {X : Type 0} (r : Result X DerFault) → IsPlaced (lift der r)
lifted (Ok x) = tt
lifted (Err e) = refl

passed : {X : Type 0} (stamps : ℕ) (r : Result X DerFault) → IsPlaced (passes der stamps r)
passed stamps (Ok x) = tt
passed stamps (Err e) = refl

judged : (c : RecordCheck) (stamps : ℕ) (v : Item) → IsPlaced (judge c stamps v)
unfolding version_of filled_of hash_length_of count_of
judged version_one stamps v =
    both_placed (version_at v) _ (both_placed (lift der (integer_of v)) _ (lifted (integer_of v)) (λ content. either_placed (is_one content) _ _ tt refl)) (λ u. tt)
judged not_empty stamps v = both_placed (filled_of v) _ (either_placed (is_empty v.content) _ _ refl tt) (λ u. tt)
judged hash_length stamps v =
    both_placed (hash_length_of v) _ (either_placed (is_empty v.content) _ _ refl (either_placed (nat_lt 64 (length v.content)) _ _ refl tt)) (λ u. tt)
judged stamp_counted stamps v = either_placed (nat_lt stamps most_stamps) _ _ tt refl

at_header_placed : (c : Check RecordCheck) (stamps : ℕ) (v : Item) → IsPlaced (at_header record_checks c stamps v)
at_header_placed unchecked stamps v = tt
at_header_placed is_integer stamps v = passed stamps (integer_of v)
at_header_placed is_boolean stamps v = passed stamps (boolean_of v)
at_header_placed is_oid stamps v = passed stamps (oid_of v)
at_header_placed (checked c) stamps v = judged c stamps v
at_header_placed (checked_whole c) stamps v = tt

at_end_placed : (c : Check RecordCheck) (stamps : ℕ) (v : Item) → IsPlaced (at_end record_checks c stamps v)
at_end_placed unchecked stamps v = tt
at_end_placed is_integer stamps v = tt
at_end_placed is_boolean stamps v = tt
at_end_placed is_oid stamps v = tt
at_end_placed (checked c) stamps v = tt
at_end_placed (checked_whole c) stamps v = judged c stamps v

module _ {P : Type 0} where
  body_placed : (tags : Tags) (c : Check RecordCheck) (inner : ℕ → Input → Reading P ℕ SyntaxFault) → ((stamps : ℕ) (input : Input) → IsPlaced (inner stamps input))
      → (stamps : ℕ) (v : Item) → IsPlaced (body record_checks tags c inner stamps v)
  body_placed tags c inner h stamps v =
      both_placed (at_header record_checks c stamps v) _ (at_header_placed c stamps v) (λ n.
      both_placed (inner n (contents v)) _ (h n (contents v)) (λ x.
      both_placed (at_end record_checks c x.1 v) _ (at_end_placed c x.1 v) (λ m. tt)))

  module _ (each : ℕ → Item → Reading P ℕ SyntaxFault) (placed : (stamps : ℕ) (v : Item) → IsPlaced (each stamps v)) where
    optional_placed : (stamps : ℕ) (o : Option Item) → IsPlaced (body_optional each stamps o)
    optional_placed stamps None = tt
    optional_placed stamps (Some v) = both_placed (each stamps v) _ (placed stamps v) (λ x. tt)

    each_placed : (tags : Tags) (n stamps : ℕ) (input : Input) → IsPlaced (read_each der tags each n stamps input)
    each_placed tags zero stamps input = tt
    each_placed tags (suc n) stamps input =
        either_placed (is_empty input.left) _ _ tt (both_placed (lift der (header tags input)) _ (lifted (header tags input)) (λ v.
        both_placed (each stamps v.0) _ (placed stamps v.0) (λ x.
        both_placed (read_each der tags each n x.1 v.1) _ (each_placed tags n x.1 v.1) (λ y. tt))))

-- a part, and those that follow it
both_parts : {P : Type 0} (next : Shape RecordCheck) → ((stamps : ℕ) (input : Input) → IsPlaced (read record_checks next stamps input))
    → (after : Input) (r : Reading P ℕ SyntaxFault) → IsPlaced r → IsPlaced (r >>= λ x. beside x.0 (read record_checks next x.1 after))
both_parts next placed after (Ok x) h = both_placed (read record_checks next x.1 after) _ (placed x.1 after) (λ y. tt)
both_parts next placed after (Err e) h = h

read_placed : (s : Shape RecordCheck) (stamps : ℕ) (input : Input) → IsPlaced (read record_checks s stamps input)
unfolding read
read_placed nothing_more stamps input = both_placed (lift der (finish_of input)) _ (lifted (finish_of input)) (λ u. tt)
read_placed unread stamps input = tt
read_placed (required tags c inner next) stamps input =
    both_placed (lift der (header tags input)) _ (lifted (header tags input)) (λ v.
    both_parts next (read_placed next) v.1 _ (body_placed tags c (read record_checks inner) (read_placed inner) stamps v.0))
read_placed (optional tags c inner next) stamps input =
    both_placed (lift der (optional_of tags input)) _ (lifted (optional_of tags input)) (λ v.
    both_parts next (read_placed next) v.1 _ (optional_placed _ (body_placed tags c (read record_checks inner) (read_placed inner)) stamps v.0))
read_placed (repeated tags c inner next) stamps input =
    both_parts next (read_placed next) (end_of input) _ (each_placed _ (body_placed tags c (read record_checks inner) (read_placed inner)) tags (length input.left) stamps input)
read_placed (checkpoint c next) stamps input = read_placed next stamps input
read_placed (depending c a b) stamps input = both_placed (read record_checks b stamps input) _ (read_placed b stamps input) (λ x. tt)

-- ---- the first fault of bytes

module _ (bytes : List ℕ) where
  abbrev reading : Reading (Parts record_shape) ℕ SyntaxFault
  reading = read record_checks record_shape 0 (from_start bytes)

  abbrev fault_in : Reading (Parts record_shape) ℕ SyntaxFault → Option SyntaxFault
  fault_in (Ok x) = None
  fault_in (Err e) = Some e

  abbrev fault_by : Bool → Option SyntaxFault
  fault_by long = if long then Some (At 0 TooLong) else fault_in reading

  pub no_memory : record_first_fault bytes ≡ Some Memory → ⊥
  no_memory e = by_length (nat_lt longest_record (length bytes)) e where
    by_reading : (r : Reading (Parts record_shape) ℕ SyntaxFault) → IsPlaced r → fault_in r ≡ Some Memory → ⊥
    by_reading (Ok x) placed e = cc
    by_reading (Err (At place kind)) placed e = cc
    by_reading (Err Memory) placed e = cc

    by_length : (long : Bool) → fault_by long ≡ Some Memory → ⊥
    by_length true e = cc
    by_length false e = by_reading reading (read_placed record_shape 0 (from_start bytes)) e

  pub record_without_fault : IsBytes bytes → record_first_fault bytes ≡ None → (r : EvidenceRecord) × Spells bytes r
  record_without_fault fits none = by_length (nat_lt longest_record (length bytes)) refl none where
    by_length : (long : Bool) → nat_lt longest_record (length bytes) ≡ long → fault_by long ≡ None → (r : EvidenceRecord) × Spells bytes r
    by_length true is none = absurd cc
    by_length false is none =
        let m = free_means record_checks record_shape 0 (λ p stamps. record_of p.0) (from_start bytes) fits none in
        (m.0, record { short = ltb-false longest_record (length bytes) is; means = m.1 })
