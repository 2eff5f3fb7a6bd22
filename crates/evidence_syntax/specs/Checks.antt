-- The checks on an evidence record. Their state is the number of archive time-stamps so far, over the whole record.
use Rattle.std.specs.Prelude.{ℕ, ◌+◌, Bool, true, false, length, Result, Ok, Err, nat_lt, if◌then◌else◌}
use Rattle.der_values.specs.declared.fault.DerFault.{DerFault}
use Rattle.der_values.specs.Input.{Item}
use Rattle.der_values.specs.Steps.{◌>>=◌}
use Rattle.der_values.specs.Next.{is_empty}
use Rattle.der_values.specs.Typed.{version_of}
use Rattle.der_values.specs.Shape.{Checks}
use Rattle.evidence_syntax.specs.declared.fault.SyntaxFault.{SyntaxFault}
use Rattle.evidence_syntax.specs.declared.fault.SyntaxFault.TheVariants.{At, Memory}
use Rattle.evidence_syntax.specs.declared.fault.SyntaxKind.{SyntaxKind}
use Rattle.evidence_syntax.specs.declared.fault.SyntaxKind.TheVariants.{Der, Version, Empty, ValueLength, TooMany}

-- the names of the checks
pub data RecordCheck : Type 0 where
  version_one : RecordCheck
  not_empty : RecordCheck
  hash_length : RecordCheck
  stamp_counted : RecordCheck

-- a fault of the encoding
abbrev pub der : DerFault → SyntaxFault
der e = At e.place (Der e.kind)

-- want of memory, which says nothing of the bytes
abbrev pub is_memory : SyntaxFault → Bool
is_memory Memory = true
is_memory (At place kind) = false

-- a fault of this kind at this place
abbrev pub syntax_fault : {A : Type 0} → ℕ → SyntaxKind → Result A SyntaxFault
syntax_fault place kind = Err (At place kind)

-- version INTEGER { v1(1) } (RFC 4998, 3.1)
abbrev pub version_at : Item → Result (Unit {0}) SyntaxFault
version_at v = version_of der (At v.place Version) v

-- A sequence, a chain, a reduced hash tree and a list of it have something in them.
unfoldable pub filled_of : Item → Result (Unit {0}) SyntaxFault
filled_of v = if is_empty v.content then syntax_fault v.place Empty else Ok tt

-- A value of a reduced hash tree has 1 to 64 bytes.
unfoldable pub hash_length_of : Item → Result (Unit {0}) SyntaxFault
hash_length_of v =
    if is_empty v.content then syntax_fault v.place ValueLength
    else if nat_lt 64 (length v.content) then syntax_fault v.place ValueLength
    else Ok tt

-- the most archive time-stamps of a record
abbrev pub most_stamps : ℕ
most_stamps = 200

-- A record has so many archive time-stamps at most.
unfoldable pub count_of : ℕ → Item → Result ℕ SyntaxFault
count_of stamps v = if nat_lt stamps most_stamps then Ok (stamps + 1) else syntax_fault v.place TooMany

-- the check of each name, on a value
abbrev pub judge : RecordCheck → ℕ → Item → Result ℕ SyntaxFault
judge version_one stamps v = version_at v >>= λ u. Ok stamps
judge not_empty stamps v = filled_of v >>= λ u. Ok stamps
judge hash_length stamps v = hash_length_of v >>= λ u. Ok stamps
judge stamp_counted stamps v = count_of stamps v

-- what the names of the checks mean
abbrev pub record_checks : Checks RecordCheck ℕ SyntaxFault
record_checks = record { der = der; at_value = judge; at_point = λ c stamps input. Ok stamps; holds = λ c stamps. false }
