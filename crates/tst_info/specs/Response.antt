-- TimeStampResp (RFC 3161, 2.4.2):
--   TimeStampResp ::= SEQUENCE {
--     status          PKIStatusInfo,
--     timeStampToken  TimeStampToken        OPTIONAL } -- SEQUENCE
--   PKIStatusInfo ::= SEQUENCE {
--     status          PKIStatus,                       -- INTEGER { granted(0), grantedWithMods(1), .. }
--     .. }
use Rattle.std.specs.Prelude.{◌≡◌, ℕ, List, [], ◌∷◌, ◌++◌, Option, Some, None, Result, Ok, Err, false, nat_lt, nat_le, if◌then◌else◌}
use Rattle.der_values.specs.declared.fault.DerKind.{DerKind}
use Rattle.der_values.specs.declared.fault.DerKind.TheVariants.{BadValue, Trailing}
use Rattle.der_values.specs.Input.{Input, Item}
use Rattle.der_values.specs.Value.{value, bytes_or_none}
use Rattle.der_values.specs.Steps.{◌>>=◌, lift}
use Rattle.der_values.specs.Next.{is_empty}
use Rattle.der_values.specs.Typed.{integer_of, IsTagged}
use Rattle.der_values.specs.Shape.{tagged, unchecked, checked, Shape, nothing_more, unread, required, checkpoint, Checks}
use Rattle.der_values.specs.Reading.{starts, first}
use Rattle.der_values.specs.Grammar.{Means, from_start}
use Rattle.tst_info.specs.declared.fault.RespFault.{RespFault}
use Rattle.tst_info.specs.declared.fault.RespFault.TheVariants.{Der, NotGranted, NoToken}

-- ---- 1. the table; what stands behind the status is not looked at

pub data ResponseCheck : Type 0 where
  granted : ResponseCheck
  token_next : ResponseCheck

abbrev pub status_shape : Shape ResponseCheck
status_shape = required (tagged 0x02) (checked granted) unread unread

abbrev pub response_contents_shape : Shape ResponseCheck
response_contents_shape =
    required (tagged 0x30) unchecked status_shape (
    checkpoint token_next (
    required (tagged 0x30) unchecked unread
    nothing_more))

abbrev pub response_shape : Shape ResponseCheck
response_shape = required (tagged 0x30) unchecked response_contents_shape nothing_more

-- ---- 2. what the checks mean

-- a fault of the encoding, of this kind at this place
abbrev pub der_fault : {A : Type 0} → ℕ → DerKind → Result A RespFault
der_fault place kind = Err (Der (record { place = place; kind = kind }))

-- A status is one octet below 128; granted and grantedWithMods are 0 and 1.
abbrev pub judge_status : ℕ → List ℕ → Result (Unit {0}) RespFault
judge_status place [] = der_fault place BadValue
judge_status place (status ∷ []) =
    if nat_lt 127 status then der_fault place BadValue
    else (if nat_le status 1 then Ok tt else Err (NotGranted status))
judge_status place (a ∷ b ∷ bs) = der_fault place BadValue

-- status PKIStatus: an INTEGER, and then granted or grantedWithMods
unfoldable pub granted_of : Item → Result (Unit {0}) RespFault
granted_of v = lift Der (integer_of v) >>= judge_status v.place

-- A token follows, and nothing else may.
unfoldable pub token_next_of : Input → Result (Unit {0}) RespFault
token_next_of input =
    if is_empty input.left then Err NoToken
    else (if starts (tagged 0x30) input.left then Ok tt else der_fault input.place Trailing)

-- the check of each name, on a value
abbrev pub judge : ResponseCheck → Item → Result (Unit {0}) RespFault
judge granted v = granted_of v
judge token_next v = Ok tt

-- the check of each name, between two values
abbrev pub judge_next : ResponseCheck → Input → Result (Unit {0}) RespFault
judge_next granted input = Ok tt
judge_next token_next input = token_next_of input

-- what the names of the checks mean
abbrev pub response_checks : Checks ResponseCheck (Unit {0}) RespFault
response_checks = record { der = λ e. Der e; at_value = λ c σ v. judge c v; at_point = λ c σ input. judge_next c input; holds = λ c σ. false }

-- ---- 3. the part that is named, the grammar and the first fault

-- what a reading of a response gives
abbrev pub ResponseParts : Type 0
ResponseParts = (List ℕ × List ℕ) × (List ℕ × Unit {0})

-- all bytes of the token
abbrev pub token_of : ResponseParts → List ℕ
token_of p = value 0x30 p.1.0

-- The bytes are a response that grants this token, whatever stands behind the status.
abbrev pub ReadsResponse : List ℕ → List ℕ → Type 0
ReadsResponse bytes token = Means response_checks response_shape tt (λ p σ. token_of p.0) (from_start bytes) token

-- the first reason why the bytes give no token, or none
abbrev pub response_first_fault : List ℕ → Option RespFault
response_first_fault bytes = first response_checks response_shape tt (from_start bytes)

-- ---- 4. what is written: nothing behind the status

abbrev pub response_contents : ℕ → Option (List ℕ) → List ℕ
response_contents status token = value 0x30 (value 0x02 (status ∷ [])) ++ bytes_or_none token

abbrev pub response_text : ℕ → Option (List ℕ) → List ℕ
response_text status token = value 0x30 (response_contents status token)

-- the bytes of a token: a SEQUENCE, whatever stands in it
abbrev pub IsToken : List ℕ → Type 0
IsToken bytes = IsTagged 0x30 bytes

-- what a reader makes of them
abbrev pub granted_token : Option (List ℕ) → Result (List ℕ) RespFault
granted_token None = Err NoToken
granted_token (Some token) = Ok token

-- what a reader answers to a written response: its token, or why there is none
abbrev pub answer_to : ℕ → Option (List ℕ) → Result (List ℕ) RespFault
answer_to status token = if nat_le status 1 then granted_token token else Err (NotGranted status)

-- The bytes are a response with this answer.
abbrev pub Answers : List ℕ → Result (List ℕ) RespFault → Type 0
Answers bytes (Ok token) = ReadsResponse bytes token
Answers bytes (Err e) = response_first_fault bytes ≡ Some e
