-- The input of a verification:
--
--     verify member|whole MOMENT
--     policy N              and N bytes, at most 262,144
--     record N              and N bytes, at most 16,777,216
--     doc N                 and N bytes, at most 1,048,576; 1 to 64 times
use Rattle.std.specs.Prelude.{◌≡◌, ℕ, zero, suc, ◌≤◌, List, [], ◌∷◌, ◌++◌, length, flat_map, codes, Option, Some, None, Result, Ok, Err, if◌then◌else◌}
use Rattle.std.specs.List.{AllByRecursion}
use Rattle.std.specs.Str.{bytes_eq}
use Rattle.civil_moment.specs.declared.moment.Moment.{Moment}
use Rattle.algorithm_policy.specs.Text.{longest_policy}
use Rattle.civil_moment.specs.Moment.{Text}
use Rattle.der_values.specs.Steps.{◌>>=◌}
use Rattle.der_values.specs.Next.{is_empty}
use Rattle.object_groups.specs.Groups.{most_documents, longest_document}
use Rattle.evidence_syntax.specs.Record.{longest_record}
use Rattle.evidence_verify.specs.declared.verdict.Mode.{Mode}
use Rattle.evidence_verify.specs.declared.verdict.Mode.TheVariants.{Member, Whole}
use Rattle.session_text.specs.declared.shape.ShapeFault.{ShapeFault}
use Rattle.session_text.specs.declared.shape.ShapeKind.{ShapeKind}
use Rattle.session_text.specs.declared.shape.ShapeKind.TheVariants.{Word, Limit}
use Rattle.session_text.specs.declared.verify_input.VerifyInput.{VerifyInput}
use Rattle.session_text.specs.Unread.{Unread, Reading, shape_fault, followed}
use Rattle.session_text.specs.Words.{word_at, separator_at, keyword_at, time_at}
use Rattle.session_text.specs.Counted.{counted_at, counted_text}

-- ---- the parts, and their one spelling

pub record Verification : Type 0 where
  pub mode : Mode
  pub moment : Moment
  pub policy : List ℕ
  pub evidence : List ℕ
  pub documents : List (List ℕ)

abbrev pub mode_text : Mode → List ℕ
mode_text Member = codes "member"
mode_text Whole = codes "whole"

abbrev pub document_text : List ℕ → List ℕ
document_text document = counted_text (codes "doc") document

-- with the text of the moment
abbrev pub verification_text : Verification → List ℕ → List ℕ
verification_text v time =
    codes "verify" ++ (32 ∷ (mode_text v.mode ++ (32 ∷ (time ++ (10 ∷
    (counted_text (codes "policy") v.policy ++ (counted_text (codes "record") v.evidence ++ flat_map document_text v.documents)))))))

-- The bytes are a verification with these parts, within the limits.
pub record IsVerification (bytes : List ℕ) (v : Verification) : Type 0 where
  pub time : List ℕ
  pub says : Text time v.moment
  pub spelled : bytes ≡ verification_text v time
  pub policy : length v.policy ≤ longest_policy
  pub evidence : length v.evidence ≤ longest_record
  pub some : 1 ≤ length v.documents
  pub few : length v.documents ≤ most_documents
  pub each : AllByRecursion (λ d. length d ≤ longest_document) v.documents

-- ---- its reading from the left

unfoldable pub mode_in : ℕ → List ℕ → Result Mode ShapeFault
mode_in place word =
    if bytes_eq word (codes "member") then Ok Member
    else if bytes_eq word (codes "whole") then Ok Whole
    else shape_fault place Word

unfoldable pub mode_at : ℕ → Unread → Reading Mode
mode_at separator unread =
    word_at unread >>= λ w. mode_in unread.place w.0 >>= λ m. separator_at separator w.1 >>= λ u. Ok (m, u.1)

abbrev pub document_at : Unread → Reading (List ℕ)
document_at unread = counted_at (codes "doc") longest_document unread

-- behind the last document that may stand here: a further `doc` is one too many
abbrev pub extra_kind : List ℕ → ShapeKind
extra_kind word = if bytes_eq word (codes "doc") then Limit else Word

-- up to the end, further documents, so many at most
unfoldable pub documents_at : ℕ → Unread → Reading (List (List ℕ))
documents_at zero unread =
    if is_empty unread.bytes then Ok ([], unread)
    else word_at unread >>= λ w. shape_fault unread.place (extra_kind w.0)
documents_at (suc most) unread =
    if is_empty unread.bytes then Ok ([], unread)
    else document_at unread >>= λ d. documents_at most d.1 >>= λ ds. Ok (d.0 ∷ ds.0, ds.1)

-- at least one, and 64 at most
abbrev pub all_documents_at : Unread → Reading (List ℕ × List (List ℕ))
all_documents_at = followed document_at (documents_at 63)

-- what a reading gives: the mode, the moment, the policy, the record, the documents
abbrev pub VerifyParts : Type 0
VerifyParts = Unit {0} × (Mode × (List ℕ × (List ℕ × (List ℕ × (List ℕ × List (List ℕ))))))

-- the input of a verification from here on
abbrev pub verify_at : Unread → Reading VerifyParts
verify_at =
    followed (keyword_at (codes "verify") 32) (
    followed (mode_at 32) (
    followed (time_at 10) (
    followed (counted_at (codes "policy") longest_policy) (
    followed (counted_at (codes "record") longest_record)
    all_documents_at))))

-- all of the bytes, from place 0
abbrev pub from_start : List ℕ → Unread
from_start bytes = record { place = 0; bytes = bytes }

-- the fault of a reading, or none
abbrev pub fault_of : {A : Type 0} → Reading A → Option ShapeFault
fault_of (Ok x) = None
fault_of (Err e) = Some e

-- the first fault from the left, or none
abbrev pub verify_first_fault : List ℕ → Option ShapeFault
verify_first_fault bytes = fault_of (verify_at (from_start bytes))

-- ---- what is seen of it in memory

-- what a VerifyInput says
abbrev pub verification_seen : VerifyInput → Verification
verification_seen v = record { mode = v.mode; moment = v.moment; policy = v.policy.now; evidence = v.evidence.now; documents = v.documents }
