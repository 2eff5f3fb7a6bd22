-- What is first wrong with a text that is no policy: the line, counted from 1, and the kind.
use Rattle.std.specs.Prelude.{ℕ, ◌+◌, ◌==◌, Bool, true, false, not, ◌&&◌, nat_lt, nat_le, List, [], ◌∷◌, ◌++◌, codes, Option, Some, None, if◌then◌else◌, count_by}
use Rattle.std.specs.List.{list_all, list_any, slice_split}
use Rattle.std.specs.Option.{option_map}
use Rattle.std.specs.Str.{bytes_eq}
use Rattle.der_values.specs.Next.{is_empty}
use Rattle.hash_kit.specs.Algorithm.{place_of, algorithm_named}
use Rattle.hash_kit.specs.declared.algorithm.HashAlg.{HashAlg}
use Rattle.algorithm_policy.specs.declared.fault.PolicyKind.{PolicyKind}
use Rattle.algorithm_policy.specs.declared.fault.PolicyKind.TheVariants.{Header, Form, Name, Hex, Sid, Key, Cert, Date, Order, Twice, TooMany}
use Rattle.algorithm_policy.specs.Words.{is_name, is_hex, bytes_of, is_sid, is_key, is_cert, is_time}
use Rattle.algorithm_policy.specs.Content.{is_below}
use Rattle.algorithm_policy.specs.Text.{header}

-- ---- the form of a line

-- what stands between the separators
abbrev pub parts : ℕ → List ℕ → List (List ℕ)
parts separator text = slice_split (λ b. b == separator) text

-- the words of a line
abbrev pub words : List ℕ → List (List ℕ)
words line = parts 32 line

-- a line of one of the two forms, with its words
pub data Line : Type 0 where
  hash : (alg : HashAlg) (end : List ℕ) → Line
  authority : (name sid key cert end : List ℕ) → Line

-- the form of these words
abbrev pub form_of : List (List ℕ) → Option Line
form_of (keyword ∷ name ∷ end ∷ []) = if bytes_eq keyword (codes "hash") then option_map (λ alg. hash alg end) (algorithm_named name) else None
form_of (keyword ∷ name ∷ sid ∷ key ∷ cert ∷ end ∷ []) = if bytes_eq keyword (codes "authority") then Some (authority name sid key cert end) else None
form_of words = None

-- ---- what is wrong with its words

-- what is wrong with the words of a line, by their shapes: the name, the hexadecimal digits, the identifier, the key,
-- the certificate, the end
abbrev pub word_fault : Line → Option PolicyKind
word_fault (hash alg end) = if is_time end then None else Some Date
word_fault (authority name sid key cert end) =
    if not (is_name name) then Some Name
    else if not (is_hex sid && is_hex key && is_hex cert) then Some Hex
    else if not (is_sid (bytes_of sid)) then Some Sid
    else if not (is_key (bytes_of key)) then Some Key
    else if not (is_cert (bytes_of cert)) then Some Cert
    else if not (is_time end) then Some Date
    else None

-- ---- what is wrong with its place

-- what a line is about: an algorithm, or an authority by its name and its identifier
pub data Subject : Type 0 where
  algorithm : HashAlg → Subject
  signer : (name sid : List ℕ) → Subject

-- what a line is about
abbrev pub subject_of : Line → Subject
subject_of (hash alg end) = algorithm alg
subject_of (authority name sid key cert end) = signer name (bytes_of sid)

-- the second may stand after the first: algorithms in their order, then authorities, strictly ascending by name
abbrev pub may_follow : Subject → Subject → Bool
may_follow (algorithm a) (algorithm b) = nat_lt (place_of a) (place_of b)
may_follow (algorithm a) (signer name sid) = true
may_follow (signer name sid) (algorithm b) = false
may_follow (signer name sid) (signer other sid2) = is_below name other

-- both are authorities, of one identifier
abbrev pub share_sid : Subject → Subject → Bool
share_sid (signer name sid) (signer other sid2) = bytes_eq sid sid2
share_sid before subject = false

-- it is an authority
abbrev pub is_signer : Subject → Bool
is_signer (signer name sid) = true
is_signer (algorithm a) = false

-- what is wrong with a subject after those of the lines before
abbrev pub place_fault : List Subject → Subject → Option PolicyKind
place_fault before subject =
    if not (list_all (λ earlier. may_follow earlier subject) before) then Some Order
    else if list_any (λ earlier. share_sid earlier subject) before then Some Twice
    else if is_signer subject && nat_le 64 (count_by is_signer before) then Some TooMany
    else None

-- ---- the first fault

-- this one, or else that one
abbrev pub or_else : {A : Type 0} → Option A → Option A → Option A
or_else (Some x) other = Some x
or_else None other = other

-- a line of one of the two forms, after the subjects of the lines before
abbrev pub line_fault : List Subject → Line → Option PolicyKind
line_fault before line = or_else (word_fault line) (place_fault before (subject_of line))

-- The first fault of these lines, of which the first has this number. The last one isn't ended by a line feed, so it
-- has to be empty.
unfoldable pub fault_in : ℕ → List Subject → List (List ℕ) → Option (ℕ × PolicyKind)
fault_in number before [] = None
fault_in number before (line ∷ []) = if is_empty line then None else Some (number, Form)
fault_in number before (line ∷ next ∷ rest) = elim (form_of (words line)) [
  | None ↦ Some (number, Form)
  | Some found ↦ elim (line_fault before found) [
    | Some kind ↦ Some (number, kind)
    | None ↦ fault_in (number + 1) (before ++ subject_of found ∷ []) (next ∷ rest)
  ]
]

-- the lines behind the first one, which has to be the header and be ended
unfoldable pub fault_of_lines : List (List ℕ) → Option (ℕ × PolicyKind)
fault_of_lines [] = Some (1, Header)
fault_of_lines (line ∷ []) = Some (1, Header)
fault_of_lines (line ∷ next ∷ rest) = if bytes_eq line header then fault_in 2 [] (next ∷ rest) else Some (1, Header)

-- the first fault of a text with the number of its line, or none
abbrev pub first_fault : List ℕ → Option (ℕ × PolicyKind)
first_fault text = fault_of_lines (parts 10 text)
