-- What the private functions say of each other.
use Rattle.std.specs.Prelude.{◌≡◌, ℕ, ◌+◌, ◌<◌, ⊤, Bool, true, false, not, ◌||◌, List, [], ◌∷◌, ◌++◌, length, map, Option, Some, None, is_some, if◌then◌else◌}
use Rattle.std.specs.List.{list_all, list_any}
use Rattle.std.specs.Str.{bytes_eq}
use Rattle.civil_moment.specs.declared.moment.Moment.{Moment}
use Rattle.hash_kit.specs.declared.algorithm.HashAlg.{HashAlg}
use Rattle.hash_kit.specs.declared.algorithm.HashAlg.TheVariants.{Sha256, Sha384, Sha512}
use Rattle.civil_moment.specs.Moment.{Text, is_before}
use Rattle.hex.specs.Hex.{encode_lower}
use Rattle.algorithm_policy.specs.declared.fault.PolicyKind.{PolicyKind}
use Rattle.algorithm_policy.specs.declared.fault.PolicyKind.TheVariants.{Form, Order}
use Rattle.algorithm_policy.specs.declared.fault.PolicyFault.{PolicyFault}
use Rattle.algorithm_policy.specs.declared.fault.PolicyFault.TheVariants.{At, Memory}
use Rattle.algorithm_policy.specs.declared.fault.LineFault.{LineFault}
use Rattle.algorithm_policy.specs.declared.fault.LineFault.TheVariants.{Is, Memory as NoRoom}
use Rattle.algorithm_policy.specs.declared.signer.Signer.{Signer}
use Rattle.algorithm_policy.specs.declared.policy_line.PolicyLine.{PolicyLine}
use Rattle.algorithm_policy.specs.declared.policy_line.PolicyLine.TheVariants.{Hash, Authority}
use Rattle.algorithm_policy.specs.declared.line.AuthorityWords.{AuthorityWords}
use Rattle.algorithm_policy.specs.declared.line.Line.{Line as FoundLine}
use Rattle.algorithm_policy.specs.declared.line.Line.TheVariants.{Hash as FoundHash, Authority as FoundAuthority}
use Rattle.algorithm_policy.specs.Content.{Content, IsSigner, IsPolicy, is_below, hash_end}
use Rattle.algorithm_policy.specs.Text.{LineText, LinesText, policy_lines, ended, header}
use Rattle.algorithm_policy.specs.Fault.{Line, hash, authority, form_of, word_fault, Subject, algorithm, signer, subject_of, words, parts, place_fault, fault_in, first_fault}

-- the form of a line, without where its words lie in memory
abbrev pub seen_words : AuthorityWords → Line
seen_words w = authority w.name.now w.sid.now w.key.now w.cert.now w.end.now

abbrev pub seen : FoundLine → Line
seen (FoundHash alg end) = hash alg end.now
seen (FoundAuthority words) = seen_words words

-- The fault of a line is this one, or memory ran out.
abbrev pub Blames : LineFault → Option PolicyKind → Type 0
Blames (Is kind) fault = fault ≡ Some kind
Blames NoRoom fault = ⊤

-- the fault of the text, of which this is that of the line
abbrev pub fault_at : ℕ → LineFault → PolicyFault
fault_at line (Is kind) = At line kind
fault_at line NoRoom = Memory

-- The fault of a text is this one, or memory ran out.
abbrev pub Names : PolicyFault → Option (ℕ × PolicyKind) → Type 0
Names (At line kind) fault = fault ≡ Some (line, kind)
Names Memory fault = ⊤

-- ---- lines

abbrev pub line_subject : PolicyLine → Subject
line_subject (Hash alg end) = algorithm alg
line_subject (Authority s) = signer s.name s.sid

abbrev pub subjects : Content → List Subject
subjects policy = map line_subject (policy_lines policy)

abbrev pub IsPolicyLine : PolicyLine → Type 0
IsPolicyLine (Hash alg end) = ⊤
IsPolicyLine (Authority s) = IsSigner s

-- the words say this authority
pub record SaysSigner (a b c d e : List ℕ) (s : Signer) : Type 0 where
  pub valid : IsSigner s
  pub name : a ≡ s.name
  pub sid : b ≡ encode_lower s.sid
  pub key : c ≡ encode_lower s.key
  pub cert : d ≡ encode_lower s.cert
  pub end : Text e s.end
  pub subject : subject_of (authority a b c d e) ≡ signer s.name s.sid
  pub sound : word_fault (authority a b c d e) ≡ None

abbrev pub Says : Line → Signer → Type 0
Says (hash alg end) s = ⊥
Says (authority a b c d e) s = SaysSigner a b c d e s

-- the line says this, and nothing is wrong with its words
pub record SaysLine (line : List ℕ) (said : PolicyLine) : Type 0 where
  pub valid : IsPolicyLine said
  pub text : LineText line said
  pub form : Line
  pub is : form_of (words line) ≡ Some form
  pub subject : subject_of form ≡ line_subject said
  pub sound : word_fault form ≡ None

-- what is wrong with the form of a line or its words
abbrev pub own_fault : Option Line → Option PolicyKind
own_fault None = Some Form
own_fault (Some form) = word_fault form

-- ---- reading line by line

-- the policy took in the first line of what was left
pub record TakesLine (old new : Content) (left after : List ℕ) : Type 0 where
  pub valid : IsPolicy new
  pub line : List ℕ
  pub said : PolicyLine
  pub spelled : left ≡ line ++ 10 ∷ after
  pub text : LineText line said
  pub added : policy_lines new ≡ policy_lines old ++ said ∷ []
  pub faults : (number : ℕ) → fault_in number (subjects old) (parts 10 left) ≡ fault_in (number + 1) (subjects new) (parts 10 after)

-- the first of the lines that are left, of whatever number, has this fault, or memory ran out
abbrev pub BlamesFirst : LineFault → List Subject → List ℕ → Type 0
BlamesFirst f before left = (number : ℕ) → Names (fault_at number f) (fault_in number before (parts 10 left))

-- the policy is what the lines so far say, and the first fault is among those that are left
pub record ReadSoFar (text left : List ℕ) (number : ℕ) (policy : Content) : Type 0 where
  pub valid : IsPolicy policy
  pub lines : List (List ℕ)
  pub say : LinesText lines (policy_lines policy)
  pub front : text ≡ ended lines ++ left
  pub counted : number ≡ 2 + length (policy_lines policy)
  pub faults : fault_in 2 [] (parts 10 text) ≡ fault_in number (subjects policy) (parts 10 left)

-- all lines say the policy
pub record SayPolicy (text : List ℕ) (policy : Content) : Type 0 where
  pub valid : IsPolicy policy
  pub lines : List (List ℕ)
  pub say : LinesText lines (policy_lines policy)
  pub spelled : text ≡ ended lines

-- ---- taking in a line

abbrev pub is_nil : {A : Type 0} → List A → Bool
is_nil [] = true
is_nil (x ∷ xs) = false

-- this algorithm or a later one is named
abbrev pub names_later : Content → HashAlg → Bool
names_later policy Sha256 = is_some policy.sha256 || is_some policy.sha384 || is_some policy.sha512
names_later policy Sha384 = is_some policy.sha384 || is_some policy.sha512
names_later policy Sha512 = is_some policy.sha512

abbrev pub names_from : Content → HashAlg → Bool
names_from policy alg = names_later policy alg || not (is_nil policy.signers)

abbrev pub hash_fault : Content → HashAlg → Option PolicyKind
hash_fault policy alg = if names_from policy alg then Some Order else None

abbrev pub next_fault : Content → PolicyLine → Option PolicyKind
next_fault policy said = place_fault (subjects policy) (line_subject said)

-- the authority may come next
pub record MayCome (policy : Content) (next : Signer) : Type 0 where
  pub valid : IsPolicy policy
  pub is : IsSigner next
  pub below : list_all (λ s. is_below s.name next.name) policy.signers ≡ true
  pub new : list_any (λ s. bytes_eq s.sid next.sid) policy.signers ≡ false
  pub few : length policy.signers < 64

-- the policy took in what a line says, which is in its place
pub record Adds (old new : Content) (said : PolicyLine) : Type 0 where
  pub valid : IsPolicy new
  pub added : policy_lines new ≡ policy_lines old ++ said ∷ []
  pub placed : next_fault old said ≡ None

-- ---- the target

-- the second where it ends later, else the first
abbrev pub later_of : Content → HashAlg → HashAlg → HashAlg
later_of policy first second =
    if is_before (hash_end policy first) (hash_end policy second) then second else first

-- the text is the header's line and then these lines
pub record IsBehindHeader (text lines : List ℕ) : Type 0 where
  pub is : text ≡ header ++ 10 ∷ lines
  pub faults : first_fault text ≡ fault_in 2 [] (parts 10 lines)

-- ---- writing

-- lines that say this were added
pub record Writes (old new : List ℕ) (added : List PolicyLine) : Type 0 where
  pub lines : List (List ℕ)
  pub say : LinesText lines added
  pub is : new ≡ old ++ ended lines

-- a space, the moment and a line feed were added
pub record EndsLine (old new : List ℕ) (end : Moment) : Type 0 where
  pub time : List ℕ
  pub text : Text time end
  pub is : new ≡ old ++ 32 ∷ time ++ 10 ∷ []
