-- The one spelling of a policy as a text.
use Rattle.std.specs.Prelude.{◌≡◌, ℕ, ⊤, List, [], ◌∷◌, ◌++◌, map, codes, Option, Some, None}
use Rattle.std.specs.List.{join_with_byte}
use Rattle.civil_moment.specs.declared.moment.Moment.{Moment}
use Rattle.civil_moment.specs.Moment.{Text}
use Rattle.hash_kit.specs.Algorithm.{word_of}
use Rattle.hash_kit.specs.declared.algorithm.HashAlg.{HashAlg}
use Rattle.hash_kit.specs.declared.algorithm.HashAlg.TheVariants.{Sha256, Sha384, Sha512}
use Rattle.hex.specs.Hex.{encode_lower}
use Rattle.algorithm_policy.specs.declared.signer.Signer.{Signer}
use Rattle.algorithm_policy.specs.declared.policy_line.PolicyLine.{PolicyLine}
use Rattle.algorithm_policy.specs.declared.policy_line.PolicyLine.TheVariants.{Hash, Authority}
use Rattle.algorithm_policy.specs.Content.{Content, IsPolicy}

-- ---- lines

-- words, parted by one space
abbrev pub joined : List (List ℕ) → List ℕ
joined = join_with_byte 32

-- lines, each ended by a line feed
abbrev pub ended : List (List ℕ) → List ℕ
ended [] = []
ended (line ∷ rest) = line ++ 10 ∷ ended rest

-- the first line
abbrev pub header : List ℕ
header = codes "evidence policy 1"

-- `hash NAME END`
abbrev pub hash_line : HashAlg → List ℕ → List ℕ
hash_line alg end = joined (codes "hash" ∷ word_of alg ∷ end ∷ [])

-- `authority NAME SID KEY CERT END`, the bytes in lower-case hexadecimal
abbrev pub authority_line : Signer → List ℕ → List ℕ
authority_line s end = joined (codes "authority" ∷ s.name ∷ encode_lower s.sid ∷ encode_lower s.key ∷ encode_lower s.cert ∷ end ∷ [])

-- ---- what the lines behind the first say

abbrev pub end_of : PolicyLine → Moment
end_of (Hash alg end) = end
end_of (Authority signer) = signer.end

abbrev pub line_of : PolicyLine → List ℕ → List ℕ
line_of (Hash alg end) time = hash_line alg time
line_of (Authority signer) time = authority_line signer time

-- the line says this, with its end as generalized time
pub record LineText (line : List ℕ) (said : PolicyLine) : Type 0 where
  pub time : List ℕ
  pub end : Text time (end_of said)
  pub spelled : line ≡ line_of said time

-- line by line
abbrev pub LinesText : List (List ℕ) → List PolicyLine → Type 0
LinesText [] [] = ⊤
LinesText [] (first ∷ rest) = ⊥
LinesText (line ∷ lines) [] = ⊥
LinesText (line ∷ lines) (first ∷ rest) = LineText line first × LinesText lines rest

-- an algorithm that is named
abbrev pub named : HashAlg → Option Moment → List PolicyLine
named alg None = []
named alg (Some end) = Hash alg end ∷ []

-- the hash algorithms in their order, then the authorities in theirs
abbrev pub policy_lines : Content → List PolicyLine
policy_lines policy = named Sha256 policy.sha256 ++ named Sha384 policy.sha384 ++ named Sha512 policy.sha512 ++ map Authority policy.signers

-- ---- the text

-- the most bytes of a text where one is taken in
abbrev pub longest_policy : ℕ
longest_policy = 262_144

-- The text says this policy: the first line, and a line for each algorithm and each authority.
pub record PolicyText (text : List ℕ) (policy : Content) : Type 0 where
  pub valid : IsPolicy policy
  pub lines : List (List ℕ)
  pub say : LinesText lines (policy_lines policy)
  pub spelled : text ≡ ended (header ∷ lines)
