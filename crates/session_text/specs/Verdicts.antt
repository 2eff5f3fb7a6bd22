-- The one line of a verdict.
use Rattle.std.specs.Prelude.{◌≡◌, ℕ, List, [], ◌∷◌, ◌++◌, codes, decimal, flat_map, Option, Some, None}
use Rattle.civil_moment.specs.Moment.{Text}
use Rattle.evidence_verify.specs.declared.verdict.Cause.{Cause}
use Rattle.evidence_verify.specs.declared.verdict.Cause.TheVariants.{Key, Hash}
use Rattle.evidence_verify.specs.declared.verdict.Verdict.{Verdict}
use Rattle.evidence_verify.specs.declared.verdict.Verdict.TheVariants.{Valid, Syntax, BadStamp, MixedHash, OutOfOrder, NotCovered, NotWhole, Early, Lapsed}
use Rattle.session_text.specs.FaultTexts.{check_text, syntax_kind_name}

-- a name, and numbers behind it
abbrev pub numbered : List ℕ → List ℕ → List ℕ
numbered name numbers = name ++ flat_map (λ n. 32 ∷ decimal n) numbers

-- the name of a cause
abbrev pub cause_name : Cause → List ℕ
cause_name Key = codes "key"
cause_name Hash = codes "hash"

-- the verdict that a value isn't covered: its chain, its time-stamp, and its document or a hyphen
abbrev pub uncovered_text : ℕ → ℕ → Option ℕ → List ℕ
uncovered_text chain stamp None = numbered (codes "uncovered") (chain ∷ stamp ∷ []) ++ codes " -"
uncovered_text chain stamp (Some document) = numbered (codes "uncovered") (chain ∷ stamp ∷ document ∷ [])

-- the words of a verdict, with the texts of its moments
abbrev pub verdict_words : Verdict → List ℕ → List ℕ → List ℕ
verdict_words Valid first second = codes "valid"
verdict_words (Syntax place kind) first second = numbered (codes "syntax") (place ∷ []) ++ 32 ∷ syntax_kind_name kind
verdict_words (BadStamp chain stamp check) first second = numbered (codes "stamp") (chain ∷ stamp ∷ []) ++ 32 ∷ check_text check
verdict_words (MixedHash chain stamp) first second = numbered (codes "hash") (chain ∷ stamp ∷ [])
verdict_words (OutOfOrder chain stamp) first second = numbered (codes "order") (chain ∷ stamp ∷ [])
verdict_words (NotCovered chain stamp document) first second = uncovered_text chain stamp document
verdict_words (NotWhole chain) first second = numbered (codes "notwhole") (chain ∷ [])
verdict_words (Early moment last) first second = codes "early " ++ first ++ 32 ∷ second
verdict_words (Lapsed lapse) first second = numbered (codes "lapsed") (lapse.chain ∷ lapse.stamp ∷ []) ++ 32 ∷ cause_name lapse.cause ++ 32 ∷ first

-- the texts say its moments; there are none but in the last two
abbrev pub SaysMoments : Verdict → List ℕ → List ℕ → Type 0
SaysMoments (Early moment last) first second = Text first moment × Text second last
SaysMoments (Lapsed lapse) first second = Text first lapse.end × (second ≡ [])
SaysMoments verdict first second = (first ≡ []) × (second ≡ [])

-- The bytes are the line of the verdict.
pub record IsVerdictLine (line : List ℕ) (verdict : Verdict) : Type 0 where
  pub first : List ℕ
  pub second : List ℕ
  pub say : SaysMoments verdict first second
  pub is : line ≡ verdict_words verdict first second ++ 10 ∷ []

-- The line of the verdict was added to a text.
pub record AddsVerdict (before after : List ℕ) (verdict : Verdict) : Type 0 where
  pub line : List ℕ
  pub added : after ≡ before ++ line
  pub is_line : IsVerdictLine line verdict
