-- How the refusal of an entry is printed: the variant as its name in lower-case letters, then its values in order, each behind one
-- space, nested variants alike. A moment is generalized time (X.690, 11.7), and bytes are hexadecimal.
use Rattle.std.specs.Prelude.{◌≡◌, ℕ, List, [], ◌∷◌, ◌++◌, codes, decimal}
use Rattle.hex.specs.Hex.{encode_lower}
use Rattle.civil_moment.specs.Moment.{Text}
use Rattle.archive_chain.specs.declared.refusal.Full.{Full}
use Rattle.archive_chain.specs.declared.refusal.Full.TheVariants.{Groups, Documents, Bytes, Journal}
use Rattle.archive_chain.specs.declared.refusal.Refusal.{Refusal}
use Rattle.archive_chain.specs.declared.refusal.Refusal.TheVariants.{Limit, Count, NotLive, OtherHash, ChainFull, Token, Imprint, TokenEarly, BadPolicy, PolicyDrops, Memory}
use Rattle.session_text.specs.FaultTexts.{check_text, policy_kind_name}
use Rattle.session_text.specs.Verdicts.{numbered}

-- which limit would be passed, and the number that would result
abbrev pub full_text : Full → List ℕ
full_text (Groups number) = codes "groups " ++ decimal number
full_text (Documents number) = codes "documents " ++ decimal number
full_text (Bytes number) = codes "bytes " ++ decimal number
full_text (Journal number) = codes "journal " ++ decimal number

-- the bytes are the text of a refusal
abbrev pub IsRefusalText : Refusal → List ℕ → Type 0
IsRefusalText (Limit full) text = text ≡ codes "limit " ++ full_text full
IsRefusalText (Count count pending) text = text ≡ numbered (codes "count") (count ∷ pending ∷ [])
IsRefusalText (NotLive cohort) text = text ≡ numbered (codes "notlive") (cohort ∷ [])
IsRefusalText (OtherHash cohort) text = text ≡ numbered (codes "otherhash") (cohort ∷ [])
IsRefusalText (ChainFull id) text = text ≡ numbered (codes "chainfull") (id ∷ [])
IsRefusalText (Token check) text = text ≡ codes "token " ++ check_text check
IsRefusalText Imprint text = text ≡ codes "imprint"
IsRefusalText (TokenEarly token covered) text =
    (first second : List ℕ) × Text first token × Text second covered × (text ≡ codes "tokenearly " ++ first ++ 32 ∷ second)
IsRefusalText (BadPolicy line kind) text = text ≡ numbered (codes "badpolicy") (line ∷ []) ++ 32 ∷ policy_kind_name kind
IsRefusalText (PolicyDrops name) text = text ≡ codes "policydrops " ++ encode_lower name
IsRefusalText Memory text = text ≡ codes "memory"

-- The text of a refusal was added.
pub record AddsRefusal (before after : List ℕ) (refusal : Refusal) : Type 0 where
  pub text : List ℕ
  pub added : after ≡ before ++ text
  pub is : IsRefusalText refusal text
