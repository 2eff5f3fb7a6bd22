-- The tokens of a record are parts of its bytes, so their bytes are bytes.
use Rattle.std.proofs.Common.{ℕ, ◌+◌, List, [], ◌∷◌, ◌++◌, length, refl, subst, take_at, drop_at}
use Rattle.std.specs.List.{AllByRecursion, flat_map}
use Rattle.der_values.specs.Value.{length_octets, value, bytes_or_none}
use Rattle.der_values.proofs.Octets.{IsBytes, IsBytes-take, IsBytes-drop, IsBytes-rest}
use Rattle.evidence_syntax.specs.Stamps.{Stamp}
use Rattle.evidence_syntax.specs.Record.{EvidenceRecord, Spells}
use Rattle.evidence_syntax.specs.Text.{algorithm_text, tree_text, stamp_contents, stamp_text, chain_text, names_text, sequence_spelling, record_contents}
use Rattle.evidence_syntax.proofs.Spelled.{one_spelling}
use Rattle.evidence_verify.specs.Stamps.{Place, places_in, places_after, places_of}

-- ---- parts of bytes

front_fits : (a b : List ℕ) → IsBytes (a ++ b) → IsBytes a
front_fits a b fits = subst IsBytes (take_at a b (length a) refl) (IsBytes-take (length a) (a ++ b) fits)

back_fits : (a b : List ℕ) → IsBytes (a ++ b) → IsBytes b
back_fits a b fits = subst IsBytes (drop_at a b (length a) refl) (IsBytes-drop (length a) (a ++ b) fits)

content_fits : (tag : ℕ) (content : List ℕ) → IsBytes (value tag content) → IsBytes content
unfolding value
content_fits tag content fits = back_fits (length_octets (length content)) content (IsBytes-rest tag (length_octets (length content) ++ content) fits)

-- ---- the tokens in their places

abbrev pub TokenFits : Place → Type 0
TokenFits p = IsBytes p.ats.token

token_fits : (s : Stamp) → IsBytes (stamp_text s) → IsBytes s.token
token_fits s fits =
    back_fits (algorithm_text s.algorithm ++ bytes_or_none s.attributes ++ tree_text s.lists) s.token (content_fits 48 (stamp_contents s) fits)

in_chain : (older : List (List Stamp)) (number : ℕ) (chain : List Stamp) → IsBytes (flat_map stamp_text chain) → AllByRecursion TokenFits (places_in older number chain)
in_chain older number [] fits = tt
in_chain older number (s ∷ rest) fits =
    (token_fits s (front_fits (stamp_text s) (flat_map stamp_text rest) fits), in_chain older (number + 1) rest (back_fits (stamp_text s) (flat_map stamp_text rest) fits))

both_fit : (a b : List Place) → AllByRecursion TokenFits a → AllByRecursion TokenFits b → AllByRecursion TokenFits (a ++ b)
both_fit [] b h g = g
both_fit (p ∷ a) b h g = (h.0, both_fit a b h.1 g)

in_chains : (older chains : List (List Stamp)) → IsBytes (flat_map chain_text chains) → AllByRecursion TokenFits (places_after older chains)
in_chains older [] fits = tt
in_chains older (chain ∷ rest) fits =
    both_fit (places_in older 0 chain) (places_after (older ++ chain ∷ []) rest)
    (in_chain older 0 chain (content_fits 48 (flat_map stamp_text chain) (front_fits (chain_text chain) (flat_map chain_text rest) fits)))
    (in_chains (older ++ chain ∷ []) rest (back_fits (chain_text chain) (flat_map chain_text rest) fits))

pub tokens_fit : (bytes : List ℕ) (r : EvidenceRecord) → IsBytes bytes → Spells bytes r → AllByRecursion TokenFits (places_of r.chains)
tokens_fit bytes r fits spells =
    let contents = content_fits 48 (record_contents r) (subst IsBytes (one_spelling bytes r spells) fits) in
    let sequence = back_fits (value 2 (1 ∷ []) ++ names_text r.algorithms ++ bytes_or_none r.crypto ++ bytes_or_none r.encryption) (sequence_spelling r.chains) contents in
    in_chains [] r.chains (content_fits 48 (flat_map chain_text r.chains) sequence)
