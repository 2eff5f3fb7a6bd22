-- What the parts of the table spell is the spelling of what is named of them.
use Rattle.std.proofs.Common.{◌≡◌, ℕ, List, [], ◌∷◌, ◌++◌, Option, Some, None, Ok, refl, sym, ap, ◌∙◌, append_assoc, append-nil}
use Rattle.std.specs.Prelude.{map}
use Rattle.std.specs.List.{flat_map}
use Rattle.std.specs.Option.{option_map}
use Rattle.der_values.specs.Value.{value, bytes_or_none}
use Rattle.der_values.specs.Steps.{◌>>=◌}
use Rattle.der_values.specs.Shape.{spell_optional, spell}
use Rattle.der_values.specs.Grammar.{Valid}
use Rattle.der_values.specs.Algorithm.{name_of, AlgorithmParts, algorithm_shape}
use Rattle.der_values.proofs.Values.{bind_ok}
use Rattle.der_values.proofs.Written.{item}
use Rattle.der_values.proofs.Accepted.{version_is as only_one, name_again}
use Rattle.evidence_syntax.specs.declared.fault.SyntaxFault.TheVariants.{At}
use Rattle.evidence_syntax.specs.declared.fault.SyntaxKind.TheVariants.{Version}
use Rattle.evidence_syntax.specs.Checks.{RecordCheck, version_at, der}
use Rattle.evidence_syntax.specs.Lists.{ListParts, ListsParts, list_shape, lists_shape, lists_of}
use Rattle.evidence_syntax.specs.Stamps.{StampParts, ChainParts, SequenceParts, stamp_shape, chain_shape, sequence_shape, stamp_of, chain_of, chains_of}
use Rattle.evidence_syntax.specs.Record.{EvidenceRecord, AlgorithmsParts, RecordParts, algorithms_shape, record_contents_shape, algorithms_of, record_of, Spells}
use Rattle.evidence_syntax.specs.Text.{identifier_text, algorithm_text, list_text, tree_text, stamp_text, chain_text, sequence_spelling, names_text, record_contents, record_spelling}

version_is : (place : ℕ) (content : List ℕ) (σ τ : ℕ) → (version_at (item place 2 content) >>= λ u. Ok σ) ≡ Ok τ → content ≡ 1 ∷ []
version_is place content σ τ e =
    let checked = bind_ok (version_at (item place 2 content)) (λ u. Ok σ) τ e in
    only_one der (At place Version) place content checked.0 checked.1

-- ---- lists of parts

all_spelled : {Q V : Type 0} (f : Q → List ℕ) (text : V → List ℕ) (of : Q → V) → ((q : Q) → f q ≡ text (of q)) → (qs : List Q) → flat_map f qs ++ [] ≡ flat_map text (map of qs)
all_spelled f text of each [] = refl
all_spelled f text of each (q ∷ qs) = append_assoc (f q) (flat_map f qs) [] ∙ (λ i. each q i ++ all_spelled f text of each qs i)

passed_spelled : (tag : ℕ) (o : Option (List ℕ)) → spell_optional (λ (b : List ℕ). value tag b) o ≡ bytes_or_none (option_map (λ (b : List ℕ). value tag b) o)
passed_spelled tag None = refl
passed_spelled tag (Some b) = refl

names_spelled : (p : AlgorithmsParts) → spell algorithms_shape p ≡ flat_map identifier_text (algorithms_of p)
unfolding spell
names_spelled p = all_spelled (λ (q : AlgorithmParts). value 48 (spell {C = RecordCheck} algorithm_shape q)) identifier_text name_of (λ q. ap (λ t. value 48 t) (name_again RecordCheck q)) p.0

list_spelled : (p : ListParts) → value 48 (spell list_shape p) ≡ list_text p.0
unfolding spell
list_spelled p = ap (λ t. value 48 t) (append-nil (flat_map (λ (v : List ℕ). value 4 v) p.0))

lists_spelled : (p : ListsParts) → spell lists_shape p ≡ flat_map list_text (lists_of p)
unfolding spell
lists_spelled p = all_spelled (λ (q : ListParts). value 48 (spell list_shape q)) list_text (λ (q : ListParts). q.0) list_spelled p.0

algorithm_spelled : (o : Option AlgorithmParts) → spell_optional (λ (p : AlgorithmParts). value 160 (spell {C = RecordCheck} algorithm_shape p)) o ≡ algorithm_text (option_map name_of o)
algorithm_spelled None = refl
algorithm_spelled (Some p) = ap (λ t. value 160 t) (name_again RecordCheck p)

tree_spelled : (o : Option ListsParts) → spell_optional (λ (p : ListsParts). value 162 (spell lists_shape p)) o ≡ tree_text (option_map lists_of o)
tree_spelled None = refl
tree_spelled (Some p) = ap (λ t. value 162 t) (lists_spelled p)

-- ---- archive time-stamps and their chains

four : (a b c d : List ℕ) → a ++ (b ++ (c ++ (d ++ []))) ≡ a ++ b ++ c ++ d
four a b c d = ap (λ t. a ++ (b ++ (c ++ t))) (append-nil d) ∙ sym (append_assoc a b (c ++ d)) ∙ sym (append_assoc (a ++ b) c d)

stamp_spelled : (p : StampParts) → value 48 (spell stamp_shape p) ≡ stamp_text (stamp_of p)
unfolding spell
stamp_spelled p = ap (λ t. value 48 t) ((λ i. algorithm_spelled p.0 i ++ (passed_spelled 161 p.1.0 i ++ (tree_spelled p.1.1.0 i ++ (value 48 p.1.1.1.0 ++ []))))
    ∙ four (algorithm_text (option_map name_of p.0)) (bytes_or_none (option_map (λ (b : List ℕ). value 161 b) p.1.0)) (tree_text (option_map lists_of p.1.1.0)) (value 48 p.1.1.1.0))

chain_spelled : (p : ChainParts) → value 48 (spell chain_shape p) ≡ chain_text (chain_of p)
unfolding spell
chain_spelled p = ap (λ t. value 48 t) (all_spelled (λ (q : StampParts). value 48 (spell stamp_shape q)) stamp_text stamp_of stamp_spelled p.0)

pub sequence_contents : (p : SequenceParts) → spell sequence_shape p ≡ flat_map chain_text (chains_of p)
unfolding spell
sequence_contents p = all_spelled (λ (q : ChainParts). value 48 (spell chain_shape q)) chain_text chain_of chain_spelled p.0

pub sequence_spelled : (p : SequenceParts) → value 48 (spell sequence_shape p) ≡ sequence_spelling (chains_of p)
sequence_spelled p = ap (λ t. value 48 t) (sequence_contents p)

-- ---- a record

five : (a b c d e : List ℕ) → a ++ (b ++ (c ++ (d ++ (e ++ [])))) ≡ a ++ b ++ c ++ d ++ e
five a b c d e = ap (λ t. a ++ t) (four b c d e) ∙ regroup where
  regroup : a ++ (b ++ c ++ d ++ e) ≡ a ++ b ++ c ++ d ++ e
  regroup = sym (append_assoc a (b ++ c ++ d) e) ∙ ap (λ t. t ++ e) (sym (append_assoc a (b ++ c) d) ∙ ap (λ t. t ++ d) (sym (append_assoc a b c)))

pub contents_spelled : (p : RecordParts) → p.0 ≡ 1 ∷ [] → spell record_contents_shape p ≡ record_contents (record_of p)
unfolding spell
contents_spelled p one =
    (λ i. value 2 (one i) ++ (value 48 (names_spelled p.1.0 i) ++ (passed_spelled 160 p.1.1.0 i ++ (passed_spelled 161 p.1.1.1.0 i ++ (sequence_spelled p.1.1.1.1.0 i ++ [])))))
    ∙ five (value 2 (1 ∷ [])) (names_text (algorithms_of p.1.0)) (bytes_or_none (option_map (λ (b : List ℕ). value 160 b) p.1.1.0)) (bytes_or_none (option_map (λ (b : List ℕ). value 161 b) p.1.1.1.0)) (sequence_spelling (chains_of p.1.1.1.1.0))

pub one_spelling : (bytes : List ℕ) (r : EvidenceRecord) → Spells bytes r → bytes ≡ record_spelling r
unfolding Valid spell
one_spelling bytes r s =
    let m = s.means in
    let version = m.valid.1.inside.1 in
    let one = version_is _ m.parts.0.0 _ _ version.header_passes in
    m.spelled ∙ append-nil (value 48 (spell record_contents_shape m.parts.0)) ∙ ap (λ t. value 48 t) (contents_spelled m.parts.0 one) ∙ ap record_spelling m.named
