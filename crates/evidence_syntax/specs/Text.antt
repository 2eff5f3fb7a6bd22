-- How the parts of an evidence record are spelled (RFC 4998, 3.1, 4.1 and 5.1, by the module with implicit tags).
use Rattle.std.specs.Prelude.{ℕ, List, [], ◌∷◌, ◌++◌, Option, Some, None}
use Rattle.std.specs.List.{flat_map}
use Rattle.der_values.specs.Value.{value, bytes_or_none}
use Rattle.der_values.specs.Algorithm.{Name, name_contents}
use Rattle.evidence_syntax.specs.Stamps.{Stamp}
use Rattle.evidence_syntax.specs.Record.{EvidenceRecord}

-- ---- the spellings

-- [0] AlgorithmIdentifier OPTIONAL
abbrev pub algorithm_text : Option Name → List ℕ
algorithm_text None = []
algorithm_text (Some name) = value 160 (name_contents name)

-- PartialHashtree
abbrev pub list_text : List (List ℕ) → List ℕ
list_text values = value 48 (flat_map (λ v. value 4 v) values)

-- [2] SEQUENCE OF PartialHashtree OPTIONAL
abbrev pub tree_text : Option (List (List (List ℕ))) → List ℕ
tree_text None = []
tree_text (Some lists) = value 162 (flat_map list_text lists)

-- the contents of an ArchiveTimeStamp
abbrev pub stamp_contents : Stamp → List ℕ
stamp_contents s = algorithm_text s.algorithm ++ bytes_or_none s.attributes ++ tree_text s.lists ++ s.token

-- ArchiveTimeStamp
abbrev pub stamp_text : Stamp → List ℕ
stamp_text s = value 48 (stamp_contents s)

-- ArchiveTimeStampChain
abbrev pub chain_text : List Stamp → List ℕ
chain_text stamps = value 48 (flat_map stamp_text stamps)

-- ArchiveTimeStampSequence
abbrev pub sequence_spelling : List (List Stamp) → List ℕ
sequence_spelling chains = value 48 (flat_map chain_text chains)

-- AlgorithmIdentifier (RFC 5280, 4.1.1.2)
abbrev pub identifier_text : Name → List ℕ
identifier_text name = value 48 (name_contents name)

-- SEQUENCE OF AlgorithmIdentifier
abbrev pub names_text : List Name → List ℕ
names_text names = value 48 (flat_map identifier_text names)

-- the contents of an EvidenceRecord
abbrev pub record_contents : EvidenceRecord → List ℕ
record_contents r =
    value 2 (1 ∷ [])
    ++ names_text r.algorithms
    ++ bytes_or_none r.crypto
    ++ bytes_or_none r.encryption
    ++ sequence_spelling r.chains

-- EvidenceRecord
abbrev pub record_spelling : EvidenceRecord → List ℕ
record_spelling r = value 48 (record_contents r)
