-- Archive time-stamps, their chains, and the sequence of chains (RFC 4998, 4.1 and 5.1):
--   ArchiveTimeStampSequence ::= SEQUENCE OF ArchiveTimeStampChain
--   ArchiveTimeStampChain    ::= SEQUENCE OF ArchiveTimeStamp
--   ArchiveTimeStamp ::= SEQUENCE {
--     digestAlgorithm [0] AlgorithmIdentifier OPTIONAL,
--     attributes      [1] Attributes OPTIONAL,
--     reducedHashtree [2] SEQUENCE OF PartialHashtree OPTIONAL,
--     timeStamp       ContentInfo }
use Rattle.std.specs.Prelude.{ℕ, List, map, Option}
use Rattle.std.specs.Option.{option_map}
use Rattle.der_values.specs.Value.{value}
use Rattle.der_values.specs.Shape.{tagged, unchecked, checked, Shape, nothing_more, unread, required, optional, repeated}
use Rattle.der_values.specs.Grammar.{Means, from_start}
use Rattle.der_values.specs.Algorithm.{Name, name_of, name_seen, algorithm_shape, AlgorithmParts}
use Rattle.evidence_syntax.specs.declared.stamps.Ats.{Ats}
use Rattle.evidence_syntax.specs.declared.stamps.Chain.{Chain}
use Rattle.evidence_syntax.specs.Checks.{RecordCheck, not_empty, stamp_counted, record_checks}
use Rattle.evidence_syntax.specs.Lists.{lists_shape, ListsParts, lists_of}

-- ---- the tables; attributes and the time-stamp are not looked into

abbrev pub stamp_shape : Shape RecordCheck
stamp_shape =
    optional (tagged 160) unchecked algorithm_shape (
    optional (tagged 161) unchecked unread (
    optional (tagged 162) (checked not_empty) lists_shape (
    required (tagged 48) unchecked unread
    nothing_more)))

abbrev pub chain_shape : Shape RecordCheck
chain_shape = repeated (tagged 48) (checked stamp_counted) stamp_shape nothing_more

abbrev pub sequence_shape : Shape RecordCheck
sequence_shape = repeated (tagged 48) (checked not_empty) chain_shape nothing_more

-- ---- the parts that are named

-- An archive time-stamp: the name of its hash, and all bytes of its attributes, where they stand; the values of each
-- list of its reduced hash tree, where there is one; all bytes of its time-stamp.
pub record Stamp : Type 0 where
  pub algorithm : Option Name
  pub attributes : Option (List ℕ)
  pub lists : Option (List (List (List ℕ)))
  pub token : List ℕ

-- what a reading of an archive time-stamp gives
abbrev pub StampParts : Type 0
StampParts = Option AlgorithmParts × (Option (List ℕ) × (Option ListsParts × (List ℕ × Unit {0})))

-- what a reading of a chain gives
abbrev pub ChainParts : Type 0
ChainParts = List StampParts × Unit {0}

-- what a reading of the sequence of chains gives
abbrev pub SequenceParts : Type 0
SequenceParts = List ChainParts × Unit {0}

-- the archive time-stamp that these parts say
abbrev pub stamp_of : StampParts → Stamp
stamp_of p = record {
  algorithm = option_map name_of p.0;
  attributes = option_map (λ (b : List ℕ). value 161 b) p.1.0;
  lists = option_map lists_of p.1.1.0;
  token = value 48 p.1.1.1.0;
}

-- the archive time-stamps of a chain
abbrev pub chain_of : ChainParts → List Stamp
chain_of p = map stamp_of p.0

-- the archive time-stamps of each chain
abbrev pub chains_of : SequenceParts → List (List Stamp)
chains_of p = map chain_of p.0

-- ---- the grammar of a sequence that stands alone

-- an ArchiveTimeStampSequence, and nothing behind it
abbrev pub sequence_alone : Shape RecordCheck
sequence_alone = required (tagged 48) (checked not_empty) sequence_shape nothing_more

-- The bytes are an ArchiveTimeStampSequence of these chains.
abbrev pub SpellsSequence : List ℕ → List (List Stamp) → Type 0
SpellsSequence bytes chains = Means record_checks sequence_alone 0 (λ p stamps. chains_of p.0) (from_start bytes) chains

-- ---- what is seen of them in memory

abbrev pub stamp_seen : Ats → Stamp
stamp_seen s = record {
  algorithm = option_map name_seen s.algorithm;
  attributes = option_map (λ b. b.now) s.attributes;
  lists = s.lists;
  token = s.token.now;
}

abbrev pub chain_seen : Chain → List Stamp
chain_seen c = map stamp_seen c.stamps

abbrev pub chains_seen : List Chain → List (List Stamp)
chains_seen cs = map chain_seen cs
