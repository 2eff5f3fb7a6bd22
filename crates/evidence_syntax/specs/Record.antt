-- EvidenceRecord (RFC 4998, 3.1, by the module with implicit tags):
--   EvidenceRecord ::= SEQUENCE {
--     version                      INTEGER { v1(1) },
--     digestAlgorithms             SEQUENCE OF AlgorithmIdentifier,
--     cryptoInfos              [0] CryptoInfos OPTIONAL,
--     encryptionInfo           [1] EncryptionInfo OPTIONAL,
--     archiveTimeStampSequence     ArchiveTimeStampSequence }
use Rattle.std.specs.Prelude.{ℕ, ◌^◌, ◌≤◌, List, length, map, Option, Some, nat_lt, if◌then◌else◌}
use Rattle.std.specs.Option.{option_map}
use Rattle.der_values.specs.Value.{value}
use Rattle.der_values.specs.Shape.{tagged, unchecked, checked, Shape, nothing_more, unread, required, optional, repeated}
use Rattle.der_values.specs.Reading.{first}
use Rattle.der_values.specs.Grammar.{Means, from_start}
use Rattle.der_values.specs.Algorithm.{Name, name_of, name_seen, algorithm_shape, AlgorithmParts}
use Rattle.evidence_syntax.specs.declared.fault.SyntaxFault.{SyntaxFault}
use Rattle.evidence_syntax.specs.declared.fault.SyntaxFault.TheVariants.{At}
use Rattle.evidence_syntax.specs.declared.fault.SyntaxKind.TheVariants.{TooLong}
use Rattle.evidence_syntax.specs.declared.record_bytes.EvRecord.{EvRecord}
use Rattle.evidence_syntax.specs.Checks.{RecordCheck, version_one, not_empty, record_checks}
use Rattle.evidence_syntax.specs.Stamps.{Stamp, sequence_shape, SequenceParts, chains_of, chains_seen}

-- ---- the table; cryptoInfos and encryptionInfo are not looked into

abbrev pub algorithms_shape : Shape RecordCheck
algorithms_shape = repeated (tagged 48) unchecked algorithm_shape nothing_more

abbrev pub record_contents_shape : Shape RecordCheck
record_contents_shape =
    required (tagged 2) (checked version_one) unread (
    required (tagged 48) unchecked algorithms_shape (
    optional (tagged 160) unchecked unread (
    optional (tagged 161) unchecked unread (
    required (tagged 48) (checked not_empty) sequence_shape
    nothing_more))))

abbrev pub record_shape : Shape RecordCheck
record_shape = required (tagged 48) unchecked record_contents_shape nothing_more

-- ---- the parts that are named

-- An evidence record: the names of its hashes, all bytes of its cryptoInfos and encryptionInfo where they stand, and
-- the archive time-stamps of each chain.
pub record EvidenceRecord : Type 0 where
  pub algorithms : List Name
  pub crypto : Option (List ℕ)
  pub encryption : Option (List ℕ)
  pub chains : List (List Stamp)

-- what a reading of the names of hashes gives
abbrev pub AlgorithmsParts : Type 0
AlgorithmsParts = List AlgorithmParts × Unit {0}

-- what a reading of a record gives
abbrev pub RecordParts : Type 0
RecordParts = List ℕ × (AlgorithmsParts × (Option (List ℕ) × (Option (List ℕ) × (SequenceParts × Unit {0}))))

-- the names that these parts say
abbrev pub algorithms_of : AlgorithmsParts → List Name
algorithms_of p = map name_of p.0

-- the record that these parts say
abbrev pub record_of : RecordParts → EvidenceRecord
record_of p = record {
  algorithms = algorithms_of p.1.0;
  crypto = option_map (λ (b : List ℕ). value 160 b) p.1.1.0;
  encryption = option_map (λ (b : List ℕ). value 161 b) p.1.1.1.0;
  chains = chains_of p.1.1.1.1.0;
}

-- what an EvRecord says
abbrev pub record_seen : EvRecord → EvidenceRecord
record_seen r = record {
  algorithms = map name_seen r.algorithms;
  crypto = option_map (λ b. b.now) r.crypto;
  encryption = option_map (λ b. b.now) r.encryption;
  chains = chains_seen r.chains;
}

-- ---- its grammar and its first fault

-- the most bytes of a record
abbrev pub longest_record : ℕ
longest_record = 2 ^ 24

-- The bytes are an evidence record with these parts, within the limits.
pub record Spells (bytes : List ℕ) (r : EvidenceRecord) : Type 0 where
  pub short : length bytes ≤ longest_record
  pub means : Means record_checks record_shape 0 (λ p stamps. record_of p.0) (from_start bytes) r

-- the first fault of the bytes as a record: that they are too many, then from the left; or none
abbrev pub record_first_fault : List ℕ → Option SyntaxFault
record_first_fault bytes = if nat_lt longest_record (length bytes) then Some (At 0 TooLong) else first record_checks record_shape 0 (from_start bytes)
