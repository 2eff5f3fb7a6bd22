-- Which parts a record of evidence may have (RFC 4998, 3.1, 4.1 and 5.1), apart from any bytes.
use Rattle.std.specs.Prelude.{◌≢◌, ℕ, ◌<◌, ◌≤◌, List, [], length, sum_by, IfSome}
use Rattle.std.specs.List.{AllByRecursion}
use Rattle.der_values.specs.Typed.{IsTagged}
use Rattle.der_values.specs.Algorithm.{IsName}
use Rattle.evidence_syntax.specs.Checks.{most_stamps}
use Rattle.evidence_syntax.specs.Stamps.{Stamp}
use Rattle.evidence_syntax.specs.Record.{EvidenceRecord, longest_record}
use Rattle.evidence_syntax.specs.Text.{record_spelling}

-- ---- archive time-stamps

-- a value of a reduced hash tree
abbrev pub IsHash : List ℕ → Type 0
IsHash hash = (0 < length hash) × (length hash ≤ 64)

-- PartialHashtree
pub record IsList (hashes : List (List ℕ)) : Type 0 where
  pub some : hashes ≢ []
  pub each : AllByRecursion IsHash hashes

-- reducedHashtree
pub record IsTree (lists : List (List (List ℕ))) : Type 0 where
  pub some : lists ≢ []
  pub each : AllByRecursion IsList lists

-- ArchiveTimeStamp: its attributes have the tag [1], and its time-stamp is a SEQUENCE, whatever stands in them
pub record IsStamp (s : Stamp) : Type 0 where
  pub algorithm : IfSome s.algorithm IsName
  pub attributes : IfSome s.attributes (IsTagged 0xa1)
  pub lists : IfSome s.lists IsTree
  pub token : IsTagged 0x30 s.token

-- ArchiveTimeStampChain
pub record IsChain (stamps : List Stamp) : Type 0 where
  pub some : stamps ≢ []
  pub each : AllByRecursion IsStamp stamps

-- how many archive time-stamps chains have
abbrev pub stamps_in : List (List Stamp) → ℕ
stamps_in chains = sum_by length chains

-- ArchiveTimeStampSequence
pub record IsSequence (chains : List (List Stamp)) : Type 0 where
  pub some : chains ≢ []
  pub each : AllByRecursion IsChain chains
  pub few : stamps_in chains ≤ most_stamps

-- EvidenceRecord: its cryptoInfos has the tag [0], and its encryptionInfo [1], whatever stands in them
pub record IsRecord (r : EvidenceRecord) : Type 0 where
  pub algorithms : AllByRecursion IsName r.algorithms
  pub crypto : IfSome r.crypto (IsTagged 0xa0)
  pub encryption : IfSome r.encryption (IsTagged 0xa1)
  pub sequence : IsSequence r.chains
  pub short : length (record_spelling r) ≤ longest_record
