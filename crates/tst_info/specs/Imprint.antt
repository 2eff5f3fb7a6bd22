-- MessageImprint, which stands in infos and in requests (RFC 3161, 2.4.1):
--   MessageImprint ::= SEQUENCE {
--     hashAlgorithm  AlgorithmIdentifier,
--     hashedMessage  OCTET STRING }
use Rattle.std.specs.Prelude.{ℕ, List, ◌++◌}
use Rattle.der_values.specs.Value.{value}
use Rattle.der_values.specs.Shape.{tagged, unchecked, Shape, nothing_more, unread, required}
use Rattle.der_values.specs.Algorithm.{Name, algorithm_shape, AlgorithmParts, name_contents}
use Rattle.tst_info.specs.Checks.{StampCheck}

-- what stands in the SEQUENCE
abbrev pub imprint_shape : Shape StampCheck
imprint_shape =
    required (tagged 0x30) unchecked algorithm_shape (
    required (tagged 0x04) unchecked unread
    nothing_more)

-- what a reading of it gives
abbrev pub ImprintParts : Type 0
ImprintParts = AlgorithmParts × (List ℕ × Unit {0})

-- the contents of a MessageImprint
abbrev pub imprint_text : Name → List ℕ → List ℕ
imprint_text hash imprint = value 0x30 (name_contents hash) ++ value 0x04 imprint
