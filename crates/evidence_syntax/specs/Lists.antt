-- The reduced hash tree of an archive time-stamp (RFC 4998, 4.1):
--   reducedHashtree  [2] SEQUENCE OF PartialHashtree
--   PartialHashtree ::= SEQUENCE OF OCTET STRING
use Rattle.std.specs.Prelude.{ℕ, List, map}
use Rattle.der_values.specs.Shape.{tagged, checked, Shape, nothing_more, unread, repeated}
use Rattle.evidence_syntax.specs.Checks.{RecordCheck, not_empty, hash_length}

-- ---- the tables

abbrev pub list_shape : Shape RecordCheck
list_shape = repeated (tagged 4) (checked hash_length) unread nothing_more

abbrev pub lists_shape : Shape RecordCheck
lists_shape = repeated (tagged 48) (checked not_empty) list_shape nothing_more

-- ---- the parts that are named: the values of each list

abbrev pub ListParts : Type 0
ListParts = List (List ℕ) × Unit {0}

abbrev pub ListsParts : Type 0
ListsParts = List ListParts × Unit {0}

abbrev pub lists_of : ListsParts → List (List (List ℕ))
lists_of p = map (λ (l : ListParts). l.0) p.0
