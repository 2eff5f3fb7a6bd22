-- A group's leaf in the tree of a chain (RFC 4998, 4.2 and 5.2).
use Rattle.std.specs.Prelude.{ℕ, List}
use Rattle.hash_kit.specs.declared.algorithm.HashAlg.{HashAlg}
use Rattle.hash_kit.specs.Node.{node_of}
use Rattle.evidence_syntax.specs.Stamps.{Stamp}
use Rattle.evidence_syntax.specs.DocumentValue.{values_after}

-- the node of the values that the documents have in the chain after these
abbrev pub leaf_of : HashAlg → List (List Stamp) → List (List ℕ) → List ℕ
leaf_of alg older documents = node_of alg (values_after alg older documents)
