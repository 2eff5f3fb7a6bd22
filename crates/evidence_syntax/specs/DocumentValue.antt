-- The values of documents in a chain (RFC 4998, 4.2 and 5.2).
use Rattle.std.specs.Prelude.{ℕ, List, [], ◌∷◌, ◌++◌, map}
use Rattle.hash_kit.specs.declared.algorithm.HashAlg.{HashAlg}
use Rattle.hash_kit.specs.Digest.{digest_of}
use Rattle.evidence_syntax.specs.Stamps.{Stamp}
use Rattle.evidence_syntax.specs.Text.{sequence_spelling}

-- the value of a document in the chain after these: its digest in the first chain, and else the digest of its digest
-- and that of the sequence of all older chains (5.2, steps 3 and 4)
abbrev pub document_value : HashAlg → List (List Stamp) → List ℕ → List ℕ
document_value alg [] document = digest_of alg document
document_value alg (chain ∷ chains) document =
    digest_of alg (digest_of alg document ++ digest_of alg (sequence_spelling (chain ∷ chains)))

-- the values of documents in the chain after these
abbrev pub values_after : HashAlg → List (List Stamp) → List (List ℕ) → List (List ℕ)
values_after alg older documents = map (document_value alg older) documents
