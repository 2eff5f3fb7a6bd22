-- The chains of a group (RFC 4998, 5.1 and 5.2).
use Rattle.std.specs.Prelude.{ℕ, slice_index_or, List, [], ◌∷◌, ◌++◌, Some, None, if◌then◌else◌}
use Rattle.der_values.specs.Algorithm.{Name}
use Rattle.hash_kit.specs.declared.algorithm.HashAlg.{HashAlg}
use Rattle.hash_kit.specs.Algorithm.{oid_of}
use Rattle.hash_kit.specs.Digest.{digest_of}
use Rattle.evidence_syntax.specs.Stamps.{Stamp}
use Rattle.evidence_syntax.specs.DocumentValue.{values_after}
use Rattle.hash_tree.specs.Tree.{tree_path}
use Rattle.tree_renewal.specs.Lists.{lists_of}
use Rattle.archive_chain.specs.Kept.{Cover}

-- the name of a hash, with absent parameters
abbrev pub name_of : HashAlg → Name
name_of alg = record { oid = oid_of alg; params = None }

-- the leaves of the tree of each entry, by its number
abbrev pub Trees : Type 0
Trees = List (List (List ℕ))

-- the path of the leaf that stands for the group (RFC 4998, 4.2)
abbrev pub path_of : Trees → Cover → List (List ℕ)
path_of trees c = tree_path c.alg (slice_index_or trees c.entry []) c.place

-- an archive time-stamp that covers these values
abbrev pub stamp_of : Trees → Cover → List (List ℕ) → Stamp
stamp_of trees c values = record { algorithm = Some (name_of c.alg); attributes = None; lists = lists_of values (path_of trees c); token = c.token }

-- a further time-stamp in the last chain covers the token before it
abbrev pub with_stamp : Trees → Cover → List Stamp → List Stamp
with_stamp trees c [] = []
with_stamp trees c (s ∷ []) = s ∷ stamp_of trees c (digest_of c.alg s.token ∷ []) ∷ []
with_stamp trees c (s ∷ t ∷ chain) = s ∷ with_stamp trees c (t ∷ chain)

-- the last chain changed
abbrev pub in_last : (List Stamp → List Stamp) → List (List Stamp) → List (List Stamp)
in_last f [] = []
in_last f (chain ∷ []) = f chain ∷ []
in_last f (chain ∷ next ∷ chains) = chain ∷ in_last f (next ∷ chains)

-- the first time-stamp of a new chain covers the documents with all chains before it
abbrev pub with_cover : Trees → List (List ℕ) → List (List Stamp) → Cover → List (List Stamp)
with_cover trees documents chains c =
    if c.begins then chains ++ (stamp_of trees c (values_after c.alg chains documents) ∷ []) ∷ []
    else in_last (with_stamp trees c) chains

-- the chains with these further time-stamps
abbrev pub chains_after : Trees → List (List ℕ) → List (List Stamp) → List Cover → List (List Stamp)
chains_after trees documents chains [] = chains
chains_after trees documents chains (c ∷ covers) = chains_after trees documents (with_cover trees documents chains c) covers

-- the archive time-stamp sequence of a group with these documents
abbrev pub sequence_of : Trees → List (List ℕ) → List Cover → List (List Stamp)
sequence_of trees documents covers = chains_after trees documents [] covers
