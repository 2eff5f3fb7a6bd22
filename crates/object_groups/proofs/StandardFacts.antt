-- Worked values of the definitions, so that a wrong rule in the specs does not check.
use Rattle.std.proofs.Common.{◌≡◌, ℕ, ◌*◌, ◌^◌, List, [], ◌∷◌, Some, None, refl}
use Rattle.hash_kit.specs.Digest.{digest_of}
use Rattle.hash_kit.specs.declared.algorithm.HashAlg.TheVariants.{Sha384}
use Rattle.object_groups.specs.Groups.{most_documents, longest_document, most_bytes, bytes_in, fault_of, group_node_of}
use Rattle.object_groups.specs.declared.fault.GroupFault.TheVariants.{NoDocuments}

none : fault_of [] ≡ Some NoDocuments
none = refl

small : fault_of ([] ∷ (1 ∷ 2 ∷ []) ∷ []) ≡ None
small = refl

counted : bytes_in ((1 ∷ 2 ∷ []) ∷ [] ∷ (3 ∷ []) ∷ []) ≡ 3
counted = refl

-- the node of one document is its digest, and not that digest hashed
single : (d : List ℕ) → group_node_of Sha384 (d ∷ []) ≡ digest_of Sha384 d
single d = refl

-- 64 documents, of 1 MiB each, and of 4 MiB together
documents_limit : most_documents ≡ 2 ^ 6
documents_limit = refl

document_limit : longest_document ≡ 2 ^ 20
document_limit = refl

bytes_limit : most_bytes ≡ 4 * 2 ^ 20
bytes_limit = refl
