-- Groups: data objects that belong together and are covered as one (RFC 4998, section 4.2), and their limits.
use Rattle.std.specs.Prelude.{ℕ, suc, ◌≤◌, ◌==◌, nat_lt, List, [], ◌∷◌, length, map, sum_by, Option, Some, None, if◌then◌else◌}
use Rattle.std.specs.List.{AllByRecursion}
use Rattle.std.specs.Option.{option_map}
use Rattle.hash_kit.specs.declared.algorithm.HashAlg.{HashAlg}
use Rattle.hash_kit.specs.Digest.{digest_of}
use Rattle.hash_kit.specs.Node.{node_of}
use Rattle.object_groups.specs.declared.fault.GroupFault.{GroupFault}
use Rattle.object_groups.specs.declared.fault.GroupFault.TheVariants.{NoDocuments, TooMany, DocumentLong, TooLong}

-- the most documents of a group
abbrev pub most_documents : ℕ
most_documents = 64

-- the most bytes of a document
abbrev pub longest_document : ℕ
longest_document = 1048576

-- the most bytes of all documents of a group together
abbrev pub most_bytes : ℕ
most_bytes = 4194304

-- how many bytes the documents have together
abbrev pub bytes_in : List (List ℕ) → ℕ
bytes_in documents = sum_by length documents

-- within the limits
pub record IsGroup (documents : List (List ℕ)) : Type 0 where
  pub some : 1 ≤ length documents
  pub few : length documents ≤ most_documents
  pub short : AllByRecursion (λ d. length d ≤ longest_document) documents
  pub together : bytes_in documents ≤ most_bytes

-- the place of the first document that is too long
abbrev pub first_long : List (List ℕ) → Option ℕ
first_long [] = None
first_long (d ∷ documents) = if nat_lt longest_document (length d) then Some 0 else option_map suc (first_long documents)

-- the first document that is too long, or else a later fault
abbrev pub or_later : Option ℕ → Option GroupFault → Option GroupFault
or_later (Some place) later = Some (DocumentLong place)
or_later None later = later

-- the first limit that is passed
abbrev pub fault_of : List (List ℕ) → Option GroupFault
fault_of documents =
    if length documents == 0 then Some NoDocuments
    else if nat_lt most_documents (length documents) then Some (TooMany (length documents))
    else or_later (first_long documents) (if nat_lt most_bytes (bytes_in documents) then Some (TooLong (bytes_in documents)) else None)

-- the hash value of each document, in order
abbrev pub values_of : HashAlg → List (List ℕ) → List (List ℕ)
values_of alg documents = map (digest_of alg) documents

-- the node of these values
abbrev pub group_node_of : HashAlg → List (List ℕ) → List ℕ
group_node_of alg documents = node_of alg (values_of alg documents)
