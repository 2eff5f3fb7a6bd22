-- Reduced hash trees: lists of hash values that lead from a document's value to a root (RFC 4998, section 4.3).
use Rattle.std.specs.Prelude.{ℕ, List, [], ◌∷◌, length, ◌<◌, Contains, Option, Some, None}
use Rattle.std.specs.List.{AllByRecursion, concat}
use Rattle.hash_kit.specs.declared.algorithm.HashAlg.{HashAlg}
use Rattle.hash_kit.specs.Digest.{digest_of}
use Rattle.hash_kit.specs.Node.{ascending, node_of}

-- no list is empty
abbrev pub AreFull : List (List (List ℕ)) → Type 0
AreFull lists = AllByRecursion (λ list. 0 < length list) lists

-- the first list, and the lists after it
abbrev pub first_of : List (List (List ℕ)) → List (List ℕ)
first_of [] = []
first_of (first ∷ later) = first

-- the lists after the first one
abbrev pub later_of : List (List (List ℕ)) → List (List (List ℕ))
later_of [] = []
later_of (first ∷ later) = later

-- a list that a result joins: the digest of all of them in ascending order (step 3)
abbrev pub joined : HashAlg → List ℕ → List (List ℕ) → List ℕ
joined alg result list = digest_of alg (concat (ascending (result ∷ list)))

-- what a result comes to with these lists, one after another (step 4)
abbrev pub rises : HashAlg → List ℕ → List (List (List ℕ)) → List ℕ
rises alg result [] = result
rises alg result (list ∷ lists) = rises alg (joined alg result list) lists

-- the root from the node of the first list
abbrev pub plain_root : HashAlg → List (List (List ℕ)) → List ℕ
plain_root alg lists = rises alg (node_of alg (first_of lists)) (later_of lists)

-- the root from the digest of the first list's value, where it has one alone
abbrev pub other_from : HashAlg → List (List ℕ) → List (List (List ℕ)) → Option (List ℕ)
other_from alg [] later = None
other_from alg (value ∷ []) later = Some (rises alg (digest_of alg value) later)
other_from alg (value ∷ other ∷ values) later = None

-- the root from the digest of the first list's value, where it has one alone; else there is none
abbrev pub other_root : HashAlg → List (List (List ℕ)) → Option (List ℕ)
other_root alg lists = other_from alg (first_of lists) (later_of lists)

-- each value of the first list is among these
abbrev pub IsWhole : List (List (List ℕ)) → List (List ℕ) → Type 0
IsWhole lists values = AllByRecursion (λ value. Contains values value) (first_of lists)
