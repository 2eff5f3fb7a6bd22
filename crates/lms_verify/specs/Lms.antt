-- Signatures of a tree, LMS (RFC 8554, section 5), with SHA-256 and values of 32 bytes.
use Rattle.std.specs.Prelude.{ℕ, zero, suc, ◌+◌, ◌*◌, ◌/◌, ◌%◌, ◌^◌, ◌==◌, Bool, ◌&&◌, nat_lt, nat_eq, List, ◌++◌, length, take, drop, if◌then◌else◌}
use Rattle.std.specs.Cmp.Lexicographic.{pointwise}
use Rattle.hash_kit.specs.HssKey.{u32_at, lms_type_of, ots_type_of, identifier_of, root_of, is_lms_key}
use Rattle.lms_verify.specs.declared.ots.OtsSet.{OtsSet}
use Rattle.lms_verify.specs.Ots.{set_of, hash_of, message_hash, ots_candidate}

-- the height h of the tree, lms_sha256_m32_h5 to lms_sha256_m32_h25 (5.1, table 2)
abbrev pub height_of : ℕ → ℕ
height_of lms_type =
    if lms_type == 5 then 5
    else (if lms_type == 6 then 10
    else (if lms_type == 7 then 15
    else (if lms_type == 8 then 20 else 25)))

-- a signature: q, the LM-OTS type, C, y of p values, the type, and a path of h values (4.5, 5.4)
abbrev pub signature_size : OtsSet → ℕ → ℕ
signature_size set height = 4 + (4 + 32 + 32 * set.digits) + 4 + 32 * height

-- the bytes of a signature under a key
abbrev pub size_of : List ℕ → ℕ
size_of key = signature_size (set_of (ots_type_of key)) (height_of (lms_type_of key))

-- the number q of the leaf that signs (5.4)
abbrev pub leaf_in : List ℕ → ℕ
leaf_in signature = u32_at 0 signature

-- the type of the one-time signature (4.5)
abbrev pub ots_type_in : List ℕ → ℕ
ots_type_in signature = u32_at 4 signature

-- its randomizer C (4.5)
abbrev pub randomizer_in : List ℕ → List ℕ
randomizer_in signature = take 32 (drop 8 signature)

-- its values y (4.5)
abbrev pub values_in : OtsSet → List ℕ → List ℕ
values_in set signature = take (32 * set.digits) (drop 40 signature)

-- the type of the LMS signature (5.4)
abbrev pub lms_type_in : OtsSet → List ℕ → ℕ
lms_type_in set signature = u32_at (40 + 32 * set.digits) signature

-- the path of the leaf (5.4)
abbrev pub path_in : OtsSet → List ℕ → List ℕ
path_in set signature = drop (44 + 32 * set.digits) signature

-- the node above node r and its sibling, which is the left one where r is odd (5.4.2, algorithm 6a)
unfoldable pub parent_of : List ℕ → ℕ → List ℕ → List ℕ → List ℕ
parent_of identifier r node sibling =
    if r % 2 == 1 then hash_of identifier (r / 2) 0x8383 (sibling ++ node)
    else hash_of identifier (r / 2) 0x8383 (node ++ sibling)

-- so many nodes up from node r, along a path of siblings (5.4.2, algorithm 6a)
unfoldable pub climbed : ℕ → List ℕ → ℕ → List ℕ → List ℕ → List ℕ
climbed zero identifier r path node = node
climbed (suc height) identifier r path node =
    climbed height identifier (r / 2) (drop 32 path) (parent_of identifier r node (take 32 path))

-- Tc: from the leaf's node, 2^h + q, to the root (5.4.2, algorithm 6a)
unfoldable pub root_candidate : List ℕ → ℕ → ℕ → List ℕ → List ℕ → List ℕ
root_candidate identifier height leaf ots_key path =
    climbed height identifier (2 ^ height + leaf) path (hash_of identifier (2 ^ height + leaf) 0x8282 ots_key)

-- the root that a message and its signature lead to, under a key's types and identifier
unfoldable pub root_by : List ℕ → List ℕ → List ℕ → List ℕ
root_by key message signature =
    let set : OtsSet = set_of (ots_type_of key) in
    let leaf : ℕ = leaf_in signature in
    let hash : List ℕ = message_hash (identifier_of key) leaf (randomizer_in signature) message in
    let ots_key : List ℕ = ots_candidate set (identifier_of key) leaf hash (values_in set signature) in
    root_candidate (identifier_of key) (height_of (lms_type_of key)) leaf ots_key (path_in set signature)

-- the signature has the size of the key's types and names them, and q is the number of a leaf (5.4.2, algorithm 6)
unfoldable pub has_form : List ℕ → List ℕ → Bool
has_form key signature =
    let set : OtsSet = set_of (ots_type_of key) in
    let height : ℕ = height_of (lms_type_of key) in
    (length signature == size_of key)
    && (ots_type_in signature == ots_type_of key)
    && (lms_type_in set signature == lms_type_of key)
    && nat_lt (leaf_in signature) (2 ^ height)

-- the message is signed under an LMS public key (5.4.2, algorithm 6)
unfoldable pub lms_verifies : List ℕ → List ℕ → List ℕ → Bool
lms_verifies key message signature =
    is_lms_key key && has_form key signature && pointwise nat_eq (root_by key message signature) (root_of key)
