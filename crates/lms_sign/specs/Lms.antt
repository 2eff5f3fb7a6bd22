-- A tree of one-time keys, LMS (RFC 8554, section 5).
use Rattle.std.specs.Prelude.{ℕ, zero, suc, ◌+◌, ◌-◌, ◌*◌, ◌/◌, ◌%◌, ◌^◌, ◌==◌, nat_le, List, ◌++◌, if◌then◌else◌}
use Rattle.std.specs.Int.{w32, to_be_bytes}
use Rattle.lms_verify.specs.Ots.{hash_of, joined}
use Rattle.lms_verify.specs.Lms.{height_of}
use Rattle.lms_sign.specs.declared.secret.TreeSecret.{TreeSecret}
use Rattle.lms_sign.specs.Ots.{ots_key, ots_signature}

-- the number of leaves, 2^h
abbrev pub leaves_of : TreeSecret → ℕ
leaves_of tree = 2 ^ height_of tree.lms_type

-- T[r] of a leaf, which hashes the one-time public key r - 2^h (5.3)
unfoldable pub leaf_node : TreeSecret → ℕ → List ℕ
leaf_node tree r = hash_of tree.identifier r 0x8282 (ots_key tree (r - leaves_of tree))

-- T[r] above two nodes (5.3)
unfoldable pub inner_node : TreeSecret → ℕ → List ℕ → List ℕ → List ℕ
inner_node tree r left right = hash_of tree.identifier r 0x8383 (left ++ right)

-- T[r], where the leaves are at most so many levels below: a leaf where r is 2^h or more, else over T[2r] and T[2r+1] (5.3)
unfoldable pub node_within : ℕ → TreeSecret → ℕ → List ℕ
node_within zero tree r = leaf_node tree r
node_within (suc height) tree r =
    if nat_le (leaves_of tree) r then leaf_node tree r
    else inner_node tree r (node_within height tree (2 * r)) (node_within height tree (2 * r + 1))

-- T[r] (5.3)
unfoldable pub node : TreeSecret → ℕ → List ℕ
node tree r = node_within (height_of tree.lms_type) tree r

-- an LMS public key: the types, the identifier I and the root T[1] (5.3)
unfoldable pub lms_public : TreeSecret → List ℕ
lms_public tree =
    to_be_bytes w32 tree.lms_type ++ to_be_bytes w32 tree.ots_type ++ tree.identifier ++ node tree 1

-- the other node under the node above, r XOR 1 (5.4.1)
abbrev pub sibling_of : ℕ → ℕ
sibling_of r = if r % 2 == 1 then r - 1 else r + 1

-- the siblings on the way from a leaf to the root: path[i] is T[(2^h + q) / 2^i XOR 1] (5.4.1)
unfoldable pub path_of : TreeSecret → ℕ → List ℕ
path_of tree leaf =
    joined (λ i. node tree (sibling_of ((leaves_of tree + leaf) / 2 ^ i))) (height_of tree.lms_type)

-- an LMS signature: q, the one-time signature, the type and the path (5.4)
unfoldable pub lms_signature : TreeSecret → ℕ → List ℕ → List ℕ
lms_signature tree leaf message =
    to_be_bytes w32 leaf ++ ots_signature tree leaf message ++ to_be_bytes w32 tree.lms_type ++ path_of tree leaf
