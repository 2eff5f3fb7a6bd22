-- A key of several levels of trees that come from one seed, and its signatures (RFC 8554, section 6). The standard leaves
-- open how the trees below the first are made and which leaf signs: the numbers and seeds here are this project's own.
use Rattle.std.specs.Prelude.{ℕ, ◌+◌, ◌-◌, ◌*◌, ◌/◌, ◌%◌, ◌^◌, List, [], ◌∷◌, ◌++◌, take}
use Rattle.std.specs.Int.{w32, to_be_bytes}
use Rattle.hash_kit.specs.Digest.{digest_of}
use Rattle.hash_kit.specs.declared.algorithm.HashAlg.TheVariants.{Sha256}
use Rattle.lms_verify.specs.Ots.{joined}
use Rattle.lms_verify.specs.Lms.{height_of}
use Rattle.lms_sign.specs.declared.secret.HssSecret.{HssSecret}
use Rattle.lms_sign.specs.declared.secret.TreeSecret.{TreeSecret}
use Rattle.lms_sign.specs.Lms.{lms_public, lms_signature}

-- how often a key signs: 2^(h * L)
abbrev pub signatures_of : HssSecret → ℕ
signatures_of key = 2 ^ (height_of key.lms_type * key.levels)

-- the number of the tree of a level that an index uses; level 0 is the top
abbrev pub number_at : HssSecret → ℕ → ℕ → ℕ
number_at key index level = index / 2 ^ (height_of key.lms_type * (key.levels - level))

-- the leaf that signs in that tree
abbrev pub leaf_at : HssSecret → ℕ → ℕ → ℕ
leaf_at key index level =
    index / 2 ^ (height_of key.lms_type * (key.levels - 1 - level)) % 2 ^ height_of key.lms_type

-- seed || u32str(level) || u32str(number)
abbrev pub tree_name : HssSecret → ℕ → ℕ → List ℕ
tree_name key level number = key.seed ++ to_be_bytes w32 level ++ to_be_bytes w32 number

-- a tree: its SEED is the hash of its name, and I the first 16 bytes of the hash of its name and u8str(1)
unfoldable pub tree_numbered : HssSecret → ℕ → ℕ → TreeSecret
tree_numbered key level number = record {
  lms_type = key.lms_type;
  ots_type = key.ots_type;
  identifier = take 16 (digest_of Sha256 (tree_name key level number ++ 1 ∷ []));
  seed = digest_of Sha256 (tree_name key level number);
}

-- the tree of a level that an index uses
abbrev pub tree_at : HssSecret → ℕ → ℕ → TreeSecret
tree_at key index level = tree_numbered key level (number_at key index level)

-- an HSS public key: the number of levels, and the public key of the top tree (6.1)
unfoldable pub hss_public : HssSecret → List ℕ
hss_public key = to_be_bytes w32 key.levels ++ lms_public (tree_numbered key 0 0)

-- a signed public key: the next tree's key, signed by the tree of a level, and that key (6.2)
unfoldable pub signed_key : HssSecret → ℕ → ℕ → List ℕ
signed_key key index level =
    let next : List ℕ = lms_public (tree_at key index (level + 1)) in
    lms_signature (tree_at key index level) (leaf_at key index level) next ++ next

-- an HSS signature: the number of signed public keys, these from the top, and the message signed by the last tree (6.2)
unfoldable pub hss_signature : HssSecret → ℕ → List ℕ → List ℕ
hss_signature key index message =
    let last : ℕ = key.levels - 1 in
    to_be_bytes w32 last ++ joined (signed_key key index) last
    ++ lms_signature (tree_at key index last) (leaf_at key index last) message
