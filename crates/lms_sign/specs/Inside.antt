-- What private functions say of each other, and what every key and every tree keeps.
use Rattle.std.specs.Prelude.{◌≡◌, ◌⊎◌, ℕ, zero, suc, ◌+◌, ◌-◌, ◌*◌, ◌<◌, ◌≤◌, List, ◌++◌, length, slice_index_or, []}
use Rattle.lms_verify.specs.Lms.{height_of}
use Rattle.lms_sign.specs.declared.secret.HssSecret.{HssSecret}
use Rattle.lms_sign.specs.declared.secret.TreeSecret.{TreeSecret}
use Rattle.lms_sign.specs.Lms.{leaves_of, node, lms_signature}
use Rattle.lms_sign.specs.Hss.{tree_at, leaf_at, signed_key}

-- the types are those that a key may have, of height 5 or 10
pub record IsTree (tree : TreeSecret) : Type 0 where
  pub height : (tree.lms_type ≡ 5) ⊎ (tree.lms_type ≡ 6)
  pub ots_some : 1 ≤ tree.ots_type
  pub ots_most : tree.ots_type ≤ 4
  pub identifier : length tree.identifier ≡ 16
  pub seed : length tree.seed ≡ 32

pub record IsKey (key : HssSecret) : Type 0 where
  pub height : (key.lms_type ≡ 5) ⊎ (key.lms_type ≡ 6)
  pub ots_some : 1 ≤ key.ots_type
  pub ots_most : key.ots_type ≤ 4
  pub some : 1 ≤ key.levels
  pub most : height_of key.lms_type * key.levels ≤ 20

-- the nodes T[r] with a greater r than this one, the last leaf first: T[r] stands at 2^(h+1) - 1 - r
pub record AreNodes (tree : TreeSecret) (r : ℕ) (nodes : List (List ℕ)) : Type 0 where
  pub count : length nodes + r + 1 ≡ 2 * leaves_of tree
  pub each : (x : ℕ) → r < x → x < 2 * leaves_of tree → slice_index_or nodes (2 * leaves_of tree - 1 - x) [] ≡ node tree x

-- what a signature has from a level on, with so many signed keys
unfoldable pub signed_below : ℕ → HssSecret → ℕ → ℕ → List ℕ → List ℕ
signed_below zero key index level message = lms_signature (tree_at key index level) (leaf_at key index level) message
signed_below (suc count) key index level message =
    signed_key key index level ++ signed_below count key index (level + 1) message
