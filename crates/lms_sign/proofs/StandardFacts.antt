-- Worked values of the definitions, from outside, so that a wrong rule in the specs does not check.
use Rattle.std.proofs.Common.{◌≡◌, ◌/◌, ◌^◌, ◌+◌, [], ◌∷◌, ℕ, map, refl}
use Rattle.lms_sign.specs.declared.secret.HssSecret.{HssSecret}
use Rattle.lms_sign.specs.Lms.{sibling_of}
use Rattle.lms_sign.specs.Hss.{signatures_of, number_at, leaf_at}

key_of : ℕ → ℕ → HssSecret
key_of levels lms_type = record { seed = []; levels = levels; lms_type = lms_type; ots_type = 3 }

-- as many signatures as two levels of height 5, or two of height 10, have: 2^(h L) (6)
signatures_of_two_levels : (signatures_of (key_of 2 5) ≡ 1024) × (signatures_of (key_of 2 6) ≡ 1048576)
unfolding key_of
signatures_of_two_levels = (refl, refl)

-- the path of leaf 18 at height 5: the nodes 50, 25, 12, 6 and 3 have these siblings (5.4.1: XOR 1)
path_of_leaf_18 : map (λ i. sibling_of ((2 ^ 5 + 18) / 2 ^ i)) (0 ∷ 1 ∷ 2 ∷ 3 ∷ 4 ∷ []) ≡ 51 ∷ 24 ∷ 13 ∷ 7 ∷ 2 ∷ []
path_of_leaf_18 = refl

-- the last index of two levels of height 5 is the last leaf of the last tree
last_index : (number_at (key_of 2 5) 1023 0 ≡ 0) × (leaf_at (key_of 2 5) 1023 0 ≡ 31) × (number_at (key_of 2 5) 1023 1 ≡ 31) × (leaf_at (key_of 2 5) 1023 1 ≡ 31)
unfolding key_of
last_index = (refl, refl, refl, refl)

-- index 5000 of three levels: 5000 is 4 * 1024 + 28 * 32 + 8
index_5000 : (leaf_at (key_of 3 5) 5000 0 ≡ 4) × (number_at (key_of 3 5) 5000 1 ≡ 4) × (leaf_at (key_of 3 5) 5000 1 ≡ 28) × (number_at (key_of 3 5) 5000 2 ≡ 156) × (leaf_at (key_of 3 5) 5000 2 ≡ 8)
unfolding key_of
index_5000 = (refl, refl, refl, refl, refl)
