-- The number of a tree and the leaf in it, of an index.
use Rattle.std.proofs.Common.{◌≡◌, ℕ, suc, ◌+◌, ◌-◌, ◌*◌, ◌/◌, ◌%◌, ◌^◌, ◌<◌, ◌≤◌, sym, ap, ◌∙◌, arith, mul-suc, mul-zero, div-one, div-add-mod'}
use Rattle.std.proofs.Math.Nat.{div-div-eq-div-mul}
use Rattle.std.proofs.lemmas.Nat.{pow-add}
use Rattle.lms_verify.specs.Lms.{height_of}
use Rattle.lms_sign.specs.declared.secret.HssSecret.{HssSecret}
use Rattle.lms_sign.specs.Hss.{number_at, leaf_at}

-- a quotient and a remainder give the number back
same_number : (m n d : ℕ) → m / d ≡ n / d → m % d ≡ n % d → m ≡ n
same_number m n d p q = sym (div-add-mod' m d) ∙ (λ k. p k * d + q k) ∙ div-add-mod' n d

-- the bits of a level are those of the tree's number below the level's leaf
split : (x h n : ℕ) → x / 2 ^ (h * suc n) ≡ x / 2 ^ (h * n) / 2 ^ h
split x h n =
    ap (λ k. x / 2 ^ k) (mul-suc h n) ∙ ap (λ k. x / k) (pow-add 2 (h * n) h)
    ∙ sym (div-div-eq-div-mul x (2 ^ (h * n)) (2 ^ h))

pub same_below : (key : HssSecret) (x y level : ℕ) → level + 1 < key.levels → number_at key x level ≡ number_at key y level → leaf_at key x level ≡ leaf_at key y level → number_at key x (level + 1) ≡ number_at key y (level + 1)
same_below key x y level h p q =
    let bits : ℕ = height_of key.lms_type in
    let n : ℕ = key.levels - 1 - level in
    let all : key.levels - level ≡ suc n = omega arith in
    let below : n ≡ key.levels - (level + 1) = omega arith in
    let parts : (z : ℕ) → number_at key z level ≡ z / 2 ^ (bits * n) / 2 ^ bits =
    λ z. ap (λ k. z / 2 ^ (bits * k)) all ∙ split z bits n in
    let same : x / 2 ^ (bits * n) ≡ y / 2 ^ (bits * n) = same_number _ _ (2 ^ bits) (sym (parts x) ∙ p ∙ parts y) q in
    ap (λ k. x / 2 ^ (bits * k)) (sym below) ∙ same ∙ ap (λ k. y / 2 ^ (bits * k)) below

pub same_index : (key : HssSecret) (x y : ℕ) → 1 ≤ key.levels → number_at key x (key.levels - 1) ≡ number_at key y (key.levels - 1) → leaf_at key x (key.levels - 1) ≡ leaf_at key y (key.levels - 1) → x ≡ y
same_index key x y some p q =
    let bits : ℕ = height_of key.lms_type in
    let one : key.levels - (key.levels - 1) ≡ suc 0 = omega arith in
    let none : key.levels - 1 - (key.levels - 1) ≡ 0 = omega arith in
    let whole : (z : ℕ) → z / 2 ^ (bits * 0) ≡ z = λ z. ap (λ k. z / 2 ^ k) (mul-zero bits) ∙ div-one z in
    let number : (z : ℕ) → number_at key z (key.levels - 1) ≡ z / 2 ^ bits =
    λ z. ap (λ k. z / 2 ^ (bits * k)) one ∙ split z bits 0 ∙ ap (λ k. k / 2 ^ bits) (whole z) in
    let leaf : (z : ℕ) → leaf_at key z (key.levels - 1) ≡ z % 2 ^ bits =
    λ z. ap (λ k. z / 2 ^ (bits * k) % 2 ^ bits) none ∙ ap (λ k. k % 2 ^ bits) (whole z) in
    same_number x y (2 ^ bits) (sym (number x) ∙ p ∙ number y) (sym (leaf x) ∙ q ∙ leaf y)
