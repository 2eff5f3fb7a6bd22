-- One turn of each recursion, for a count that is reached by arithmetic.
use Rattle.std.proofs.Common.{◌≡◌, ℕ, zero, suc, ◌+◌, ◌-◌, ◌/◌, ◌<◌, ◌≤◌, ◌&&◌, List, ◌∷◌, ◌++◌, take, drop, ap, arith}
use Rattle.lms_verify.specs.Ots.{hash_of, after_steps, total, joined}
use Rattle.lms_verify.specs.Lms.{climbed, parent_of, lms_verifies}
use Rattle.lms_verify.specs.Hss.{levels_verify, next_is_signed, next_key, behind_next}

left_more : (n i : ℕ) → i < n → n - i ≡ suc (n - (i + 1))
left_more n i h = omega arith

none_left : (n i : ℕ) → n ≤ i → n - i ≡ zero
none_left n i h = omega arith

pub step_more : (n j : ℕ) (identifier : List ℕ) (leaf i : ℕ) (value : List ℕ) → j < n → after_steps (n - j) identifier leaf i j value ≡ after_steps (n - (j + 1)) identifier leaf i (j + 1) (hash_of identifier leaf i (j ∷ value))
unfolding after_steps
step_more n j identifier leaf i value h = ap (λ k. after_steps k identifier leaf i j value) (left_more n j h)

pub steps_done : (n j : ℕ) (identifier : List ℕ) (leaf i : ℕ) (value : List ℕ) → n ≤ j → after_steps (n - j) identifier leaf i j value ≡ value
unfolding after_steps
steps_done n j identifier leaf i value h = ap (λ k. after_steps k identifier leaf i j value) (none_left n j h)

pub total_more : (f : ℕ → ℕ) (i : ℕ) → total f (i + 1) ≡ total f i + f i
total_more f i = let e : i + 1 ≡ suc i = omega arith in ap (total f) e

pub joined_more : (f : ℕ → List ℕ) (i : ℕ) → joined f (i + 1) ≡ joined f i ++ f i
joined_more f i = let e : i + 1 ≡ suc i = omega arith in ap (joined f) e

pub climb_more : (n i : ℕ) (identifier : List ℕ) (r : ℕ) (path node : List ℕ) → i < n → climbed (n - i) identifier r path node ≡ climbed (n - (i + 1)) identifier (r / 2) (drop 32 path) (parent_of identifier r node (take 32 path))
unfolding climbed
climb_more n i identifier r path node h = ap (λ k. climbed k identifier r path node) (left_more n i h)

pub climb_done : (n i : ℕ) (identifier : List ℕ) (r : ℕ) (path node : List ℕ) → n ≤ i → climbed (n - i) identifier r path node ≡ node
unfolding climbed
climb_done n i identifier r path node h = ap (λ k. climbed k identifier r path node) (none_left n i h)

pub level_more : (n i : ℕ) (key message signature : List ℕ) → i < n → levels_verify (n - i) key message signature ≡ next_is_signed key signature && levels_verify (n - (i + 1)) (next_key key signature) message (behind_next key signature)
unfolding levels_verify
level_more n i key message signature h = ap (λ k. levels_verify k key message signature) (left_more n i h)

pub levels_done : (n i : ℕ) (key message signature : List ℕ) → n ≤ i → levels_verify (n - i) key message signature ≡ lms_verifies key message signature
unfolding levels_verify
levels_done n i key message signature h = ap (λ k. levels_verify k key message signature) (none_left n i h)
