-- A step of digests one after the other.
use Rattle.std.proofs.Common.{◌≡◌, ℕ, zero, suc, ◌+◌, ◌-◌, ◌<◌, ◌≤◌, List, ap, arith}
use Rattle.bench_works.specs.Chained.{chained}

-- one digest more
pub one_more : (digest : List ℕ → List ℕ) (n i : ℕ) (value : List ℕ) → i < n
    → chained digest (n - i) value ≡ chained digest (n - (i + 1)) (digest value)
unfolding chained
one_more digest n i value h =
    let more : n - i ≡ suc (n - (i + 1)) = omega arith in ap (λ k. chained digest k value) more

-- all were made
pub all_done : (digest : List ℕ → List ℕ) (n i : ℕ) (value : List ℕ) → n ≤ i → chained digest (n - i) value ≡ value
unfolding chained
all_done digest n i value h =
    let none : n - i ≡ zero = omega arith in ap (λ k. chained digest k value) none
