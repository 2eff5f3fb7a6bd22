-- Bytes written over the first of 64 zeros.
use Rattle.std.proofs.Common.{◌≡◌, ℕ, List, ◌++◌, ◌-◌, ◌<◌, ◌≤◌, length, drop, sym, ap, subst, arith, length-append}
use Rattle.std.proofs.Math.ListN.{replicate}
use Rattle.std.proofs.Math.Seq.{take-append_seam}
use Rattle.std.proofs.lemmas.List.{drop-replicate, length-replicate}
use Rattle.hash_kit.specs.Inside.{IsFilled}

filled_by : (bytes : List ℕ) → 0 < length bytes → length bytes ≤ 64 → IsFilled (length bytes) (bytes ++ replicate (64 - length bytes) 0)
filled_by bytes some most = record {
  some = some;
  most = most;
  long = omega (arith, length-append bytes (replicate (64 - length bytes) 0), length-replicate {A = ℕ} (64 - length bytes) 0);
  zeros = sym (ap (λ v. v ++ replicate (64 - length bytes) 0) (take-append_seam bytes (replicate (64 - length bytes) 0)));
}

pub written_over : (bytes new : List ℕ) → new ≡ bytes → 0 < length bytes → length bytes ≤ 64 → IsFilled (length bytes) (new ++ drop (length bytes) (replicate 64 0))
written_over bytes new is some most =
    subst (IsFilled (length bytes)) (sym ((λ i. is i ++ drop-replicate (length bytes) 64 0 i))) (filled_by bytes some most)
