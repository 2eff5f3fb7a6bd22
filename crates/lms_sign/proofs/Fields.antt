-- Fields that stand one behind the other.
use Rattle.std.proofs.Common.{◌≡◌, ℕ, List, ◌++◌, length, take, drop, sym, ap, ◌∙◌, append_assoc}
use Rattle.std.proofs.Math.Seq.{take-append_seam, drop-append_seam}

pub take_front : (n : ℕ) (xs ys : List ℕ) → length xs ≡ n → take n (xs ++ ys) ≡ xs
take_front n xs ys h = ap (λ k. take k (xs ++ ys)) (sym h) ∙ take-append_seam xs ys

pub drop_front : (n : ℕ) (xs ys : List ℕ) → length xs ≡ n → drop n (xs ++ ys) ≡ ys
drop_front n xs ys h = ap (λ k. drop k (xs ++ ys)) (sym h) ∙ drop-append_seam xs ys

-- parts that were written one after the other
pub three_parts : (out first second third a b d : List ℕ) → first ≡ out ++ a → second ≡ first ++ b → third ≡ second ++ d → third ≡ out ++ (a ++ b ++ d)
three_parts out first second third a b d p q r =
    r ∙ ap (λ l. l ++ d) (q ∙ ap (λ l. l ++ b) p ∙ append_assoc out a b) ∙ append_assoc out (a ++ b) d

pub four_parts : (out first second third fourth a b d e : List ℕ) → first ≡ out ++ a → second ≡ first ++ b → third ≡ second ++ d → fourth ≡ third ++ e → fourth ≡ out ++ (a ++ b ++ d ++ e)
four_parts out first second third fourth a b d e p q r s =
    s ∙ ap (λ l. l ++ e) (three_parts out first second third a b d p q r) ∙ append_assoc out (a ++ b ++ d) e
