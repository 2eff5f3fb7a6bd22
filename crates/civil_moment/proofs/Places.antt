-- The decimal digits that the writer makes.
use Rattle.std.proofs.Common.{◌≡◌, ◌≢◌, ℕ, zero, suc, ◌+◌, ◌-◌, ◌/◌, ◌%◌, ◌<◌, true, false, List, [], ◌∷◌, ◌++◌, append_assoc, refl, sym, ap, ◌∙◌, arith, if◌then◌else◌}
use Rattle.std.specs.Prelude.{◌==◌, codes}
use Rattle.std.proofs.lemmas.List.{map-append, append-nil}
use Rattle.std.proofs.lemmas.Bool.Decides.{nat_tests}
use Rattle.civil_moment.specs.Moment.{digits_text, fraction_text}
use Rattle.civil_moment.specs.Inside.{places, shortest}

-- ---- one step of the writer

pub digits_none : (old : List ℕ) (n : ℕ) → old ≡ old ++ digits_text (places 0 n)
unfolding places
digits_none old n = sym (append-nil old)

pub digits_more : (old new : List ℕ) (count n : ℕ) → 0 < count → new ≡ (old ++ digits_text (places (count - 1) (n / 10))) ++ (48 + n % 10) ∷ [] → new ≡ old ++ digits_text (places count n)
unfolding places
digits_more old new zero n some e = absurd (omega arith)
digits_more old new (suc count) n some e =
    let k : suc count - 1 ≡ count = omega arith in
    e ∙ (λ i. (old ++ digits_text (places (k i) (n / 10))) ++ (48 + n % 10) ∷ [])
    ∙ append_assoc old (digits_text (places count (n / 10))) ((48 + n % 10) ∷ [])
    ∙ ap (λ l. old ++ l) (sym (map-append (λ d. 48 + d) (places count (n / 10)) (n % 10 ∷ [])))

pub fraction_none : (old : List ℕ) (n : ℕ) → old ≡ old ++ fraction_text (shortest 0 n)
unfolding shortest
fraction_none old n = sym (append-nil old)

pub fraction_less : (count n : ℕ) → 0 < count → n % 10 ≡ 0 → shortest (count - 1) (n / 10) ≡ shortest count n
unfolding shortest
fraction_less zero n some e = absurd (omega arith)
fraction_less (suc count) n some e =
    let k : suc count - 1 ≡ count = omega arith in
    let t : (n % 10 == 0) ≡ true = grind (arith, nat_tests) in
    ap (λ m. shortest m (n / 10)) k ∙ sym (ap (λ b. if b then shortest count (n / 10) else places (suc count) n) t)

pub fraction_whole : (count n : ℕ) → 0 < count → n % 10 ≢ 0 → shortest count n ≡ places count n
unfolding shortest
fraction_whole zero n some e = absurd (omega arith)
fraction_whole (suc count) n some e =
    let t : (n % 10 == 0) ≡ false = grind (arith, nat_tests) in
    ap (λ b. if b then shortest count (n / 10) else places (suc count) n) t

pub pointed : (count n : ℕ) → 0 < count → fraction_text (places count n) ≡ codes "." ++ digits_text (places count n)
unfolding places
pointed zero n some = absurd (omega arith)
pointed (suc count) n some = by_front (places count (n / 10)) (n % 10)
  where
    by_front : (xs : List ℕ) (d : ℕ) → fraction_text (xs ++ d ∷ []) ≡ codes "." ++ digits_text (xs ++ d ∷ [])
    by_front [] d = refl
    by_front (x ∷ xs) d = refl

pub fraction_more : (old new : List ℕ) (count n : ℕ) → 0 < count → n % 10 ≢ 0 → new ≡ (old ++ codes ".") ++ digits_text (places count n) → new ≡ old ++ fraction_text (shortest count n)
fraction_more old new count n some last e =
    e ∙ append_assoc old (codes ".") (digits_text (places count n))
    ∙ ap (λ l. old ++ l) (sym (ap fraction_text (fraction_whole count n some last) ∙ pointed count n some))
