-- The groups of a cohort as a list.
use Rattle.std.proofs.Common.{◌≡◌, ℕ, zero, suc, ◌+◌, ◌*◌, ◌<◌, ◌≤◌, Bool, true, List, [], ◌∷◌, ◌++◌, length, sym, ap, subst, ◌∙◌, arith}
use Rattle.std.specs.Prelude.{◌==◌, ◌||◌, Contains, sum_by, slice_index_or, if◌then◌else◌}
use Rattle.std.specs.List.{AllByRecursion, range_with_len}
use Rattle.std.proofs.lemmas.Bool.{eq-eqb}
use Rattle.std.proofs.lemmas.List.Sums.{sum_by-cons}
use Rattle.object_groups.specs.Groups.{IsGroup}
use Rattle.archive_chain.specs.Kept.{Cover, has_name, is_in, ids_in}
use Rattle.archive_chain.proofs.RowsRenewing.{by_test}

pub run_more : (first n : ℕ) → range_with_len first (n + 1) ≡ range_with_len first n ++ (first + n) ∷ []
run_more first n =
    let same : suc n ≡ n + 1 = omega arith in
    subst (λ (m : ℕ). range_with_len first m ≡ range_with_len first n ++ (first + n) ∷ []) same (more first n) where
      more : (begin k : ℕ) → range_with_len begin (suc k) ≡ range_with_len begin k ++ (begin + k) ∷ []
      more begin zero = ap (λ (x : ℕ). x ∷ []) (omega arith)
      more begin (suc k) =
          let moved : (begin + 1) + k ≡ begin + suc k = omega arith in
          ap (λ (l : List ℕ). begin ∷ l) (more (begin + 1) k ∙ ap (λ (x : ℕ). range_with_len (begin + 1) k ++ x ∷ []) moved)

pub run_at : (first count index : ℕ) → AllByRecursion (λ id. id < 65536) (range_with_len first count) → index < count → first + index < 65536
run_at first zero index all less = absurd (omega (arith, less))
run_at first (suc count) zero all less = let h = all.0 in omega (arith, h)
run_at first (suc count) (suc index) all less = let h = run_at (first + 1) count index all.1 (omega (arith, less)) in omega (arith, h)

pub ids_below : (names : List ℕ) (end id : ℕ) (groups : List (List Cover)) → id + length groups ≤ end → AllByRecursion (λ x. x < end) (ids_in names id groups)
ids_below names end id [] le = tt
ids_below names end id (g ∷ groups) le =
    let rest = ids_below names end (id + 1) groups (omega (arith, le)) in
    let less : id < end = omega (arith, le) in
    by_test (is_in names g)
    (λ e. subst (λ (b : Bool). AllByRecursion (λ x. x < end) (if b then id ∷ ids_in names (id + 1) groups else ids_in names (id + 1) groups)) (sym e) (less, rest))
    (λ e. subst (λ (b : Bool). AllByRecursion (λ x. x < end) (if b then id ∷ ids_in names (id + 1) groups else ids_in names (id + 1) groups)) (sym e) rest)

name_at : (names : List ℕ) (i name : ℕ) → i < length names → slice_index_or names i name ≡ name → has_name names name ≡ true
name_at [] i name less e = absurd (omega (arith, less))
name_at (x ∷ names) zero name less e = ap (λ (b : Bool). b || has_name names name) (eq-eqb x name e)
name_at (x ∷ names) (suc i) name less e =
    by_test (x == name)
    (λ t. ap (λ (b : Bool). b || has_name names name) t)
    (λ f. ap (λ (b : Bool). b || has_name names name) f ∙ name_at names i name (omega (arith, less)) e)

pub named_contained : (names : List ℕ) (name : ℕ) → Contains names name → has_name names name ≡ true
named_contained names name h = name_at names h.0 name h.1 h.2

-- the documents of a deposit's groups
pub few_documents : (groups : List (List (List ℕ))) → AllByRecursion IsGroup groups → sum_by length groups ≤ 64 * length groups
few_documents [] each = omega arith
few_documents (g ∷ groups) each =
    let rest = few_documents groups each.1 in
    let one = each.0.few in
    let sum = sum_by-cons length g groups in
    omega (arith, rest, one, sum)
