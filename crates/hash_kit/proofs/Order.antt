-- The ascending list of values does not depend on the order in which they come.
use Rattle.std.proofs.Common.{◌≡◌, ℕ, zero, suc, ◌+◌, ◌<◌, Bool, true, false, List, [], ◌∷◌, length, refl, sym, ap, subst, ◌∙◌, arith, if◌then◌else◌}
use Rattle.std.specs.Ordering.{is_eq, is_le, is_lt, is_gt, ordering_reverse}
use Rattle.std.specs.Prelude.{slice_index_or, slice_set, IsPermutation, IsSorted}
use Rattle.std.specs.List.{swap}
use Rattle.std.specs.Cmp.Lexicographic.{nat_list_cmp_total, same_text, texts_ties}
use Rattle.std.specs.declared.cmp.Ordering.{Ordering}
use Rattle.std.specs.declared.cmp.Ordering.TheVariants.{Less, Equal, Greater}
use Rattle.std.proofs.lemmas.Cmp.{upto}
use Rattle.std.proofs.lemmas.List.Sorted.{IsPermutation-keeps, IsPermutation-refl, IsPermutation-trans, IsPermutation-swap, IsPermutation-cons}
use Rattle.hash_kit.specs.Node.{bytes_cmp, with_value, ascending}

-- ---- the order of byte strings

abbrev le : List ℕ → List ℕ → Bool
le a b = is_le (bytes_cmp a b)

by_test : {G : Type 0} (b : Bool) → (b ≡ true → G) → (b ≡ false → G) → G
by_test true f g = f refl
by_test false f g = g refl

not_gt : (r : Ordering) → is_le r ≡ true → is_gt r ≡ false
not_gt Less e = refl
not_gt Equal e = refl
not_gt Greater e = cc

is_le_of : (r : Ordering) → is_gt r ≡ false → is_le r ≡ true
is_le_of Less e = refl
is_le_of Equal e = refl
is_le_of Greater e = cc

turned : (r s : Ordering) → s ≡ ordering_reverse r → is_le r ≡ false → is_le s ≡ true
turned Less s h e = cc
turned Equal s h e = cc
turned Greater s h e = ap is_le h

both : (r s : Ordering) → s ≡ ordering_reverse r → is_le r ≡ true → is_le s ≡ true → r ≡ Equal
both Less s h e f = let g = sym f ∙ ap is_le h in cc
both Equal s h e f = refl
both Greater s h e f = cc

le-trans : (a b c : List ℕ) → le a b ≡ true → le b c ≡ true → le a c ≡ true
le-trans a b c p q =
    is_le_of (bytes_cmp a c) (upto nat_list_cmp_total a b c (not_gt (bytes_cmp a b) p) (not_gt (bytes_cmp b c) q))

le-total : (a b : List ℕ) → le a b ≡ false → le b a ≡ true
le-total a b = turned (bytes_cmp a b) (bytes_cmp b a) (nat_list_cmp_total.antisymm b a)

le-antisym : (a b : List ℕ) → le a b ≡ true → le b a ≡ true → a ≡ b
le-antisym a b p q =
    let e = both (bytes_cmp a b) (bytes_cmp b a) (nat_list_cmp_total.antisymm b a) p q in
    same_text a b (sym (texts_ties a b ∙ ap is_eq e))

-- ---- one value more

front : (v n : List ℕ) (r : List (List ℕ)) → le v n ≡ true → with_value v (n ∷ r) ≡ v ∷ n ∷ r
front v n r e = ap (λ t. if t then v ∷ n ∷ r else n ∷ with_value v r) e

later : (v n : List ℕ) (r : List (List ℕ)) → le v n ≡ false → with_value v (n ∷ r) ≡ n ∷ with_value v r
later v n r e = ap (λ t. if t then v ∷ n ∷ r else n ∷ with_value v r) e

ordered : (a b : List ℕ) (l : List (List ℕ)) → le a b ≡ true → with_value a (with_value b l) ≡ with_value b (with_value a l)
ordered a b [] up =
    by_test (le b a)
    (λ down. let e = le-antisym a b up down in λ i. with_value (e i) (sym e i ∷ []))
    (λ apart. front a b [] up ∙ sym (later b a [] apart))
ordered a b (x ∷ r) up =
    by_test (le b x)
    (λ bx.
    let ax = le-trans a b x up bx in
    let right : with_value b (a ∷ x ∷ r) ≡ a ∷ b ∷ x ∷ r = by_test (le b a)
    (λ down. let e = le-antisym a b up down in front b a (x ∷ r) down ∙ (λ i. sym e i ∷ e i ∷ x ∷ r))
    (λ apart. later b a (x ∷ r) apart ∙ ap (λ l. a ∷ l) (front b x r bx)) in
    ap (with_value a) (front b x r bx) ∙ front a b (x ∷ r) up ∙ sym (ap (with_value b) (front a x r ax) ∙ right))
    (λ bx. by_test (le a x)
    (λ ax.
    let apart : le b a ≡ false = by_test (le b a) (λ down. let e = le-trans b a x down ax in cc) (λ e. e) in
    let right = ap (with_value b) (front a x r ax) ∙ later b a (x ∷ r) apart ∙ ap (λ l. a ∷ l) (later b x r bx) in
    ap (with_value a) (later b x r bx) ∙ front a x (with_value b r) ax ∙ sym right)
    (λ ax.
    let right = ap (with_value b) (later a x r ax) ∙ later b x (with_value a r) bx in
    ap (with_value a) (later b x r bx) ∙ later a x (with_value b r) ax ∙ ap (λ l. x ∷ l) (ordered a b r up) ∙ sym right))

pub commute : (a b : List ℕ) (l : List (List ℕ)) → with_value a (with_value b l) ≡ with_value b (with_value a l)
commute a b l = by_test (le a b) (ordered a b l) (λ e. sym (ordered b a l (le-total a b e)))

-- ---- lists in another order

-- the element at j changes places with one before the list
moved : (z : List ℕ) (l : List (List ℕ)) (j : ℕ) (d : List ℕ) → j < length l → ascending (slice_index_or l j d ∷ slice_set l j z) ≡ ascending (z ∷ l)
moved z [] j d h = absurd (omega arith)
moved z (w ∷ l) zero d h = commute w z (ascending l)
moved z (w ∷ l) (suc j) d h =
    commute (slice_index_or l j d) w (ascending (slice_set l j z))
    ∙ ap (with_value w) (moved z l j d (omega arith))
    ∙ commute w z (ascending l)

exchanged : (d : List ℕ) (l : List (List ℕ)) (i j : ℕ) → i < length l → j < length l → ascending (slice_set (slice_set l i (slice_index_or l j d)) j (slice_index_or l i d)) ≡ ascending l
exchanged d [] i j a b = absurd (omega arith)
exchanged d (z ∷ l) zero zero a b = refl
exchanged d (z ∷ l) zero (suc j) a b = moved z l j d (omega arith)
exchanged d (z ∷ l) (suc i) zero a b = moved z l i d (omega arith)
exchanged d (z ∷ l) (suc i) (suc j) a b = ap (with_value z) (exchanged d l i j (omega arith) (omega arith))

swapped : (l : List (List ℕ)) (i j : ℕ) → i < length l → j < length l → ascending (swap l i j) ≡ ascending l
swapped [] i j a b = refl
swapped (d ∷ l) i j a b = exchanged d (d ∷ l) i j a b

pub ascending_alike : (xs ys : List (List ℕ)) → IsPermutation xs ys → ascending ys ≡ ascending xs
ascending_alike xs ys h =
    IsPermutation-keeps xs (λ l. ascending l ≡ ascending xs) refl (λ l i j a b e. swapped l i j a b ∙ e) ys h

-- ---- lists that ascend

settled : (r s : Ordering) → s ≡ ordering_reverse r → is_lt r ≡ false → is_le s ≡ true
settled Less s h e = cc
settled Equal s h e = ap is_le h
settled Greater s h e = ap is_le h

unsettled : (r s : Ordering) → s ≡ ordering_reverse r → is_le r ≡ true → is_lt s ≡ false
unsettled Less s h e = ap is_lt h
unsettled Equal s h e = ap is_lt h
unsettled Greater s h e = cc

sorted-first : (x y : List ℕ) (l : List (List ℕ)) → IsSorted bytes_cmp (x ∷ y ∷ l) → le x y ≡ true
sorted-first x y l h =
    settled (bytes_cmp y x) (bytes_cmp x y) (nat_list_cmp_total.antisymm x y) (h 0 x (omega arith) (omega arith))

sorted-rest : (x : List ℕ) (l : List (List ℕ)) → IsSorted bytes_cmp (x ∷ l) → IsSorted bytes_cmp l
sorted-rest x l h k d low high =
    let e : suc k + 1 ≡ suc (k + 1) = omega arith in
    subst (λ n. is_lt (bytes_cmp (slice_index_or (x ∷ l) n d) (slice_index_or l k d)) ≡ false) e (h (suc k) d (omega arith) (omega arith))

sorted-more : (x y : List ℕ) (l : List (List ℕ)) → le x y ≡ true → IsSorted bytes_cmp (y ∷ l) → IsSorted bytes_cmp (x ∷ y ∷ l)
sorted-more x y l up h zero d low high =
    unsettled (bytes_cmp x y) (bytes_cmp y x) (nat_list_cmp_total.antisymm y x) up
sorted-more x y l up h (suc k) d low high =
    let e : suc (k + 1) ≡ suc k + 1 = omega arith in
    subst (λ n. is_lt (bytes_cmp (slice_index_or (x ∷ y ∷ l) n d) (slice_index_or (y ∷ l) k d)) ≡ false) e (h k d (omega arith) (omega arith))

sorted-one : (x : List ℕ) → IsSorted bytes_cmp (x ∷ [])
sorted-one x k d low high = absurd (omega arith)

pub ascending_already : (l : List (List ℕ)) → IsSorted bytes_cmp l → ascending l ≡ l
ascending_already [] h = refl
ascending_already (x ∷ []) h = refl
ascending_already (x ∷ y ∷ l) h =
    ap (with_value x) (ascending_already (y ∷ l) (sorted-rest x (y ∷ l) h)) ∙ front x y l (sorted-first x y l h)

sorted-under : (n v : List ℕ) (r : List (List ℕ)) → le n v ≡ true → IsSorted bytes_cmp (n ∷ r) → IsSorted bytes_cmp (with_value v r) → IsSorted bytes_cmp (n ∷ with_value v r)
sorted-under n v [] up h g = sorted-more n v [] up g
sorted-under n v (m ∷ r) up h g =
    by_test (le v m)
    (λ e.
    let same = front v m r e in
    subst (λ l. IsSorted bytes_cmp (n ∷ l)) (sym same) (sorted-more n v (m ∷ r) up (subst (IsSorted bytes_cmp) same g)))
    (λ e.
    let same = later v m r e in
    subst (λ l. IsSorted bytes_cmp (n ∷ l)) (sym same)
    (sorted-more n m (with_value v r) (sorted-first n m r h) (subst (IsSorted bytes_cmp) same g)))

sorted-with_value : (v : List ℕ) (l : List (List ℕ)) → IsSorted bytes_cmp l → IsSorted bytes_cmp (with_value v l)
sorted-with_value v [] h = sorted-one v
sorted-with_value v (n ∷ r) h =
    by_test (le v n)
    (λ e. subst (IsSorted bytes_cmp) (sym (front v n r e)) (sorted-more v n r e h))
    (λ e. subst (IsSorted bytes_cmp) (sym (later v n r e))
    (sorted-under n v r (le-total v n e) h (sorted-with_value v r (sorted-rest n r h))))

sorted-none : IsSorted bytes_cmp []
sorted-none k d low high = absurd (omega arith)

pub ascending-sorted : (l : List (List ℕ)) → IsSorted bytes_cmp (ascending l)
ascending-sorted [] = sorted-none
ascending-sorted (v ∷ l) = sorted-with_value v (ascending l) (ascending-sorted l)

-- ---- the same values

permuted-with_value : (v : List ℕ) (l : List (List ℕ)) → IsPermutation (v ∷ l) (with_value v l)
permuted-with_value v [] = IsPermutation-refl (v ∷ [])
permuted-with_value v (n ∷ r) =
    by_test (le v n)
    (λ e. subst (IsPermutation (v ∷ n ∷ r)) (sym (front v n r e)) (IsPermutation-refl (v ∷ n ∷ r)))
    (λ e. subst (IsPermutation (v ∷ n ∷ r)) (sym (later v n r e))
    (IsPermutation-trans (v ∷ n ∷ r) (n ∷ v ∷ r) (n ∷ with_value v r)
    (IsPermutation-swap (v ∷ n ∷ r) (n ∷ v ∷ r) 0 1 (omega arith) (omega arith) refl)
    (IsPermutation-cons n (v ∷ r) (with_value v r) (permuted-with_value v r))))

pub ascending-permutation : (l : List (List ℕ)) → IsPermutation l (ascending l)
ascending-permutation [] = IsPermutation-refl []
ascending-permutation (v ∷ l) =
    IsPermutation-trans (v ∷ l) (v ∷ ascending l) (with_value v (ascending l))
    (IsPermutation-cons v l (ascending l) (ascending-permutation l))
    (permuted-with_value v (ascending l))

-- no other list ascends and has the same values
pub ascending_only : (values l : List (List ℕ)) → IsPermutation values l → IsSorted bytes_cmp l → l ≡ ascending values
ascending_only values l moved up = sym (ascending_already l up) ∙ ascending_alike values l moved
