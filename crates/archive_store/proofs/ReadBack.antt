-- Items that come one after another: a document is read at each place.
use Rattle.std.proofs.Common.{◌≡◌, ℕ, zero, suc, ◌+◌, ◌<◌, List, [], ◌∷◌, ◌++◌, map, length, take, get_or, refl, sym, ap, ◌∙◌, subst, arith}
use Rattle.std.specs.List.{AllByRecursion}
use Rattle.std.proofs.lemmas.List.{take_more}

pub map_push : {A B : Type 0} (f : A → B) (xs : List A) (x : A) → map f (xs ++ x ∷ []) ≡ map f xs ++ f x ∷ []
map_push f [] x = refl
map_push f (y ∷ xs) x = ap (λ l. f y ∷ l) (map_push f xs x)

-- the items so far and the next one
next_is : {A : Type 0} (ys : List A) (k : ℕ) (y : A) → k < length ys → y ≡ get_or ys k y → take (k + 1) ys ≡ take k ys ++ y ∷ []
next_is ys k y lt is = take_more ys k y lt ∙ ap (λ z. take k ys ++ z ∷ []) (sym is)

-- one item more of a list that has an item for each of another
pub list_more : {A B : Type 0} (h : B → A) (xs more : List A) (x : A) (ys : List B) (k : ℕ) (y : B) → k < length ys → y ≡ get_or ys k y → xs ≡ map h (take k ys)
    → x ≡ h y → more ≡ xs ++ x ∷ [] → more ≡ map h (take (k + 1) ys)
list_more {A} h xs more x ys k y lt is are same more_are =
    more_are ∙ ap (λ (l : List A). l ++ x ∷ []) are ∙ ap (λ (z : A). map h (take k ys) ++ z ∷ []) same ∙ sym (map_push h (take k ys) y) ∙ ap (map h) (sym (next_is ys k y lt is))

-- the same, where both lists say the same of it
pub map_more : {A B C : Type 0} (f : A → C) (h : B → C) (xs more : List A) (x : A) (ys : List B) (k : ℕ) (y : B) → k < length ys → y ≡ get_or ys k y
    → map f xs ≡ map h (take k ys) → f x ≡ h y → more ≡ xs ++ x ∷ [] → map f more ≡ map h (take (k + 1) ys)
map_more {A} {B} {C} f h xs more x ys k y lt is are same more_are =
    ap (map f) more_are ∙ map_push f xs x ∙ ap (λ (l : List C). l ++ f x ∷ []) are ∙ ap (λ (z : C). map h (take k ys) ++ z ∷ []) same
    ∙ sym (map_push h (take k ys) y) ∙ ap (map h) (sym (next_is ys k y lt is))

-- within a list the default says nothing
pub any_default : {A : Type 0} (xs : List A) (k : ℕ) (x y : A) → k < length xs → get_or xs k x ≡ get_or xs k y
any_default [] k x y lt = absurd (omega (arith, lt))
any_default (z ∷ xs) zero x y lt = refl
any_default (z ∷ xs) (suc k) x y lt = any_default xs k x y (omega (arith, lt))

-- what holds of each
pub all_get : {A : Type 0} (P : A → Type 0) (xs : List A) (k : ℕ) (x : A) → AllByRecursion P xs → k < length xs → x ≡ get_or xs k x → P x
all_get P [] k x all lt is = absurd (omega (arith, lt))
all_get P (y ∷ xs) zero x all lt is = subst P (sym is) all.0
all_get P (y ∷ xs) (suc k) x all lt is = all_get P xs k x all.1 (omega (arith, lt)) is
