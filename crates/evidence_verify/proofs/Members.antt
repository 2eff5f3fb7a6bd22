-- That a value is in a list, as a fact and as a test.
use Rattle.std.proofs.Common.{◌≡◌, ℕ, Bool, true, false, List, [], ◌∷◌, Contains, IsTrue, ◌↔◌, refl, sym}
use Rattle.std.specs.List.{list_all, AllByRecursion}
use Rattle.std.specs.Str.{bytes_eq}
use Rattle.std.specs.Cmp.Lexicographic.{nat_list_eq_equiv}
use Rattle.std.proofs.lemmas.Bool.{and_parts, and_from}
use Rattle.std.proofs.lemmas.Map.Views.{Contains-from_any, list_any-from_Contains}
use Rattle.std.proofs.lemmas.Slice.Eq.{bytes_eq-Decides}
use Rattle.evidence_verify.specs.Covers.{has}

pub has_from : (values : List (List ℕ)) (value : List ℕ) → Contains values value → has values value ≡ true
has_from values value h = list_any-from_Contains nat_list_eq_equiv value values h

pub from_has : (values : List (List ℕ)) (value : List ℕ) → has values value ≡ true → Contains values value
from_has values value h = Contains-from_any {eq = bytes_eq} (λ x y. (bytes_eq-Decides x y).0) value values h

-- two tests of one fact
pub same_test : (b c : Bool) (P : Type 0) → (IsTrue b ↔ P) → (c ≡ true → P) → (P → c ≡ true) → b ≡ c
same_test true c P is there back = sym (back (is.0 refl))
same_test false true P is there back = is.1 (there refl)
same_test false false P is there back = refl

pub has_is : (b : Bool) (values : List (List ℕ)) (value : List ℕ) → (IsTrue b ↔ Contains values value) → b ≡ has values value
has_is b values value is = same_test b (has values value) (Contains values value) is (from_has values value) (has_from values value)

pub all_from : (values first : List (List ℕ)) → AllByRecursion (λ value. Contains values value) first → list_all (has values) first ≡ true
all_from values [] h = refl
all_from values (v ∷ vs) h = and_from (has values v) _ (has_from values v h.0) (all_from values vs h.1)

pub from_all : (values first : List (List ℕ)) → list_all (has values) first ≡ true → AllByRecursion (λ value. Contains values value) first
from_all values [] h = tt
from_all values (v ∷ vs) h =
    let parts = and_parts (has values v) (list_all (has values) vs) h in
    (from_has values v parts.0, from_all values vs parts.1)

pub whole_is : (b : Bool) (values first : List (List ℕ)) → (IsTrue b ↔ AllByRecursion (λ value. Contains values value) first) → b ≡ list_all (has values) first
whole_is b values first is = same_test b (list_all (has values) first) (AllByRecursion (λ value. Contains values value) first) is (from_all values first) (all_from values first)
