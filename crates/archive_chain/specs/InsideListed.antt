-- The cohorts in order, and their rows.
use Rattle.std.specs.Prelude.{◌≡◌, ⊤, ℕ, slice_get, List, [], ◌∷◌, Some, None}
use Rattle.archive_chain.specs.Kept.{with_name}
use Rattle.archive_chain.specs.InsideIndex.{Bones}

abbrev pub names_by : List ℕ → List ℕ
names_by [] = []
names_by (c ∷ cohorts) = with_name c (names_by cohorts)

pub record IsOpen (table : List Bones) (place name : ℕ) : Type 0 where
  pub bones : Bones
  pub there : slice_get table place ≡ Some bones
  pub stamp : bones.stamp ≡ name
  pub open_ : bones.next ≡ None

abbrev pub AreOpen : List Bones → List ℕ → List ℕ → Type 0
AreOpen table [] [] = ⊤
AreOpen table [] (name ∷ names) = ⊥
AreOpen table (place ∷ live) [] = ⊥
AreOpen table (place ∷ live) (name ∷ names) = IsOpen table place name × AreOpen table live names

pub record IsListed (table : List Bones) (cohorts names live : List ℕ) : Type 0 where
  pub names_are : names ≡ names_by cohorts
  pub are_open : AreOpen table live names
