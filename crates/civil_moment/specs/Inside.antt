-- What the private functions of the writer say.
use Rattle.std.specs.Prelude.{ℕ, zero, suc, ◌/◌, ◌%◌, ◌==◌, List, [], ◌∷◌, ◌++◌, if◌then◌else◌}

-- the last decimal digits of a number, so many of them
unfoldable pub places : ℕ → ℕ → List ℕ
places zero number = []
places (suc count) number = places count (number / 10) ++ number % 10 ∷ []

-- the same without the zeros at the end
unfoldable pub shortest : ℕ → ℕ → List ℕ
shortest zero number = []
shortest (suc count) number =
    if number % 10 == 0 then shortest count (number / 10) else places (suc count) number
