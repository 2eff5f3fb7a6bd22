-- What a time-stamp has to cover (RFC 4998, 5.2 and 5.3): the first of a chain each document, a later one the
-- time-stamp before it.
use Rattle.std.specs.Prelude.{ℕ, ◌==◌, List, [], ◌∷◌, if◌then◌else◌}
use Rattle.hash_kit.specs.Digest.{digest_of}
use Rattle.evidence_syntax.specs.DocumentValue.{values_after}
use Rattle.evidence_verify.specs.Stamps.{Checked}

-- the values that a time-stamp has to cover, where this is the token of the time-stamp before it
unfoldable pub owed_values : List (List ℕ) → List ℕ → Checked → List (List ℕ)
owed_values documents before c =
    if c.place.stamp == 0 then values_after c.says.alg c.place.older documents
    else digest_of c.says.alg before ∷ []

-- A time-stamp, and the values that it has to cover.
pub record Owed : Type 0 where
  pub stamp : Checked
  pub values : List (List ℕ)

-- what each of these time-stamps has to cover, where this is the token before them
abbrev pub owed_after : List (List ℕ) → List ℕ → List Checked → List Owed
owed_after documents before [] = []
owed_after documents before (c ∷ rest) =
    record { stamp = c; values = owed_values documents before c } ∷ owed_after documents c.place.ats.token rest

-- no token stands before the first
abbrev pub owed_by : List (List ℕ) → List Checked → List Owed
owed_by documents stamps = owed_after documents [] stamps
