-- A table of cohorts: one row a chain, with its groups in order, and the row of the chain that took over.
use Rattle.std.specs.Prelude.{◌≡◌, ℕ, ◌+◌, ◌<◌, ⊤, false, List, [], ◌∷◌, ◌++◌, length, map, replicate, Option, Some, None, if◌then◌else◌}
use Rattle.std.specs.List.{AllByRecursion}
use Rattle.hash_kit.specs.declared.algorithm.HashAlg.{HashAlg}
use Rattle.std.specs.List.{range_with_len}
use Rattle.archive_chain.specs.Kept.{Cover, has_name, ids_in, place_of}
pub use Rattle.archive_chain.specs.Table.{Row, begun, walk, sealed_by}

-- ---- which are tables

abbrev pub GoesOn : ℕ → ℕ → Option ℕ → Type 0
GoesOn at end None = ⊤
GoesOn at end (Some next) = (at < next) × (next < end)

pub record IsRow (at end : ℕ) (row : Row) : Type 0 where
  pub goes_on : GoesOn at end row.next
  pub later : AllByRecursion (λ (c : Cover). c.begins ≡ false) row.later

abbrev pub AreRows : ℕ → ℕ → List Row → Type 0
AreRows at end [] = ⊤
AreRows at end (row ∷ rows) = IsRow at end row × AreRows (at + 1) end rows

-- ---- new trees for the groups of some cohorts

-- a cohort of these goes over into the new row
abbrev pub next_after : List ℕ → ℕ → ℕ → Option ℕ → Option ℕ
next_after named new entry None = if has_name named entry then Some new else None
next_after named new entry (Some next) = Some next

abbrev pub taken : List ℕ → ℕ → Row → Row
taken named new row = record {
  entry = row.entry;
  alg = row.alg;
  token = row.token;
  members = row.members;
  later = row.later;
  next = next_after named new row.entry row.next;
  most = row.most;
  least = row.least;
}

abbrev pub with_row : List ℕ → List Row → Row → List Row
with_row named rows new = map (taken named (length rows)) rows ++ new ∷ []

-- the row of a new chain
abbrev pub row_of : ℕ → HashAlg → List ℕ → List ℕ → ℕ → ℕ → Row
row_of entry alg token members most least =
    record { entry = entry; alg = alg; token = token; members = members; later = []; next = None; most = most; least = least }

-- ---- a seal of so many groups

abbrev pub with_seal : List Row → ℕ → HashAlg → List ℕ → ℕ → ℕ → List Row
with_seal rows entry alg token first count = rows ++ row_of entry alg token (range_with_len first count) 1 first ∷ []

abbrev pub more_firsts : List Row → List ℕ → ℕ → List ℕ
more_firsts rows firsts count = firsts ++ replicate count (length rows)

-- ---- a further time-stamp for some cohorts

abbrev pub later_after : (ℕ → Cover) → List ℕ → ℕ → List Cover → Option ℕ → List Cover
later_after cover named entry later None = if has_name named entry then later ++ cover (place_of named entry) ∷ [] else later
later_after cover named entry later (Some next) = later

abbrev pub most_after : List ℕ → ℕ → ℕ → Option ℕ → ℕ
most_after named entry most None = if has_name named entry then most + 1 else most
most_after named entry most (Some next) = most

abbrev pub stamped : (ℕ → Cover) → List ℕ → Row → Row
stamped cover named row = record {
  entry = row.entry;
  alg = row.alg;
  token = row.token;
  members = row.members;
  later = later_after cover named row.entry row.later row.next;
  next = row.next;
  most = most_after named row.entry row.most row.next;
  least = row.least;
}

-- the groups of each of these cohorts, one cohort after another
abbrev pub joined : List ℕ → List (List Cover) → List ℕ
joined [] groups = []
joined (name ∷ named) groups = ids_in (name ∷ []) 0 groups ++ joined named groups

-- no name stands twice
abbrev pub AreApart : List ℕ → Type 0
AreApart [] = ⊤
AreApart (name ∷ named) = (has_name named name ≡ false) × AreApart named
