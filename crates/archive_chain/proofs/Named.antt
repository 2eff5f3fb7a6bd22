-- The rows of some cohorts, with what their chains are.
use Rattle.std.proofs.Common.{◌≡◌, ℕ, zero, suc, ◌+◌, ◌<◌, List, [], ◌∷◌, ◌++◌, length, map, Option, Some, None, refl, ap, subst, ◌∙◌, arith}
use Rattle.std.specs.Prelude.{⊤, slice_get}
use Rattle.std.specs.List.{AllByRecursion}
use Rattle.archive_chain.specs.Kept.{Cover}
use Rattle.archive_chain.specs.InsideRows.{Row as Chain}
use Rattle.archive_chain.specs.declared.row.Row.{Row}
use Rattle.archive_chain.specs.declared.row.Longer.{Longer}
use Rattle.archive_chain.specs.Held.{Plain}
use Rattle.archive_chain.specs.InsideTable.{Stamps, plain_of, chain_of, later_seen, rows_seen}
use Rattle.archive_chain.specs.InsidePieces.{IsAt, AreAt, IsAdded, AreAdded}
use Rattle.std.proofs.lemmas.List.{map-append}
use Rattle.archive_chain.proofs.Walking.{get_map}

-- the chain of this cohort stands at this place
pub record IsNamed (table : List Chain) (place name : ℕ) : Type 0 where
  pub row : Chain
  pub there : slice_get table place ≡ Some row
  pub entry : row.entry ≡ name
  pub open_ : row.next ≡ None

abbrev pub AreNamed : List Chain → List ℕ → List ℕ → Type 0
AreNamed table [] [] = ⊤
AreNamed table [] (name ∷ names) = ⊥
AreNamed table (place ∷ places) [] = ⊥
AreNamed table (place ∷ places) (name ∷ names) = IsNamed table place name × AreNamed table places names

-- the chain of this cohort has these further time-stamps, but for the last
pub record IsLonger (table : List Chain) (place : ℕ) (later : List Cover) (most name : ℕ) (cover : Cover) : Type 0 where
  pub named : IsNamed table place name
  pub later_is : later ≡ named.row.later ++ cover ∷ []
  pub most_is : most ≡ named.row.most + 1

abbrev pub AreLonger : (ℕ → Cover) → ℕ → List Chain → List (ℕ × List Cover × ℕ) → List ℕ → Type 0
AreLonger cover at table [] [] = ⊤
AreLonger cover at table [] (name ∷ names) = ⊥
AreLonger cover at table (l ∷ longer) [] = ⊥
AreLonger cover at table (l ∷ longer) (name ∷ names) = IsLonger table l.0 l.1 l.2 name (cover at) × AreLonger cover (at + 1) table longer names

pub rows_plain : (stamps : Stamps) (rows : List Row) → map (chain_of stamps) (map plain_of rows) ≡ rows_seen stamps rows
rows_plain stamps [] = refl
rows_plain stamps (r ∷ rows) = ap (λ (rs : List Chain). chain_of stamps (plain_of r) ∷ rs) (rows_plain stamps rows)

chain_at : (stamps : Stamps) (rows : List Row) (place name : ℕ) → IsAt (map plain_of rows) place name → IsNamed (rows_seen stamps rows) place name
chain_at stamps rows place name at = record {
  row = chain_of stamps at.row;
  there = subst (λ (cs : List Chain). slice_get cs place ≡ Some (chain_of stamps at.row)) (rows_plain stamps rows) (get_map (chain_of stamps) (map plain_of rows) place at.row at.there);
  entry = at.entry;
  open_ = at.open_;
}

pub chains_at : (stamps : Stamps) (rows : List Row) (places names : List ℕ) → AreAt (map plain_of rows) places names → AreNamed (rows_seen stamps rows) places names
chains_at stamps rows [] [] h = tt
chains_at stamps rows [] (n ∷ names) h = absurd h
chains_at stamps rows (p ∷ places) [] h = absurd h
chains_at stamps rows (p ∷ places) (n ∷ names) h = (chain_at stamps rows p n h.0, chains_at stamps rows places names h.1)

get_within : {A : Type 0} (xs : List A) (i : ℕ) (x : A) → slice_get xs i ≡ Some x → i < length xs
get_within {A} [] i x e = absurd (none x e) where
  none : (x : A) → ◌≡◌ {A = Option A} None (Some x) → ⊥
  none x e = cc
get_within (y ∷ xs) zero x e = omega arith
get_within (y ∷ xs) (suc i) x e = let h = get_within xs i x e in omega (arith, h)

pub at_within : (table : List Plain) (places names : List ℕ) → AreAt table places names → AllByRecursion (λ p. p < length table) places
at_within table [] names h = tt
at_within table (p ∷ places) [] h = absurd h
at_within table (p ∷ places) (n ∷ names) h = (get_within table p h.0.row h.0.there, at_within table places names h.1)

pub added_within : (table : List Plain) (entry place : ℕ) (longer : List Longer) (names : List ℕ) → AreAdded table entry place longer names → AllByRecursion (λ (l : Longer). l.row < length table) longer
added_within table entry place [] names h = tt
added_within table entry place (l ∷ longer) [] h = absurd h
added_within table entry place (l ∷ longer) (n ∷ names) h = (get_within table l.row h.0.at.row h.0.at.there, added_within table entry (place + 1) longer names h.1)

-- the longer lists, as the time-stamps after the entry show them
module _ (stamps : Stamps) (rows : List Row) (entry : ℕ) (cover : ℕ → Cover) (cover_is : (place : ℕ) → later_seen stamps (record { stamp = entry; place = place }) ≡ cover place) where
  added_chain : (place name : ℕ) (l : Longer) → IsAdded (map plain_of rows) entry place l name → IsLonger (rows_seen stamps rows) l.row (map (later_seen stamps) l.later.items) l.most name (cover place)
  unfolding chain_at
  added_chain place name l added = record {
    named = chain_at stamps rows l.row name added.at;
    later_is = ap (map (later_seen stamps)) added.later ∙ map-append (later_seen stamps) added.at.row.later (record { stamp = entry; place = place } ∷ [])
        ∙ ap (λ (c : Cover). map (later_seen stamps) added.at.row.later ++ c ∷ []) (cover_is place);
    most_is = added.most;
  }

  pub added_chains : (place : ℕ) (longer : List Longer) (names : List ℕ) → AreAdded (map plain_of rows) entry place longer names
      → AreLonger cover place (rows_seen stamps rows) (map (λ (l : Longer). (l.row, map (later_seen stamps) l.later.items, l.most)) longer) names
  added_chains place [] [] h = tt
  added_chains place [] (n ∷ names) h = absurd h
  added_chains place (l ∷ longer) [] h = absurd h
  added_chains place (l ∷ longer) (n ∷ names) h = (added_chain place n l h.0, added_chains (place + 1) longer names h.1)
