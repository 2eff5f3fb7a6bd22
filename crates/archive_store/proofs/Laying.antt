-- Where the documents of a deposit will stand, with one more, and with one group more.
use Rattle.std.proofs.Common.{◌≡◌, ℕ, ◌+◌, ◌*◌, ◌<◌, ◌≤◌, List, [], ◌∷◌, ◌++◌, map, length, take, get_or, refl, sym, ap, ◌∙◌, arith, append_assoc}
use Rattle.std.specs.Prelude.{sum_by}
use Rattle.std.specs.List.{flat_map}
use Rattle.std.proofs.lemmas.List.{length-append, length-take, take_more}
use Rattle.std.proofs.lemmas.List.Sums.{sum_by_more, sum_by-take-le}
use Rattle.object_groups.specs.Groups.{IsGroup, bytes_in}
use Rattle.entry_codec.specs.declared.places.Place.{Place}
use Rattle.entry_codec.specs.Spelling.{group_spelling, IsDeposit}
use Rattle.entry_codec.specs.Places.{document_places, group_places}
use Rattle.entry_codec.proofs.Placed.{group_size, one_document_more, one_group_more}
use Rattle.archive_store.proofs.Short.{groups_length}
use Rattle.archive_store.proofs.Homes.{all_take}

-- the items so far and the next one
so_far : {A : Type 0} (xs : List A) (i : ℕ) (x : A) → i < length xs → x ≡ get_or xs i x → take (i + 1) xs ≡ take i xs ++ x ∷ []
so_far xs i x lt is = take_more xs i x lt ∙ ap (λ y. take i xs ++ y ∷ []) (sym is)

pub document_more : (ds : List (List ℕ)) (i : ℕ) (d : List ℕ) (at size next : ℕ) (old places more : List Place) → i < length ds → d ≡ get_or ds i d
    → size ≡ bytes_in (take i ds) → next ≡ at + 4 * i + size → places ≡ old ++ document_places at (take i ds)
    → more ≡ places ++ record { from = next + 4; size = length d } ∷ [] → more ≡ old ++ document_places at (take (i + 1) ds)
document_more ds i d at size next old places more lt is size_is next_is are more_are =
    let one : Place = record { from = next + 4; size = length d } in
    let front : List (List ℕ) = take i ds in
    let place : next + 4 ≡ at + 4 * length front + bytes_in front + 4 = omega (arith, next_is, size_is, length-take i ds, lt) in
    more_are ∙ ap (λ (l : List Place). l ++ one ∷ []) are
    ∙ append_assoc old (document_places at front) (one ∷ [])
    ∙ ap (λ (l : List Place). old ++ l) (sym (one_document_more at front d (next + 4) place) ∙ ap (document_places at) (sym (so_far ds i d lt is)))

pub bytes_more : (ds : List (List ℕ)) (i : ℕ) (d : List ℕ) → i < length ds → d ≡ get_or ds i d → bytes_in (take (i + 1) ds) ≡ bytes_in (take i ds) + length d
bytes_more ds i d lt is = sum_by_more length ds i d lt ∙ ap (λ (x : List ℕ). bytes_in (take i ds) + length x) (sym is)

-- ---- groups

abbrev laid : List (List (List ℕ)) → ℕ
laid gs = length (flat_map group_spelling gs)

laid_more : (gs : List (List (List ℕ))) (g : List (List ℕ)) → laid (gs ++ g ∷ []) ≡ laid gs + length (group_spelling g)
laid_more [] g = omega (arith, length-append (group_spelling g) [])
laid_more (x ∷ gs) g =
    omega (arith, length-append (group_spelling x) (flat_map group_spelling (gs ++ g ∷ [])), length-append (group_spelling x) (flat_map group_spelling gs), laid_more gs g)

-- in a deposit all stand within so many bytes
pub laid_few : (gs : List (List (List ℕ))) (i : ℕ) → IsDeposit gs → i ≤ length gs → 5 + length (flat_map group_spelling (take i gs)) ≤ 8405253
laid_few gs i is le =
    omega (
      arith,
      groups_length (take i gs) (all_take IsGroup i gs is.each),
      length-take i gs,
      le,
      is.few,
      is.together,
      sum_by-take-le bytes_in gs i,
    )

map_more : (gs : List (List (List ℕ))) (g : List (List ℕ)) → map length (gs ++ g ∷ []) ≡ map length gs ++ length g ∷ []
map_more [] g = refl
map_more (x ∷ gs) g = ap (λ (l : List ℕ). length x ∷ l) (map_more gs g)

module _ (gs : List (List (List ℕ))) (i : ℕ) (g : List (List ℕ)) (lt : i < length gs) (is : g ≡ get_or gs i g) where
  abbrev front : List (List (List ℕ))
  front = take i gs

  next : take (i + 1) gs ≡ front ++ g ∷ []
  next = so_far gs i g lt is

  pub counts_more : (counts more : List ℕ) → counts ≡ map length front → more ≡ counts ++ length g ∷ [] → more ≡ map length (take (i + 1) gs)
  counts_more counts more are more_are = more_are ∙ ap (λ (l : List ℕ). l ++ length g ∷ []) are ∙ sym (map_more front g) ∙ ap (map length) (sym next)

  pub groups_more : (place : ℕ) (places more : List Place) → place ≡ 5 + laid front → places ≡ group_places 5 front → more ≡ places ++ document_places (place + 4) g
      → more ≡ group_places 5 (take (i + 1) gs)
  groups_more place places more at are more_are =
      more_are ∙ ap (λ (l : List Place). l ++ document_places (place + 4) g) are
      ∙ sym (one_group_more 5 front g (place + 4) (omega (arith, at))) ∙ ap (group_places 5) (sym next)

  pub place_more : (place size : ℕ) → place ≡ 5 + laid front → size ≡ bytes_in g → place + (4 + 4 * length g + size) ≡ 5 + laid (take (i + 1) gs)
  place_more place size at size_is = omega (arith, at, size_is, ap laid next, laid_more front g, group_size g)

  pub sum_more : (bytes size : ℕ) → bytes ≡ sum_by bytes_in front → size ≡ bytes_in g → bytes + size ≡ sum_by bytes_in (take (i + 1) gs)
  sum_more bytes size are size_is = omega (arith, are, size_is, sum_by_more bytes_in gs i g lt, ap bytes_in is)
