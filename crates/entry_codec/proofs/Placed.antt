-- The places of documents and of groups, with one more at the end.
use Rattle.std.proofs.Common.{◌≡◌, ℕ, ◌+◌, ◌*◌, List, [], ◌∷◌, ◌++◌, length, refl, sym, ap, ◌∙◌, arith, append_assoc, append-nil}
use Rattle.std.specs.List.{flat_map}
use Rattle.std.proofs.lemmas.List.{length-append}
use Rattle.std.proofs.lemmas.List.Sums.{sum_by-cons}
use Rattle.object_groups.specs.Groups.{bytes_in}
use Rattle.entry_codec.specs.declared.places.Place.{Place}
use Rattle.entry_codec.specs.Spelling.{number, counted, group_spelling}
use Rattle.entry_codec.specs.Places.{document_places, group_places}

pub documents_size : (ds : List (List ℕ)) → length (flat_map counted ds) ≡ 4 * length ds + bytes_in ds
documents_size [] = refl
documents_size (d ∷ ds) =
    let more = documents_size ds in
    let sum = sum_by-cons (λ (x : List ℕ). length x) d ds in
    omega (arith, length-append (counted d) (flat_map counted ds), length-append (number (length d)) d, more, sum)

pub group_size : (g : List (List ℕ)) → length (group_spelling g) ≡ 4 + 4 * length g + bytes_in g
group_size g = omega (arith, length-append (number (length g)) (flat_map counted g), documents_size g)

abbrev placed : ℕ → ℕ → List Place
placed size from = record { from = from; size = size } ∷ []

pub one_document_more : (at : ℕ) (ds : List (List ℕ)) (d : List ℕ) (from : ℕ) → from ≡ at + 4 * length ds + bytes_in ds + 4
    → document_places at (ds ++ d ∷ []) ≡ document_places at ds ++ record { from = from; size = length d } ∷ []
one_document_more at [] d from is = ap (placed (length d)) (omega (arith, is))
one_document_more at (x ∷ ds) d from is =
    let sum = sum_by-cons (λ (y : List ℕ). length y) x ds in
    let first : Place = record { from = at + 4; size = length x } in
    ap (λ (l : List Place). first ∷ l) (one_document_more (at + 4 + length x) ds d from (omega (arith, is, sum)))

pub one_group_more : (at : ℕ) (gs : List (List (List ℕ))) (g : List (List ℕ)) (place : ℕ) → place ≡ at + length (flat_map group_spelling gs) + 4
    → group_places at (gs ++ g ∷ []) ≡ group_places at gs ++ document_places place g
one_group_more at [] g place is = append-nil (document_places (at + 4) g) ∙ ap (λ (n : ℕ). document_places n g) (omega (arith, is))
one_group_more at (x ∷ gs) g place is =
    let later : ℕ = at + length (group_spelling x) in
    let long = length-append (group_spelling x) (flat_map group_spelling gs) in
    ap (λ (l : List Place). document_places (at + 4) x ++ l) (one_group_more later gs g place (omega (arith, is, long)))
    ∙ sym (append_assoc (document_places (at + 4) x) (group_places later gs) (document_places place g))
