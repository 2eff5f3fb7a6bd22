-- What the loops over documents and groups have read and placed so far.
use Rattle.std.proofs.Common.{◌≡◌, ℕ, ◌+◌, ◌-◌, ◌*◌, ◌<◌, ◌≤◌, List, [], ◌∷◌, ◌++◌, length, map, Ok, refl, sym, ap, ◌∙◌, arith, append_assoc, append-nil}
use Rattle.std.specs.Prelude.{min, sum_by}
use Rattle.std.specs.List.{flat_map}
use Rattle.std.proofs.lemmas.List.{length-append}
use Rattle.std.proofs.lemmas.List.Sums.{sum_by-append}
use Rattle.object_groups.specs.Groups.{bytes_in, most_documents, most_bytes}
use Rattle.entry_codec.specs.declared.places.Place.{Place}
use Rattle.entry_codec.specs.declared.places.DepositPlaces.{DepositPlaces}
use Rattle.entry_codec.specs.Spelling.{group_spelling, most_deposited}
use Rattle.entry_codec.specs.Form.{Unread}
use Rattle.entry_codec.specs.Fault.{ranged, document_form, after_document, group_form, after_group, groups_form}
use Rattle.entry_codec.specs.Places.{document_places, group_places, LieAt}
use Rattle.entry_codec.specs.Inside.{read_at, TakesDocuments, TakesGroup}
use Rattle.entry_codec.proofs.Forms.{reads_followed}
use Rattle.entry_codec.proofs.Repeats.{SoFar, begun, more, ended}
use Rattle.entry_codec.proofs.Placed.{group_size, one_document_more, one_group_more}

-- ---- documents

pub record DocumentsSoFar (count room : ℕ) (before : Unread) (places placed : List Place) (further left : ℕ) (now : Unread) : Type 0 where
  pub documents : List (List ℕ)
  pub so_far : SoFar (λ n. document_form) after_document count room before documents further left now
  pub number : length documents + further ≡ count
  pub places_are : placed ≡ places ++ document_places before.place documents
  pub left_is : left + bytes_in documents ≡ room
  pub place_is : now.place ≡ before.place + 4 * length documents + bytes_in documents

pub documents_begun : (count room : ℕ) (before : Unread) (places : List Place) → DocumentsSoFar count room before places places count room before
documents_begun count room before places = record {
  documents = [];
  so_far = begun (λ n. document_form) after_document count room before [] refl;
  number = omega arith;
  places_are = sym (append-nil places);
  left_is = omega arith;
  place_is = omega arith;
}

pub one_more_document : (count room : ℕ) (before : Unread) (places placed : List Place) (further left : ℕ) (now : Unread) (d : List ℕ) (after : Unread) (from : ℕ) (placed' : List Place)
    → DocumentsSoFar count room before places placed further left now → 0 < further → read_at (document_form left) now ≡ Ok (d, after) → length d ≤ left → after.place ≡ now.place + 4 + length d
    → from ≡ after.place - length d → placed' ≡ placed ++ record { from = from; size = length d } ∷ []
    → DocumentsSoFar count room before places placed' (further - 1) (left - length d) after
one_more_document count room before places placed further left now d after from placed' s some read fits place is all =
    let one : Place = record { from = from; size = length d } in
    let long = length-append s.documents (d ∷ []) in
    let sum = sum_by-append (λ (x : List ℕ). length x) s.documents (d ∷ []) in
    let number = s.number in
    let left_was = s.left_is in
    let place_was = s.place_is in
    record {
      documents = s.documents ++ d ∷ [];
      so_far = more (λ n. document_form) after_document count room before s.documents further left now d after (s.documents ++ d ∷ []) (left - length d) s.so_far some read refl refl;
      number = omega arith;
      places_are = all ∙ ap (λ (l : List Place). l ++ one ∷ []) s.places_are
          ∙ append_assoc places (document_places before.place s.documents) (one ∷ [])
          ∙ ap (λ (l : List Place). places ++ l) (sym (one_document_more before.place s.documents d from (omega arith)));
      left_is = omega arith;
      place_is = omega arith;
    }

pub documents_taken : (count room : ℕ) (before : Unread) (places placed : List Place) (further left : ℕ) (now : Unread)
    → DocumentsSoFar count room before places placed further left now → further ≡ 0 → TakesDocuments count room before now places placed left
documents_taken count room before places placed further left now s none =
    let number = s.number in
    record {
      documents = s.documents;
      read = ended (λ n. document_form) after_document count room before s.documents further left now s.so_far none;
      number = omega arith;
      places_are = s.places_are;
      left_is = s.left_is;
      place_is = s.place_is;
    }

-- ---- a group

pub group_taken : (room : ℕ) (before middle after : Unread) (n : ℕ) (counts counted : List ℕ) (places placed : List Place) (left rest : ℕ)
    → read_at (ranged 1 most_documents) before ≡ Ok (n, middle) → middle.place ≡ before.place + 4 → n ≤ most_documents
    → TakesDocuments n (min most_bytes room) middle after places placed left → counted ≡ counts ++ n ∷ [] → rest + min most_bytes room ≡ room + left
    → TakesGroup room before after counts counted places placed rest
unfolding group_form
group_taken room before middle after n counts counted places placed left rest read next few t all is =
    let number = t.number in
    let left_is = t.left_is in
    let place_is = t.place_is in
    record {
      group = t.documents;
      read = reads_followed (ranged 1 most_documents) _ before.place before.bytes ∙ rw read t.read;
      few = omega arith;
      counts_are = all ∙ ap (λ (k : ℕ). counts ++ k ∷ []) (sym number);
      places_are = t.places_are ∙ ap (λ (k : ℕ). places ++ document_places k t.documents) next;
      left_is = omega arith;
      place_is = omega arith;
    }

-- ---- groups

pub record GroupsSoFar (count : ℕ) (before : Unread) (counts : List ℕ) (places : List Place) (further room : ℕ) (now : Unread) : Type 0 where
  pub groups : List (List (List ℕ))
  pub so_far : SoFar (λ n. group_form) after_group count most_deposited before groups further room now
  pub counts_are : counts ≡ map length groups
  pub places_are : places ≡ group_places before.place groups
  pub room_is : room + sum_by bytes_in groups ≡ most_deposited
  pub place_is : now.place ≡ before.place + length (flat_map group_spelling groups)
  pub within : now.place + 260 * further + room ≤ before.place + 260 * count + most_deposited

pub groups_begun : (count : ℕ) (before : Unread) (counts : List ℕ) (places : List Place) → counts ≡ [] → places ≡ [] → GroupsSoFar count before counts places count most_deposited before
groups_begun count before counts places no_counts no_places = record {
  groups = [];
  so_far = begun (λ n. group_form) after_group count most_deposited before [] refl;
  counts_are = no_counts;
  places_are = no_places;
  room_is = refl;
  place_is = omega arith;
  within = omega arith;
}

map_more : (gs : List (List (List ℕ))) (g : List (List ℕ)) → map length (gs ++ g ∷ []) ≡ map length gs ++ length g ∷ []
map_more [] g = refl
map_more (x ∷ gs) g = ap (λ (l : List ℕ). length x ∷ l) (map_more gs g)

spelled_more : (gs : List (List (List ℕ))) (g : List (List ℕ)) → length (flat_map group_spelling (gs ++ g ∷ [])) ≡ length (flat_map group_spelling gs) + length (group_spelling g)
spelled_more [] g = length-append (group_spelling g) [] ∙ omega arith
spelled_more (x ∷ gs) g =
    let more = spelled_more gs g in
    omega (arith, length-append (group_spelling x) (flat_map group_spelling (gs ++ g ∷ [])), length-append (group_spelling x) (flat_map group_spelling gs), more)

pub one_more_group : (count : ℕ) (before : Unread) (counts counted : List ℕ) (places placed : List Place) (further room left : ℕ) (now after : Unread)
    → GroupsSoFar count before counts places further room now → 0 < further → TakesGroup room now after counts counted places placed left
    → GroupsSoFar count before counted placed (further - 1) left after
one_more_group count before counts counted places placed further room left now after s some t =
    let sum = sum_by-append bytes_in s.groups (t.group ∷ []) in
    let size = group_size t.group in
    let long = spelled_more s.groups t.group in
    let room_was = s.room_is in
    let place_was = s.place_is in
    let within = s.within in
    let few = t.few in
    let left_is = t.left_is in
    let place_is = t.place_is in
    record {
      groups = s.groups ++ t.group ∷ [];
      so_far = more (λ n. group_form) after_group count most_deposited before s.groups further room now t.group after (s.groups ++ t.group ∷ []) left s.so_far some t.read refl (omega arith);
      counts_are = t.counts_are ∙ ap (λ (l : List ℕ). l ++ length t.group ∷ []) s.counts_are ∙ sym (map_more s.groups t.group);
      places_are = t.places_are ∙ ap (λ (l : List Place). l ++ document_places (now.place + 4) t.group) s.places_are
          ∙ sym (one_group_more before.place s.groups t.group (now.place + 4) (omega arith));
      room_is = omega arith;
      place_is = omega arith;
      within = omega arith;
    }

pub groups_taken : (count : ℕ) (before : Unread) (p : DepositPlaces) (room : ℕ) (further : ℕ) (now : Unread) → GroupsSoFar count before p.counts p.places further room now → further ≡ 0 → before.place ≡ 5
    → p.bytes ≡ most_deposited - room → (groups : List (List (List ℕ))) × (read_at (groups_form count most_deposited) before ≡ Ok (groups, now)) × LieAt groups p
groups_taken count before p room further now s none five bytes =
    let room_is = s.room_is in (
      s.groups,
      ended (λ n. group_form) after_group count most_deposited before s.groups further room now s.so_far none,
      record {
        counts = s.counts_are;
        places = s.places_are ∙ ap (λ (k : ℕ). group_places k s.groups) five;
        bytes = omega arith;
      },
    )
