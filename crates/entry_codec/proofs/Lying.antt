-- What stands at the places of a deposit's documents are the documents.
use Rattle.std.proofs.Common.{◌≡◌, ℕ, suc, ◌+◌, Some, Ok, List, [], ◌∷◌, ◌++◌, map, length, take, drop, refl, sym, ap, ◌∙◌, subst, arith, append_assoc}
use Rattle.std.specs.Prelude.{sum}
use Rattle.std.specs.List.{flat_map, AllByRecursion}
use Rattle.std.proofs.lemmas.List.{length-append, take_at, drop_at}
use Rattle.std.proofs.lemmas.List.Sums.{sum_by-cons}
use Rattle.object_groups.specs.declared.fault.GroupFault.{GroupFault}
use Rattle.object_groups.specs.Groups.{IsGroup, fault_of}
use Rattle.object_groups.proofs.LimitLemmas.{group_is_none}
use Rattle.entry_codec.specs.declared.entry.Entry.TheVariants.{Deposit}
use Rattle.entry_codec.specs.Form.{Unread}
use Rattle.entry_codec.specs.Fault.{deposit_form}
use Rattle.entry_codec.proofs.Forms.{taken, led}
use Rattle.entry_codec.proofs.Entries.{IsTaken, leads_deposit}
use Rattle.entry_codec.specs.declared.places.Place.{Place}
use Rattle.entry_codec.specs.declared.places.DepositPlaces.{DepositPlaces}
use Rattle.entry_codec.specs.Spelling.{number, counted, group_spelling, entry_spelling}
use Rattle.entry_codec.specs.Places.{document_places, group_places, LieAt}
use Rattle.entry_codec.specs.Inside.{read_at, bytes_at, grouped, IsWithin, groups_at, FitIn}

-- what stands behind so many bytes
there : (payload x d y : List ℕ) (at : ℕ) → payload ≡ x ++ (d ++ y) → length x ≡ at → take (length d) (drop at payload) ≡ d
there payload x d y at is long =
    ap (λ (l : List ℕ). take (length d) (drop at l)) is ∙ ap (take (length d)) (drop_at x (d ++ y) at long) ∙ take_at d y (length d) refl

pub all_of_both : (P : Place → Type 0) (xs ys : List Place) → AllByRecursion P xs → AllByRecursion P ys → AllByRecursion P (xs ++ ys)
all_of_both P [] ys one other = other
all_of_both P (x ∷ xs) ys one other = (one.0, all_of_both P xs ys one.1 other)

pub map_both : {A B : Type 0} (f : A → B) (xs ys : List A) → map f (xs ++ ys) ≡ map f xs ++ map f ys
map_both f [] ys = refl
map_both f (x ∷ xs) ys = ap (λ l. f x ∷ l) (map_both f xs ys)

-- documents that stand behind x: they are there, within the payload, and have as many places
record Stand (payload : List ℕ) (places : List Place) (documents : List (List ℕ)) : Type 0 where
  are : map (bytes_at payload) places ≡ documents
  within : AllByRecursion (IsWithin (length payload)) places
  number : length places ≡ length documents

documents_stand : (ds : List (List ℕ)) (payload x y : List ℕ) (at : ℕ) → payload ≡ x ++ (flat_map counted ds ++ y) → length x ≡ at
    → Stand payload (document_places at ds) ds
documents_stand [] payload x y at is long = record { are = refl; within = tt; number = refl }
documents_stand (d ∷ ds) payload x y at is long =
    let n : List ℕ = number (length d) in
    let more : List ℕ = flat_map counted ds ++ y in
    let one : payload ≡ (x ++ n) ++ (d ++ more) =
    is ∙ ap (λ (l : List ℕ). x ++ l) (append_assoc (n ++ d) (flat_map counted ds) y ∙ append_assoc n d more) ∙ sym (append_assoc x n (d ++ more)) in
    let two : payload ≡ (x ++ n ++ d) ++ more = one ∙ sym (append_assoc (x ++ n) d more) in
    let four : length (x ++ n) ≡ at + 4 = omega (arith, length-append x n, long) in
    let next : length (x ++ n ++ d) ≡ at + 4 + length d = omega (arith, length-append (x ++ n) d, four) in
    let later = documents_stand ds payload (x ++ n ++ d) y (at + 4 + length d) two next in
    let whole : length payload ≡ length (x ++ n ++ d) + length more = ap (λ (l : List ℕ). length l) two ∙ length-append (x ++ n ++ d) more in
    record {
      are = ap (λ (l : List ℕ). l ∷ map (bytes_at payload) (document_places (at + 4 + length d) ds)) (there payload (x ++ n) d more (at + 4) one four)
          ∙ ap (λ (l : List (List ℕ)). d ∷ l) later.are;
      within = (omega (arith, whole, next), later.within);
      number = ap (λ (k : ℕ). suc k) later.number;
    }

-- the first group, and those behind it
pub one_group : (n : ℕ) (counts : List ℕ) (f : Place → List ℕ) (a b : List Place) (g : List (List ℕ)) → map f a ≡ g → n ≡ length g
    → grouped (n ∷ counts) (map f (a ++ b)) ≡ g ∷ grouped counts (map f b)
one_group n counts f a b g is long =
    let joined : map f (a ++ b) ≡ g ++ map f b = map_both f a b ∙ ap (λ (l : List (List ℕ)). l ++ map f b) is in
    ap (λ (l : List (List ℕ)). take n l ∷ grouped counts (drop n l)) joined
    ∙ ap (λ (l : List (List ℕ)). l ∷ grouped counts (drop n (g ++ map f b))) (take_at g (map f b) n (sym long))
    ∙ ap (λ (l : List (List ℕ)). g ∷ grouped counts l) (drop_at g (map f b) n (sym long))

-- groups that stand behind x
record GroupsStand (payload : List ℕ) (places : List Place) (groups : List (List (List ℕ))) : Type 0 where
  are : grouped (map length groups) (map (bytes_at payload) places) ≡ groups
  within : AllByRecursion (IsWithin (length payload)) places
  enough : sum (map length groups) ≡ length places

groups_stand : (gs : List (List (List ℕ))) (payload x y : List ℕ) (at : ℕ) → payload ≡ x ++ (flat_map group_spelling gs ++ y) → length x ≡ at
    → GroupsStand payload (group_places at gs) gs
groups_stand [] payload x y at is long = record { are = refl; within = tt; enough = refl }
groups_stand (g ∷ gs) payload x y at is long =
    let n : List ℕ = number (length g) in
    let ds : List ℕ = flat_map counted g in
    let more : List ℕ = flat_map group_spelling gs ++ y in
    let one : payload ≡ (x ++ n) ++ (ds ++ more) =
    is ∙ ap (λ (l : List ℕ). x ++ l) (append_assoc (n ++ ds) (flat_map group_spelling gs) y ∙ append_assoc n ds more) ∙ sym (append_assoc x n (ds ++ more)) in
    let two : payload ≡ (x ++ (n ++ ds)) ++ more = one ∙ sym (append_assoc (x ++ n) ds more) ∙ ap (λ (l : List ℕ). l ++ more) (append_assoc x n ds) in
    let four : length (x ++ n) ≡ at + 4 = omega (arith, length-append x n, long) in
    let next : length (x ++ (n ++ ds)) ≡ at + length (group_spelling g) = omega (arith, length-append x (n ++ ds), long) in
    let here = documents_stand g payload (x ++ n) more (at + 4) one four in
    let later = groups_stand gs payload (x ++ (n ++ ds)) y (at + length (group_spelling g)) two next in
    let a : List Place = document_places (at + 4) g in
    let b : List Place = group_places (at + length (group_spelling g)) gs in
    record {
      are = one_group (length g) (map length gs) (bytes_at payload) a b g here.are refl ∙ ap (λ (l : List (List (List ℕ))). g ∷ l) later.are;
      within = all_of_both (IsWithin (length payload)) a b here.within later.within;
      enough = omega (arith, sum_by-cons (λ (k : ℕ). k) (length g) (map length gs), length-append a b, here.number, later.enough);
    }

-- a deposit's documents lie where its places say, whatever stands behind it
pub lie_in : (groups : List (List (List ℕ))) (p : DepositPlaces) (payload rest : List ℕ) → AllByRecursion IsGroup groups → payload ≡ entry_spelling (Deposit groups) ++ rest
    → LieAt groups p → (groups_at payload p.counts p.places ≡ groups) × FitIn payload p.counts p.places
lie_in groups p payload rest each is lie =
    let head : List ℕ = 1 ∷ number (length groups) in
    let stand = groups_stand groups payload head rest 5 (is ∙ append_assoc head (flat_map group_spelling groups) rest) (omega arith) in
    let same : groups_at payload p.counts p.places ≡ groups = rw (lie.counts, lie.places) stand.are in (
      same,
      record {
        enough = rw (lie.counts, lie.places) (omega (arith, stand.enough));
        within = rw lie.places stand.within;
        groups = subst (λ (l : List (List (List ℕ))). AllByRecursion IsGroup l) (sym same) each;
      },
    )

pub not_refused : (ds : List (List ℕ)) (f : GroupFault) → IsGroup ds → fault_of ds ≡ Some f → ⊥
not_refused ds f is e = absurd (let none = group_is_none ds is in cc)

-- a deposit that was read behind its kind
pub deposit_lies : (bytes : List ℕ) (before after : Unread) (groups : List (List (List ℕ))) (p : DepositPlaces) → bytes ≡ 1 ∷ before.bytes
    → read_at deposit_form before ≡ Ok (Deposit groups, after) → LieAt groups p → (groups_at bytes p.counts p.places ≡ groups) × FitIn bytes p.counts p.places
deposit_lies bytes before after groups p is read lie =
    let t = taken deposit_form before.place before.bytes (Deposit groups) after read in
    let spelled = led deposit_form (IsTaken 1) t.front (Deposit groups) leads_deposit t.accepts in
    lie_in groups p bytes after.bytes spelled.entry.each
    (is ∙ ap (λ (l : List ℕ). 1 ∷ l) t.is ∙ ap (λ (l : List ℕ). l ++ after.bytes) spelled.taken_is) lie
