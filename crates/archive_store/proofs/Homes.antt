-- Where a group is found: what stands at its places is told as its documents.
use Rattle.std.proofs.Common.{◌≡◌, ⊎_elim, ℕ, zero, suc, ◌+◌, ◌-◌, ◌<◌, ◌≤◌, Bool, true, false, IsTrue, List, [], ◌∷◌, ◌++◌, map, length, take, drop, replicate, Option, Some, refl, sym, ap, ◌∙◌, subst, arith, append_assoc, append-nil}
use Rattle.std.specs.Prelude.{sum, nat_lt, slice_get, slice_index}
use Rattle.std.specs.List.{AllByRecursion, flat_map}
use Rattle.std.proofs.lemmas.List.{length-append, drop-drop, take-map, drop-map}
use Rattle.std.proofs.lemmas.Option.{slice_get_within}
use Rattle.std.proofs.lemmas.List.Sums.{sum_by-cons}
use Rattle.std.proofs.lemmas.Bool.{cases_Bool, ltb-true, ltb-false}
use Rattle.object_groups.specs.Groups.{IsGroup}
use Rattle.entry_codec.specs.declared.entry.Entry.{Entry}
use Rattle.entry_codec.specs.declared.places.Place.{Place}
use Rattle.entry_codec.specs.declared.places.DepositPlaces.{DepositPlaces}
use Rattle.entry_codec.specs.Places.{bytes_at, grouped}
use Rattle.entry_codec.specs.Inside.{IsWithin}
use Rattle.archive_chain.specs.Kept.{groups_of}
use Rattle.archive_chain.specs.History.{groups_in}
use Rattle.archive_chain.specs.Held.{Held}
use Rattle.archive_store.specs.declared.row.Stored.{Stored}
use Rattle.archive_store.specs.declared.row.Stored.TheVariants.{OnDisk, Whole}
use Rattle.archive_store.specs.declared.row.Row.{Row}
use Rattle.archive_store.specs.declared.row.Home.{Home}
use Rattle.archive_store.specs.Told.{blank_document, blank_group, group_told}
use Rattle.archive_store.specs.Rows.{document_at, entry_at, first_payload}
use Rattle.archive_store.specs.InsideRows.{entries_at, group_count, homes_of, homes_from, places_in, places_of, places_at, HasPlaces, HasHome, IsReadable, CanBeRead, AreReadable, AreRows}
use Rattle.archive_store.proofs.Blank.{unblank}
use Rattle.archive_store.proofs.Groups.{groups_are}

-- ---- groups that were cut out of a list

length-grouped : (counts : List ℕ) (xs : List (List ℕ)) → length (grouped counts xs) ≡ length counts
length-grouped [] xs = refl
length-grouped (n ∷ counts) xs = ap suc (length-grouped counts (drop n xs))

grouped_get : (counts : List ℕ) (xs : List (List ℕ)) (n : ℕ) → n < length counts → slice_get (grouped counts xs) n ≡ Some (take (slice_index counts n) (drop (sum (take n counts)) xs))
grouped_get [] xs n lt = absurd (omega (arith, lt))
grouped_get (m ∷ counts) xs zero lt = refl
grouped_get (m ∷ counts) xs (suc n) lt =
    let first : ℕ = sum (take n counts) in
    let all : m + first ≡ sum (m ∷ take n counts) = sym (sum_by-cons (λ (k : ℕ). k) m (take n counts)) in
    grouped_get counts (drop m xs) n (omega (arith, lt))
    ∙ ap (λ (l : List (List ℕ)). Some (take (slice_index counts n) l)) (drop-drop first m xs ∙ ap (λ (k : ℕ). drop k xs) all)

sum_part : (counts : List ℕ) (n : ℕ) → n < length counts → sum (take n counts) + slice_index counts n ≤ sum counts
sum_part [] n lt = absurd (omega (arith, lt))
sum_part (m ∷ counts) zero lt = omega (arith, sum_by-cons (λ (k : ℕ). k) m counts)
sum_part (m ∷ counts) (suc n) lt =
    omega (arith, sum_part counts n (omega (arith, lt)), sum_by-cons (λ (k : ℕ). k) m counts, sum_by-cons (λ (k : ℕ). k) m (take n counts))

-- ---- parts of a list

pub all_take : {A : Type 0} (P : A → Type 0) (n : ℕ) (xs : List A) → AllByRecursion P xs → AllByRecursion P (take n xs)
all_take P zero xs all = tt
all_take P (suc n) [] all = tt
all_take P (suc n) (x ∷ xs) all = (all.0, all_take P n xs all.1)

all_drop : {A : Type 0} (P : A → Type 0) (n : ℕ) (xs : List A) → AllByRecursion P xs → AllByRecursion P (drop n xs)
all_drop P zero xs all = all
all_drop P (suc n) [] all = tt
all_drop P (suc n) (x ∷ xs) all = all_drop P n xs all.1

all_at : {A : Type 0} (P : A → Type 0) (xs : List A) (n : ℕ) (x : A) → AllByRecursion P xs → slice_get xs n ≡ Some x → P x
all_at P [] n x all is = absurd (cc is)
all_at P (y ∷ xs) zero x all is = subst P (let same : y ≡ x = cc is in same) all.0
all_at P (y ∷ xs) (suc n) x all is = all_at P xs n x all.1 is

get_left : {A : Type 0} (xs ys : List A) (i : ℕ) → i < length xs → slice_get (xs ++ ys) i ≡ slice_get xs i
get_left [] ys i lt = absurd (omega (arith, lt))
get_left (x ∷ xs) ys zero lt = refl
get_left (x ∷ xs) ys (suc i) lt = get_left xs ys i (omega (arith, lt))

get_right : {A : Type 0} (xs ys : List A) (j i : ℕ) → j ≡ length xs + i → slice_get (xs ++ ys) j ≡ slice_get ys i
get_right [] ys j i is = ap (slice_get ys) (omega (arith, is))
get_right (x ∷ xs) ys zero i is = absurd (omega (arith, is))
get_right (x ∷ xs) ys (suc j) i is = get_right xs ys j i (omega (arith, is))

drop_one : {A : Type 0} (i : ℕ) (xs : List A) → drop i (drop 1 xs) ≡ drop (suc i) xs
drop_one zero xs = refl
drop_one (suc i) [] = refl
drop_one (suc i) (x ∷ xs) = refl

-- ---- homes

length-homes_of : (entry n : ℕ) → length (homes_of entry n) ≡ n
length-homes_of entry zero = refl
length-homes_of entry (suc n) = omega (arith, length-homes_of entry n, length-append (homes_of entry n) (record { entry = entry; number = n } ∷ []))

homes_of_get : (entry n i : ℕ) → i < n → slice_get (homes_of entry n) i ≡ Some (record { entry = entry; number = i })
homes_of_get entry zero i lt = absurd (omega (arith, lt))
homes_of_get entry (suc n) i lt =
    let last : List Home = record { entry = entry; number = n } ∷ [] in
    ⊎_elim (λ (t : nat_lt i n ≡ true). get_left (homes_of entry n) last i (omega (arith, ltb-true i n t, length-homes_of entry n)) ∙ homes_of_get entry n i (ltb-true i n t))
    (λ (t : nat_lt i n ≡ false).
    let same : n ≡ i = (let le : n ≤ i = ltb-false i n t in omega (arith, le, lt)) in
    get_right (homes_of entry n) last i 0 (omega (arith, same, length-homes_of entry n)) ∙ ap (λ (k : ℕ). Some (record { entry = entry; number = k })) same)
    (cases_Bool (nat_lt i n))

-- a row more
pub homes_then : (rows : List Row) (r : Row) (base : ℕ) → homes_from base (rows ++ r ∷ []) ≡ homes_from base rows ++ homes_of (base + length rows) (group_count r.entry)
homes_then [] r base = append-nil (homes_of base (group_count r.entry)) ∙ ap (λ (n : ℕ). homes_of n (group_count r.entry)) (omega arith)
homes_then (s ∷ rows) r base =
    let here : List Home = homes_of base (group_count s.entry) in
    let same : base + 1 + length rows ≡ base + length (s ∷ rows) = omega arith in
    ap (λ (l : List Home). here ++ l) (homes_then rows r (base + 1) ∙ ap (λ (n : ℕ). homes_from (base + 1) rows ++ homes_of n (group_count r.entry)) same)
    ∙ sym (append_assoc here (homes_from (base + 1) rows) (homes_of (base + length (s ∷ rows)) (group_count r.entry)))

-- the groups of an entry are as many as its homes
length-groups : (tells : Bool) (payload : List ℕ) (size : ℕ) (s : Stored) → CanBeRead size s → length (groups_in (entry_at tells payload s)) ≡ group_count s
length-groups tells payload size (OnDisk deposit) can = length-grouped deposit.counts (map (document_at tells payload) deposit.places)
length-groups tells payload size (Whole e) can = ap length can

pub length-homes : (tells : Bool) (lengths : List ℕ) (rows : List Row) (payloads : List (List ℕ)) (base : ℕ) → AreReadable lengths rows
    → length (homes_from base rows) ≡ length (flat_map groups_in (entries_at tells rows payloads))
length-homes tells [] [] payloads base are = refl
length-homes tells (n ∷ lengths) [] payloads base are = refl
length-homes tells [] (r ∷ rows) payloads base are = absurd are
length-homes tells (n ∷ lengths) (r ∷ rows) payloads base are =
    let first : Entry = entry_at tells (first_payload payloads) r.entry in
    omega (
      arith,
      length-append (homes_of base (group_count r.entry)) (homes_from (base + 1) rows),
      length-homes_of base (group_count r.entry),
      length-groups tells (first_payload payloads) n r.entry are.0,
      length-append (groups_in first) (flat_map groups_in (entries_at tells rows (drop 1 payloads))),
      length-homes tells lengths rows (drop 1 payloads) (base + 1) are.1,
    )

-- a group, by its home: the row of its deposit, and the group there
pub record IsFound (tells : Bool) (lengths : List ℕ) (rows : List Row) (payloads : List (List ℕ)) (base id : ℕ) : Type 0 where
  pub home : Home
  pub is : slice_get (homes_from base rows) id ≡ Some home
  pub index : ℕ
  pub entry_is : home.entry ≡ base + index
  pub row : Row
  pub row_is : slice_get rows index ≡ Some row
  pub size : ℕ
  pub size_is : slice_get lengths index ≡ Some size
  pub can_read : CanBeRead size row.entry
  pub number : home.number < group_count row.entry
  pub group : slice_get (flat_map groups_in (entries_at tells rows payloads)) id ≡ slice_get (groups_in (entry_at tells (first_payload (drop index payloads)) row.entry)) home.number

pub found : (tells : Bool) (lengths : List ℕ) (rows : List Row) (payloads : List (List ℕ)) (base id : ℕ) → AreReadable lengths rows → id < length (homes_from base rows)
    → IsFound tells lengths rows payloads base id
found tells [] [] payloads base id are lt = absurd (omega (arith, lt))
found tells (n ∷ lengths) [] payloads base id are lt = absurd (omega (arith, lt))
found tells [] (r ∷ rows) payloads base id are lt = absurd are
found tells (n ∷ lengths) (r ∷ rows) payloads base id are lt =
    let count : ℕ = group_count r.entry in
    let here : List Home = homes_of base count in
    let later : List Home = homes_from (base + 1) rows in
    let groups : List (List (List ℕ)) = groups_in (entry_at tells (first_payload payloads) r.entry) in
    let others : List (List (List ℕ)) = flat_map groups_in (entries_at tells rows (drop 1 payloads)) in
    let many = length-homes_of base count in
    let long = length-groups tells (first_payload payloads) n r.entry are.0 in
    let in_first : id < count → IsFound tells (n ∷ lengths) (r ∷ rows) payloads base id = λ below. record {
      home = record { entry = base; number = id };
      is = get_left here later id (omega (arith, below, many)) ∙ homes_of_get base count id below;
      index = 0;
      entry_is = omega arith;
      row = r;
      row_is = refl;
      size = n;
      size_is = refl;
      can_read = are.0;
      number = below;
      group = get_left groups others id (omega (arith, below, long));
    } in
    let behind : count ≤ id → IsFound tells (n ∷ lengths) (r ∷ rows) payloads base id = λ above.
    let next : ℕ = id - count in
    let same : id ≡ count + next = omega (arith, above) in
    let rest = found tells lengths rows (drop 1 payloads) (base + 1) next are.1 (omega (arith, lt, same, many, length-append here later)) in
    record {
      home = rest.home;
      is = get_right here later id next (omega (arith, same, many)) ∙ rest.is;
      index = suc rest.index;
      entry_is = omega (arith, rest.entry_is);
      row = rest.row;
      row_is = rest.row_is;
      size = rest.size;
      size_is = rest.size_is;
      can_read = rest.can_read;
      number = rest.number;
      group = get_right groups others id next (omega (arith, same, long)) ∙ rest.group
          ∙ ap (λ (l : List (List ℕ)). slice_get (groups_in (entry_at tells (first_payload l) rest.row.entry)) rest.home.number) (drop_one rest.index payloads);
    } in
    ⊎_elim (λ (t : nat_lt id count ≡ true). in_first (ltb-true id count t)) (λ (t : nat_lt id count ≡ false). behind (ltb-false id count t)) (cases_Bool (nat_lt id count))

-- ---- documents that were read

-- as many zeros as stand at a place
abbrev blank_at : Place → List ℕ
blank_at p = replicate p.size 0

blank_same : (g : List (List ℕ)) (places : List Place) → map length g ≡ map (λ (p : Place). p.size) places → map blank_at places ≡ blank_group g
blank_same [] [] same = refl
blank_same [] (p ∷ places) same = absurd (cc same)
blank_same (d ∷ g) [] same = absurd (cc same)
blank_same (d ∷ g) (p ∷ places) same =
    let first : length d ≡ p.size = cc same in
    let rest : map length g ≡ map (λ (p : Place). p.size) places = cc same in
    ap (λ (n : ℕ). replicate n 0 ∷ map blank_at places) (sym first) ∙ ap (λ (l : List (List ℕ)). blank_document d ∷ l) (blank_same g places rest)

-- the group that the places of a deposit give
grouped_at : (f : Place → List ℕ) (d : DepositPlaces) (n : ℕ) → n < length d.counts → slice_get (grouped d.counts (map f d.places)) n ≡ Some (map f (places_in (OnDisk d) n))
grouped_at f d n lt =
    let first : ℕ = sum (take n d.counts) in
    let count : ℕ = slice_index d.counts n in
    grouped_get d.counts (map f d.places) n lt
    ∙ ap (λ (l : List (List ℕ)). Some (take count l)) (drop-map f first d.places)
    ∙ ap (λ (l : List (List ℕ)). Some l) (take-map f count (drop first d.places))

pub is_group : (size : ℕ) (d : DepositPlaces) (n : ℕ) (g : List (List ℕ)) → IsReadable size d → n < length d.counts
    → map length g ≡ map (λ (p : Place). p.size) (places_in (OnDisk d) n) → IsGroup g
is_group size d n g can lt same =
    unblank g (subst IsGroup (blank_same g (places_in (OnDisk d) n) same) (all_at IsGroup (grouped d.counts (map blank_at d.places)) n _ can.groups (grouped_at blank_at d n lt)))

first_at : (payloads : List (List ℕ)) (n : ℕ) (p : List ℕ) → slice_get payloads n ≡ Some p → first_payload (drop n payloads) ≡ p
first_at [] n p is = absurd (cc is)
first_at (q ∷ payloads) zero p is = cc is
first_at (q ∷ payloads) (suc n) p is = first_at payloads n p is

there_is : {A B : Type 0} (xs : List A) (ys : List B) (n : ℕ) (x : A) → slice_get xs n ≡ Some x → length ys ≡ length xs → (y : B) × (slice_get ys n ≡ Some y)
there_is [] ys n x is same = absurd (cc is)
there_is (z ∷ xs) [] n x is same = absurd (omega (arith, same))
there_is (z ∷ xs) (y ∷ ys) zero x is same = (y, refl)
there_is (z ∷ xs) (y ∷ ys) (suc n) x is same = there_is xs ys n x is (omega (arith, same))

-- the places of a group that was found, and what it is told as
module _ (tells : Bool) (lengths : List ℕ) (rows : List Row) (payloads : List (List ℕ)) (id : ℕ) (f : IsFound tells lengths rows payloads 0 id) where
  index_is : f.home.entry ≡ f.index
  index_is = omega (arith, f.entry_is)

  pub row_there : slice_get rows f.home.entry ≡ Some f.row
  row_there = ap (slice_get rows) index_is ∙ f.row_is

  pub size_there : slice_get lengths f.home.entry ≡ Some f.size
  size_there = ap (slice_get lengths) index_is ∙ f.size_is

  pub places_there : places_at rows f.home ≡ places_in f.row.entry f.home.number
  places_there = ap (λ (o : Option Row). places_of o f.home.number) row_there

  pub has_places : HasPlaces f.row.entry f.home.number
  has_places = of_stored f.row.entry f.can_read f.number where
    of_stored : (s : Stored) → CanBeRead f.size s → f.home.number < group_count s → HasPlaces s f.home.number
    of_stored (OnDisk d) can lt = (lt, can.enough, can.few)
    of_stored (Whole e) can lt = tt

  pub within : AllByRecursion (IsWithin f.size) (places_at rows f.home)
  within = subst (AllByRecursion (IsWithin f.size)) (sym places_there) (of_stored f.row.entry f.can_read f.number) where
    of_stored : (s : Stored) → CanBeRead f.size s → f.home.number < group_count s → AllByRecursion (IsWithin f.size) (places_in s f.home.number)
    of_stored (OnDisk d) can lt = all_take (IsWithin f.size) _ _ (all_drop (IsWithin f.size) _ _ can.within)
    of_stored (Whole e) can lt = tt

  module _ (g : List (List ℕ)) (sizes : map length g ≡ map (λ (p : Place). p.size) (places_at rows f.home))
      (bytes : IsTrue tells → (payload : List ℕ) → slice_get payloads f.home.entry ≡ Some payload → g ≡ map (bytes_at payload) (places_at rows f.home)) where
    pub read_group : IsGroup g
    read_group = of_stored f.row.entry f.can_read f.number (sizes ∙ ap (map (λ (p : Place). p.size)) places_there) where
      of_stored : (s : Stored) → CanBeRead f.size s → f.home.number < group_count s → map length g ≡ map (λ (p : Place). p.size) (places_in s f.home.number) → IsGroup g
      of_stored (OnDisk d) can lt same = is_group f.size d f.home.number g can lt same
      of_stored (Whole e) can lt same = absurd (omega (arith, lt))

    -- the documents at the places, as they are told
    told_at : (payload : List ℕ) → (IsTrue tells → slice_get payloads f.home.entry ≡ Some payload) → map (document_at tells payload) (places_at rows f.home) ≡ group_told tells g
    told_at payload there = by_tells tells (λ known. sym (bytes known payload (there known))) where
      by_tells : (t : Bool) → (IsTrue t → map (bytes_at payload) (places_at rows f.home) ≡ g) → map (document_at t payload) (places_at rows f.home) ≡ group_told t g
      by_tells true same = same refl
      by_tells false same = blank_same g (places_at rows f.home) sizes

    pub read_is : (IsTrue tells → length payloads ≡ length lengths) → slice_get (flat_map groups_in (entries_at tells rows payloads)) id ≡ Some (group_told tells g)
    read_is many =
        let payload : List ℕ = first_payload (drop f.index payloads) in
        let there : IsTrue tells → slice_get payloads f.home.entry ≡ Some payload = λ known.
        let some = there_is lengths payloads f.index f.size f.size_is (many known) in
        ap (slice_get payloads) index_is ∙ some.1 ∙ ap (λ (p : List ℕ). Some p) (sym (first_at payloads f.index some.0 some.1)) in
        f.group ∙ of_stored payload f.row.entry f.can_read f.number ∙ ap (λ (l : List Place). Some (map (document_at tells payload) l)) (sym places_there)
        ∙ ap (λ (l : List (List ℕ)). Some l) (told_at payload there) where
          of_stored : (payload : List ℕ) (s : Stored) → CanBeRead f.size s → f.home.number < group_count s
              → slice_get (groups_in (entry_at tells payload s)) f.home.number ≡ Some (map (document_at tells payload) (places_in s f.home.number))
          of_stored payload (OnDisk d) can lt = grouped_at (document_at tells payload) d f.home.number lt
          of_stored payload (Whole e) can lt = absurd (omega (arith, lt))

-- ---- a group by its home

index_at : (xs : List ℕ) (n x : ℕ) → slice_get xs n ≡ Some x → slice_index xs n ≡ x
index_at [] n x is = absurd (cc is)
index_at (y ∷ xs) zero x is = cc is
index_at (y ∷ xs) (suc n) x is = index_at xs n x is

module _ (tells : Bool) (lengths : List ℕ) (rows : List Row) (payloads : List (List ℕ)) (id : ℕ) (home : Home) (are : AreReadable lengths rows)
    (is : slice_get (homes_from 0 rows) id ≡ Some home) where
  group_found : IsFound tells lengths rows payloads 0 id
  group_found = found tells lengths rows payloads 0 id are (slice_get_within (homes_from 0 rows) id home is)

  home_same : group_found.home ≡ home
  home_same = let both : Some group_found.home ≡ Some home = sym group_found.is ∙ is in cc both

  size_found : slice_get lengths home.entry ≡ Some group_found.size
  size_found = subst (λ (h : Home). slice_get lengths h.entry ≡ Some group_found.size) home_same (size_there tells lengths rows payloads id group_found)

  pub home_there : HasHome rows home
  home_there = subst (HasHome rows) home_same (record {
    row = group_found.row;
    there = row_there tells lengths rows payloads id group_found;
    places = has_places tells lengths rows payloads id group_found;
  })

  pub entry_there : home.entry < length lengths
  entry_there = slice_get_within lengths home.entry group_found.size size_found

  pub places_within : AllByRecursion (IsWithin (slice_index lengths home.entry)) (places_at rows home)
  places_within =
      subst (λ (n : ℕ). AllByRecursion (IsWithin n) (places_at rows home)) (sym (index_at lengths home.entry group_found.size size_found))
      (subst (λ (h : Home). AllByRecursion (IsWithin group_found.size) (places_at rows h)) home_same (within tells lengths rows payloads id group_found))

  module _ (g : List (List ℕ)) (sizes : map length g ≡ map (λ (p : Place). p.size) (places_at rows home))
      (bytes : IsTrue tells → (payload : List ℕ) → slice_get payloads home.entry ≡ Some payload → g ≡ map (bytes_at payload) (places_at rows home)) where
    sizes_at : map length g ≡ map (λ (p : Place). p.size) (places_at rows group_found.home)
    sizes_at = sizes ∙ ap (λ (h : Home). map (λ (p : Place). p.size) (places_at rows h)) (sym home_same)

    bytes_there : IsTrue tells → (payload : List ℕ) → slice_get payloads group_found.home.entry ≡ Some payload → g ≡ map (bytes_at payload) (places_at rows group_found.home)
    bytes_there known payload there =
        bytes known payload (ap (λ (h : Home). slice_get payloads h.entry) (sym home_same) ∙ there) ∙ ap (λ (h : Home). map (bytes_at payload) (places_at rows h)) (sym home_same)

    pub group_is : IsGroup g
    group_is = read_group tells lengths rows payloads id group_found g sizes_at bytes_there

    pub told_is : (IsTrue tells → length payloads ≡ length lengths) → slice_get (flat_map groups_in (entries_at tells rows payloads)) id ≡ Some (group_told tells g)
    told_is many = read_is tells lengths rows payloads id group_found g sizes_at bytes_there many

-- ---- how many there are

-- an archive has as many groups as its rows
pub groups_found : (tells : Bool) (lengths : List ℕ) (payloads : List (List ℕ)) (rows : List Row) (archive : Held) → AreRows tells lengths payloads rows archive
    → length (homes_from 0 rows) ≡ groups_of archive.kept
groups_found tells lengths payloads rows archive is =
    length-homes tells lengths rows payloads 0 is.readable ∙ sym (groups_are (entries_at tells rows payloads) is.but_imprint) ∙ ap groups_of (sym is.agrees.kept)
