-- A RenewTrees is one time-stamp and one row more, and rows that lead to it; a RenewStamps one time-stamp more, in some rows.
use Rattle.std.proofs.Common.{◌≡◌, ℕ, zero, suc, ◌+◌, ◌<◌, ◌≤◌, Bool, true, false, List, [], ◌∷◌, ◌++◌, length, map, Option, Some, None, refl, sym, ap, subst, ◌∙◌, arith}
use Rattle.std.specs.Prelude.{◌&&◌, nat_le, slice_get, if◌then◌else◌}
use Rattle.std.specs.List.{AllByRecursion}
use Rattle.std.proofs.lemmas.Bool.{leb-false}
use Rattle.std.proofs.lemmas.List.{length-append, length-map, map-append}
use Rattle.archive_chain.specs.Kept.{Cover, ids_in, is_in, has_name, place_of, cohort_of}
use Rattle.archive_chain.specs.Rules.{first_full}
use Rattle.archive_chain.specs.Steps.{cover_at, renewed_from, stamped_in}
use Rattle.archive_chain.specs.InsideRows.{Row as Chain, sealed_by, GoesOn, AreRows, row_of, next_after, taken, later_after, stamped}
use Rattle.archive_chain.proofs.RowsRenewing.{by_test, renewing}
use Rattle.archive_chain.proofs.RowsStamping.{stamping}
use Rattle.archive_chain.specs.declared.time_stamp.TimeStamp.{TimeStamp}
use Rattle.archive_chain.specs.declared.row.Row.{Row}
use Rattle.archive_chain.specs.declared.row.Later.{Later}
use Rattle.archive_chain.specs.declared.row.Longer.{Longer}
use Rattle.archive_chain.specs.InsideTable.{Stamps, stamp_at, alg_in, token_in, later_seen, ids_seen, plain_of, row_seen, rows_seen, sealed_in, change, leads_to, led, with_later, lengthened, RowsAscend, bones_of, IsKnown, IsShort, IsTreed, IsTable}
use Rattle.archive_chain.proofs.Walking.{sealed_length}
use Rattle.archive_chain.proofs.Treed.{treed_more, treed_new, treed_led, treed_lengthened, treed_added, ids_rise, ids_few}
use Rattle.archive_chain.specs.InsideIndex.{Bones, IsIndexed, taken_bones, renamed}
use Rattle.archive_chain.specs.InsidePeak.{IsPeak, IsTop}
use Rattle.archive_chain.proofs.Peaks.{peak_renewed}
use Rattle.archive_chain.proofs.Tops.{stamped_tops, renewed_tops, each_below}
use Rattle.archive_chain.proofs.Indexing.{trees_indexed}
use Rattle.archive_chain.proofs.Cohorts.{ids_same, cohorts_renewed, cohorts_stamped, bones_in, bones_seen, bones_taken, bones_stamped, bones_below, bones_within, indexed_more}
use Rattle.archive_chain.specs.Held.{Plain}
use Rattle.archive_chain.specs.InsidePieces.{bare, AreAt, IsAdded, AreAdded}
use Rattle.archive_chain.proofs.Growing.{all_append, all_weaker, stamp_comes, rows_stay, known_more, end_row, ascend_end, ascend_map, entries_below, map_above_below}
use Rattle.archive_chain.proofs.Changing.{length_change}
use Rattle.archive_chain.proofs.Named.{AreLonger, chains_at, added_chains}
use Rattle.archive_chain.proofs.Naming.{led_chains, led_seen, led_is, lengthened_chains, lengthened_seen, lengthened_is, longer_seen}

pub bare_plain : (rows : List Row) → map bare (map plain_of rows) ≡ map bones_of rows
bare_plain [] = refl
bare_plain (r ∷ rows) = ap (λ (l : List Bones). bones_of r ∷ l) (bare_plain rows)

-- ---- what a change keeps

pub all_changed : {A : Type 0} (P : A → Type 0) (f : A → A) (p : ℕ) (xs : List A) → ((x : A) → P x → P (f x)) → AllByRecursion P xs → AllByRecursion P (change f p xs)
all_changed P f p [] keeps h = tt
all_changed P f zero (x ∷ xs) keeps h = (keeps x h.0, h.1)
all_changed P f (suc p) (x ∷ xs) keeps h = (h.0, all_changed P f p xs keeps h.1)

led_known : (m n : ℕ) (places : List ℕ) (rows : List Row) → AllByRecursion (IsKnown m) rows → AllByRecursion (IsKnown m) (led n places rows)
led_known m n [] rows h = h
led_known m n (p ∷ places) rows h = all_changed (IsKnown m) (leads_to n) p (led n places rows) (λ r k. record { stamp = k.stamp; later = k.later }) (led_known m n places rows h)

pub led_length : (n : ℕ) (places : List ℕ) (rows : List Row) → length (led n places rows) ≡ length rows
led_length n [] rows = refl
led_length n (p ∷ places) rows = length_change (leads_to n) p (led n places rows) ∙ led_length n places rows

pub lengthened_length : (longer : List Longer) (rows : List Row) → length (lengthened longer rows) ≡ length rows
lengthened_length [] rows = refl
lengthened_length (l ∷ longer) rows = length_change (with_later l) l.row (lengthened longer rows) ∙ lengthened_length longer rows

taken_rows : (cohorts : List ℕ) (n at : ℕ) (rows : List Chain) → n ≡ at + length rows → AreRows at n rows → AreRows at (n + 1) (map (taken cohorts n) rows)
taken_rows cohorts n at [] e good = tt
taken_rows cohorts n at (r ∷ rows) e good =
    (record { goes_on = on r.next good.0.goes_on; later = good.0.later }, taken_rows cohorts n (at + 1) rows (omega (arith, e)) good.1) where
      less : at < n
      less = omega (arith, e)

      on : (o : Option ℕ) → GoesOn at n o → GoesOn at (n + 1) (next_after cohorts n r.entry o)
      on (Some m) h = (h.0, omega (arith, h.1))
      on None h =
          by_test (has_name cohorts r.entry)
          (λ e. subst (λ (b : Bool). GoesOn at (n + 1) (if b then Some n else None)) (sym e) (less, omega arith))
          (λ e. subst (λ (b : Bool). GoesOn at (n + 1) (if b then Some n else None)) (sym e) tt)

stamped_rows : (cover : ℕ → Cover) (all_later : (p : ℕ) → (cover p).begins ≡ false) (cohorts : List ℕ) (n at : ℕ) (rows : List Chain) → AreRows at n rows → AreRows at n (map (stamped cover cohorts) rows)
stamped_rows cover all_later cohorts n at [] good = tt
stamped_rows cover all_later cohorts n at (r ∷ rows) good =
    (record { goes_on = good.0.goes_on; later = on r.next }, stamped_rows cover all_later cohorts n (at + 1) rows good.1) where
      P : Cover → Type 0
      P c = c.begins ≡ false

      on : (o : Option ℕ) → AllByRecursion (λ (c : Cover). c.begins ≡ false) (later_after cover cohorts r.entry r.later o)
      on (Some m) = good.0.later
      on None =
          by_test (has_name cohorts r.entry)
          (λ e. subst (λ (b : Bool). AllByRecursion (λ (c : Cover). c.begins ≡ false) (if b then r.later ++ cover (place_of cohorts r.entry) ∷ [] else r.later)) (sym e)
          (all_append (λ (c : Cover). c.begins ≡ false) r.later (cover (place_of cohorts r.entry) ∷ []) good.0.later (all_later (place_of cohorts r.entry), tt)))
          (λ e. subst (λ (b : Bool). AllByRecursion (λ (c : Cover). c.begins ≡ false) (if b then r.later ++ cover (place_of cohorts r.entry) ∷ [] else r.later)) (sym e) good.0.later)

-- ---- at most 200 time-stamps

abbrev pub Short : List Cover → Type 0
Short covers = length covers ≤ 200

not_none : (x : ℕ) → ◌≡◌ {A = Option ℕ} (Some x) None → ⊥
not_none x e = cc

-- a group of these cohorts has room for one more
room_for : (cohorts : List ℕ) (id : ℕ) (g : List Cover) (groups : List (List Cover)) → first_full cohorts id (g ∷ groups) ≡ None
    → (is_in cohorts g ≡ true → length g < 200) × (first_full cohorts (id + 1) groups ≡ None)
room_for cohorts id g groups e =
    by_test (is_in cohorts g && nat_le 200 (length g))
    (λ t. absurd (not_none id (sym (ap (λ (b : Bool). if b then Some id else first_full cohorts (id + 1) groups) t) ∙ e)))
    (λ f. (
      λ in_.
          by_test (nat_le 200 (length g))
          (λ big. let both : (is_in cohorts g && nat_le 200 (length g)) ≡ true = (λ i. in_ i && big i) in let no = sym both ∙ f in absurd (cc))
          (λ small. leb-false 200 (length g) small),
      sym (ap (λ (b : Bool). if b then Some id else first_full cohorts (id + 1) groups) f) ∙ e,
    ))

longer_by_one : (g : List Cover) (c : Cover) → length g < 200 → length (g ++ c ∷ []) ≤ 200
longer_by_one g c h = let e = length-append g (c ∷ []) in omega (arith, h, e)

short_renewed : (cover : ℕ → Cover) (cohorts : List ℕ) (place id : ℕ) (groups : List (List Cover)) → AllByRecursion Short groups → first_full cohorts id groups ≡ None → AllByRecursion Short (renewed_from cover cohorts place groups)
short_renewed cover cohorts place id [] short full = tt
short_renewed cover cohorts place id (g ∷ groups) short full =
    let room = room_for cohorts id g groups full in
    by_test (is_in cohorts g)
    (λ e. subst (λ (b : Bool). AllByRecursion Short (if b then (g ++ cover place ∷ []) ∷ renewed_from cover cohorts (place + 1) groups else g ∷ renewed_from cover cohorts place groups)) (sym e)
    (longer_by_one g (cover place) (room.0 e), short_renewed cover cohorts (place + 1) (id + 1) groups short.1 room.1))
    (λ e. subst (λ (b : Bool). AllByRecursion Short (if b then (g ++ cover place ∷ []) ∷ renewed_from cover cohorts (place + 1) groups else g ∷ renewed_from cover cohorts place groups)) (sym e)
    (short.0, short_renewed cover cohorts place (id + 1) groups short.1 room.1))

short_stamped : (cover : ℕ → Cover) (cohorts : List ℕ) (id : ℕ) (groups : List (List Cover)) → AllByRecursion Short groups → first_full cohorts id groups ≡ None → AllByRecursion Short (map (stamped_in cover cohorts) groups)
short_stamped cover cohorts id [] short full = tt
short_stamped cover cohorts id (g ∷ groups) short full =
    let room = room_for cohorts id g groups full in
    let rest = short_stamped cover cohorts (id + 1) groups short.1 room.1 in
    by_test (is_in cohorts g)
    (λ e. subst (λ (b : Bool). AllByRecursion Short ((if b then g ++ cover (place_of cohorts (cohort_of g)) ∷ [] else g) ∷ map (stamped_in cover cohorts) groups)) (sym e) (longer_by_one g (cover (place_of cohorts (cohort_of g))) (room.0 e), rest))
    (λ e. subst (λ (b : Bool). AllByRecursion Short ((if b then g ++ cover (place_of cohorts (cohort_of g)) ∷ [] else g) ∷ map (stamped_in cover cohorts) groups)) (sym e) (short.0, rest))

-- ---- new trees

module _ (stamps : Stamps) (rows : List Row) (firsts : List ℕ) (pending : ℕ) (old : IsTable stamps rows firsts pending)
    (t : TimeStamp) (row : Row) (places cohorts : List ℕ) (entry : row.stamp ≡ length stamps) (alone : row.later.items ≡ []) (open_ : row.next ≡ None)
    (members : ids_seen row.members ≡ ids_in cohorts 0 (sealed_in stamps rows firsts)) (named : AreAt (map plain_of rows) places cohorts)
    (full : first_full cohorts 0 (sealed_in stamps rows firsts) ≡ None)
    (alg_is : t.tree.alg ≡ t.alg) (leaves_are : length t.tree.leaves ≡ length (ids_in cohorts 0 (sealed_in stamps rows firsts)))
    (token_short : length t.token ≤ 65536) (most : ℕ) (most_is : row.most ≡ most + 1) (peak : IsPeak (λ c. has_name cohorts c ≡ true) (sealed_in stamps rows firsts) most row.least) where
  abbrev more : Stamps
  more = stamps ++ Some t ∷ []

  abbrev seen : List Chain
  seen = rows_seen stamps rows

  abbrev after : List Row
  after = led (length rows) places rows ++ row ∷ []

  abbrev new : Chain
  new = row_of (length stamps) t.alg t.token (ids_in cohorts 0 (sealed_in stamps rows firsts)) row.most row.least

  row_is : row_seen more row ≡ new
  row_is =
      let at : stamp_at more row.stamp ≡ Some t = ap (stamp_at more) entry ∙ stamp_comes stamps (Some t) in
      let later : map (later_seen more) row.later.items ≡ [] = ap (map (later_seen more)) alone in
      (λ i. record { entry = entry i; alg = alg_in (at i); token = token_in (at i); members = members i; later = later i; next = open_ i; most = row.most; least = row.least })

  count_rows : length seen ≡ length rows
  count_rows = length-map rows (row_seen stamps)

  led_after : rows_seen more (led (length rows) places rows) ≡ map (taken cohorts (length rows)) seen
  led_after =
      led_seen more (length rows) places rows ∙ ap (led_chains (length rows) places) (rows_stay stamps (Some t) rows old.known)
      ∙ led_is (length rows) places cohorts seen old.ascend (chains_at stamps rows places cohorts named)

  table_is : rows_seen more after ≡ map (taken cohorts (length rows)) seen ++ new ∷ []
  table_is = map-append (row_seen more) (led (length rows) places rows) (row ∷ []) ∙ (λ i. led_after i ++ row_is i ∷ [])

  good_seen : AreRows 0 (length seen) seen
  good_seen = subst (λ (n : ℕ). AreRows 0 n seen) (sym count_rows) old.are_rows

  starts_seen : AllByRecursion (λ first. first < length seen) firsts
  starts_seen = subst (λ (n : ℕ). AllByRecursion (λ first. first < n) firsts) (sym count_rows) old.starts

  abbrev renewed : List (List Cover)
  renewed = renewed_from (cover_at (length stamps) true t.alg t.token) cohorts 0 (sealed_in stamps rows firsts)

  pub trees_sealed : sealed_in more after firsts ≡ renewed_from (cover_at (length stamps) true t.alg t.token) cohorts 0 (sealed_in stamps rows firsts)
  trees_sealed =
      ap (λ (table : List Chain). sealed_by table 0 firsts) table_is
      ∙ ap (λ (n : ℕ). sealed_by (map (taken cohorts n) seen ++ new ∷ []) 0 firsts) (sym count_rows)
      ∙ renewing seen firsts cohorts (length stamps) t.alg t.token row.most row.least good_seen starts_seen

  pub trees_table : IsTable more after firsts pending
  trees_table =
      let longer : length after ≡ length rows + 1 =
      length-append (led (length rows) places rows) (row ∷ []) ∙ ap (λ (n : ℕ). n + 1) (led_length (length rows) places rows) in
      let further : length more ≡ length stamps + 1 = length-append stamps (Some t ∷ []) in
      let no_more = old.no_more in
      let is : AreRows 0 (length rows + 1) (map (taken cohorts (length rows)) seen ++ new ∷ []) =
      end_row (map (taken cohorts (length rows)) seen) new 0 (length rows + 1) refl refl (taken_rows cohorts (length rows) 0 seen (omega (arith, count_rows)) old.are_rows) in
      let low : AllByRecursion (λ (r : Chain). r.entry < length stamps) (map (taken cohorts (length rows)) seen) =
      map_above_below (taken cohorts (length rows)) (length stamps) seen (λ r. refl) (entries_below stamps (length stamps) rows old.known) in record {
        few = old.few;
        are_rows = subst (λ (n : ℕ). AreRows 0 n (rows_seen more after)) (sym longer) (subst (AreRows 0 (length rows + 1)) (sym table_is) is);
        starts = subst (λ (n : ℕ). AllByRecursion (λ first. first < n) firsts) (sym longer)
            (all_weaker (λ first. first < length rows) (λ first. first < length rows + 1) firsts (λ x h. omega (arith, h)) old.starts);
        short = subst (AllByRecursion (λ (covers : List Cover). length covers ≤ 200)) (sym trees_sealed)
            (short_renewed (cover_at (length stamps) true t.alg t.token) cohorts 0 0 (sealed_in stamps rows firsts) old.short full);
        known = subst (λ (n : ℕ). AllByRecursion (IsKnown n) after) (sym further)
            (all_append (IsKnown (length stamps + 1)) (led (length rows) places rows) (row ∷ [])
            (led_known (length stamps + 1) (length rows) places rows
            (all_weaker (IsKnown (length stamps)) (IsKnown (length stamps + 1)) rows (λ r h. known_more (length stamps) (length stamps + 1) r (omega arith) h) old.known))
            (record { stamp = omega (arith, entry); later = subst (AllByRecursion (λ (l : Later). l.stamp < length stamps + 1)) (sym alone) tt }, tt));
        no_more = omega (arith, longer, further, no_more);
        ascend = subst RowsAscend (sym table_is) (ascend_end (map (taken cohorts (length rows)) seen) new (ascend_map (taken cohorts (length rows)) seen (λ r. refl) old.ascend) low);
        treed = all_append (IsTreed more) (led (length rows) places rows) (row ∷ []) (treed_led more (length rows) places rows (treed_more stamps (Some t) rows old.treed)) (
          let groups : length (sealed_in stamps rows firsts) ≡ length firsts = sealed_length (rows_seen stamps rows) 0 firsts in
              let fewer = ids_few cohorts 0 (sealed_in stamps rows firsts) in
              let few = old.few in
              treed_new stamps t row (ids_in cohorts 0 (sealed_in stamps rows firsts)) (record { few_leaves = omega (arith, leaves_are, groups, fewer, few); short_token = token_short }) entry alone members alg_is leaves_are (omega (arith, groups, fewer, few)) (ids_rise cohorts 0 (sealed_in stamps rows firsts)),
          tt,
        );
        peaks = subst (AllByRecursion (IsTop (sealed_in more after firsts))) (sym table_is)
            (subst (λ (g : List (List Cover)). AllByRecursion (IsTop g) (map (taken cohorts (length rows)) seen ++ new ∷ [])) (sym trees_sealed)
            (all_append (IsTop renewed) (map (taken cohorts (length rows)) seen) (new ∷ [])
            (renewed_tops (length stamps) t.alg t.token cohorts (sealed_in stamps rows firsts) (length rows) seen (entries_below stamps (length stamps) rows old.known) old.peaks) (
              (λ none. subst (λ (m : ℕ). IsPeak (λ c. length stamps ≡ c) renewed m row.least) (sym most_is)
                  (peak_renewed (length stamps) t.alg t.token cohorts (sealed_in stamps rows firsts) most row.least (each_below (length stamps) (sealed_in stamps rows firsts) old.indexed.below) peak)),
              tt,
            )));
        indexed =
            let many = length-map rows bones_of in
            let table : List Bones = map bones_of rows in
            let named_by : List ℕ = map cohort_of (sealed_in stamps rows firsts) in
            let is : IsIndexed (map (taken_bones cohorts (length table)) table ++ bones_of row ∷ []) firsts (map (renamed cohorts (length stamps)) named_by) (length stamps + 1) =
            trees_indexed table firsts named_by cohorts (length stamps) (bones_of row) old.indexed (bones_below (length stamps) rows old.known)
            (subst (λ (n : ℕ). AllByRecursion (λ first. first < n) firsts) (sym many) old.starts) (bones_within stamps rows old.are_rows) entry
            (members ∙ ids_same cohorts 0 (sealed_in stamps rows firsts)) open_ in
            let led_bones : map bones_of (led (length rows) places rows) ≡ map (taken_bones cohorts (length table)) table =
            bones_seen more (led (length rows) places rows) ∙ ap (map bones_in) led_after ∙ bones_taken cohorts (length rows) seen
            ∙ ap (map (taken_bones cohorts (length rows))) (sym (bones_seen stamps rows)) ∙ ap (λ (n : ℕ). map (taken_bones cohorts n) table) (sym many) in
            let bones : map bones_of after ≡ map (taken_bones cohorts (length table)) table ++ bones_of row ∷ [] =
            map-append bones_of (led (length rows) places rows) (row ∷ []) ∙ ap (λ (l : List Bones). l ++ bones_of row ∷ []) led_bones in
            let renamed_all : map cohort_of (sealed_in more after firsts) ≡ map (renamed cohorts (length stamps)) named_by =
            ap (map cohort_of) trees_sealed ∙ cohorts_renewed (length stamps) t.alg t.token cohorts 0 (sealed_in stamps rows firsts) in
            subst (λ (x : List Bones). IsIndexed x firsts (map cohort_of (sealed_in more after firsts)) (length more)) (sym bones)
            (subst (λ (x : List ℕ). IsIndexed (map (taken_bones cohorts (length table)) table ++ bones_of row ∷ []) firsts x (length more)) (sym renamed_all)
            (subst (λ (x : ℕ). IsIndexed (map (taken_bones cohorts (length table)) table ++ bones_of row ∷ []) firsts (map (renamed cohorts (length stamps)) named_by) x) (sym further) is));
      }

  pub trees_bones : map bones_of after ≡ map (taken_bones cohorts (length (map bones_of rows))) (map bones_of rows) ++ bones_of row ∷ []
  trees_bones =
      let many = length-map rows bones_of in
      map-append bones_of (led (length rows) places rows) (row ∷ [])
      ∙ ap (λ (l : List Bones). l ++ bones_of row ∷ []) (bones_seen more (led (length rows) places rows) ∙ ap (map bones_in) led_after ∙ bones_taken cohorts (length rows) seen
      ∙ ap (map (taken_bones cohorts (length rows))) (sym (bones_seen stamps rows)) ∙ ap (λ (n : ℕ). map (taken_bones cohorts n) (map bones_of rows)) (sym many))

  pub trees_cohorts : map cohort_of (sealed_in more after firsts) ≡ map (renamed cohorts (length stamps)) (map cohort_of (sealed_in stamps rows firsts))
  trees_cohorts = ap (map cohort_of) trees_sealed ∙ cohorts_renewed (length stamps) t.alg t.token cohorts 0 (sealed_in stamps rows firsts)

  -- what the Vecs hold afterwards
  module _ (stamps_new : Stamps) (rows_mid rows_new : List Row) (place : ℕ) (s : stamps_new ≡ more) (m : rows_mid ≡ led place places rows) (r : rows_new ≡ rows_mid ++ row ∷ [])
      (here : place ≡ length rows) where
    rows_are : rows_new ≡ after
    rows_are = r ∙ ap (λ (x : List Row). x ++ row ∷ []) m ∙ ap (λ (p : ℕ). led p places rows ++ row ∷ []) here

    pub trees_bones_got : map bones_of rows_new ≡ map (taken_bones cohorts (length (map plain_of rows))) (map bare (map plain_of rows)) ++ bones_of row ∷ []
    trees_bones_got =
        let one = length-map rows bones_of in
        let two = length-map rows plain_of in
        let same : length (map bones_of rows) ≡ length (map plain_of rows) = omega (arith, one, two) in
        ap (map bones_of) rows_are ∙ trees_bones ∙ (λ i. map (taken_bones cohorts (same i)) (sym (bare_plain rows) i) ++ bones_of row ∷ [])

    pub trees_cohorts_got : map cohort_of (sealed_in stamps_new rows_new firsts) ≡ map (renamed cohorts (length stamps)) (map cohort_of (sealed_in stamps rows firsts))
    trees_cohorts_got = (λ i. map cohort_of (sealed_in (s i) (rows_are i) firsts)) ∙ trees_cohorts

    pub trees_sealed_got : sealed_in stamps_new rows_new firsts ≡ renewed_from (cover_at (length stamps) true t.alg t.token) cohorts 0 (sealed_in stamps rows firsts)
    trees_sealed_got = (λ i. sealed_in (s i) (rows_are i) firsts) ∙ trees_sealed

    pub trees_table_got : IsTable stamps_new rows_new firsts pending
    trees_table_got =
        subst (λ (x : Stamps). IsTable x rows_new firsts pending) (sym s) (subst (λ (x : List Row). IsTable more x firsts pending) (sym rows_are) trees_table)

-- ---- a further time-stamp

later_known : (m : ℕ) (l : Longer) (row : Row) → AllByRecursion (λ (x : Later). x.stamp < m) l.later.items → IsKnown m row → IsKnown m (with_later l row)
later_known m l row all k = record { stamp = k.stamp; later = all }

lengthened_known : (m : ℕ) (longer : List Longer) (rows : List Row) → AllByRecursion (λ (l : Longer). AllByRecursion (λ (x : Later). x.stamp < m) l.later.items) longer → AllByRecursion (IsKnown m) rows
    → AllByRecursion (IsKnown m) (lengthened longer rows)
lengthened_known m [] rows all h = h
lengthened_known m (l ∷ longer) rows all h = all_changed (IsKnown m) (with_later l) l.row (lengthened longer rows) (λ r k. later_known m l r all.0 k) (lengthened_known m longer rows all.1 h)

later_at : (m place : ℕ) (rows : List Row) (r : Plain) → slice_get (map plain_of rows) place ≡ Some r → AllByRecursion (IsKnown m) rows → AllByRecursion (λ (x : Later). x.stamp < m) r.later
later_at m place [] r e known = absurd (none r e) where
  none : (x : Plain) → ◌≡◌ {A = Option Plain} None (Some x) → ⊥
  none x e = cc
later_at m zero (row ∷ rows) r e known = let same : plain_of row ≡ r = some (plain_of row) r e in subst (λ (x : Plain). AllByRecursion (λ (l : Later). l.stamp < m) x.later) same known.0.later where
  some : (y x : Plain) → ◌≡◌ {A = Option Plain} (Some y) (Some x) → y ≡ x
  some y x e = cc
later_at m (suc place) (row ∷ rows) r e known = later_at m place rows r e known.1

longer_known : (m entry place : ℕ) (rows : List Row) (longer : List Longer) (names : List ℕ) → entry < m → AllByRecursion (IsKnown m) rows → AreAdded (map plain_of rows) entry place longer names
    → AllByRecursion (λ (l : Longer). AllByRecursion (λ (x : Later). x.stamp < m) l.later.items) longer
longer_known m entry place rows [] names less known h = tt
longer_known m entry place rows (l ∷ longer) [] less known h = absurd h
longer_known m entry place rows (l ∷ longer) (n ∷ names) less known h =
    let one : IsAdded (map plain_of rows) entry place l n = h.0 in
    let later = all_append (λ (x : Later). x.stamp < m) one.at.row.later (record { stamp = entry; place = place } ∷ []) (later_at m l.row rows one.at.row one.at.there known) (less, tt) in
    (subst (AllByRecursion (λ (x : Later). x.stamp < m)) (sym one.later) later, longer_known m entry (place + 1) rows longer names less known h.1)

module _ (stamps : Stamps) (rows : List Row) (firsts : List ℕ) (pending : ℕ) (old : IsTable stamps rows firsts pending)
    (t : TimeStamp) (longer : List Longer) (cohorts : List ℕ) (added : AreAdded (map plain_of rows) (length stamps) 0 longer cohorts)
    (full : first_full cohorts 0 (sealed_in stamps rows firsts) ≡ None)
    (alg_is : t.tree.alg ≡ t.alg) (leaves_are : length t.tree.leaves ≡ length cohorts) (short : IsShort t) where
  abbrev with_one : Stamps
  with_one = stamps ++ Some t ∷ []

  abbrev before : List Chain
  before = rows_seen stamps rows

  abbrev cover : ℕ → Cover
  cover = cover_at (length stamps) false t.alg t.token

  cover_is : (place : ℕ) → later_seen with_one (record { stamp = length stamps; place = place }) ≡ cover place
  cover_is place = let at = stamp_comes stamps (Some t) in (λ i. cover_at (length stamps) false (alg_in (at i)) (token_in (at i)) place)

  count_before : length before ≡ length rows
  count_before = length-map rows (row_seen stamps)

  chains_are : rows_seen with_one (lengthened longer rows) ≡ map (stamped cover cohorts) before
  chains_are =
      let stay = rows_stay stamps (Some t) rows old.known in
      let are : AreLonger cover 0 before (map (longer_seen with_one) longer) cohorts =
      subst (λ (cs : List Chain). AreLonger cover 0 cs (map (longer_seen with_one) longer) cohorts) stay (added_chains with_one rows (length stamps) cover cover_is 0 longer cohorts added) in
      let zero_on : (p : ℕ) → 0 + p ≡ p = λ p. omega arith in
      let same : (λ (p : ℕ). cover (0 + p)) ≡ cover = λ i p. cover (zero_on p i) in
      lengthened_seen with_one longer rows ∙ ap (lengthened_chains (map (longer_seen with_one) longer)) stay
      ∙ lengthened_is cover 0 (map (longer_seen with_one) longer) cohorts before old.ascend are ∙ ap (λ (f : ℕ → Cover). map (stamped f cohorts) before) same

  pub stamps_sealed : sealed_in with_one (lengthened longer rows) firsts ≡ map (stamped_in cover cohorts) (sealed_in stamps rows firsts)
  stamps_sealed =
      ap (λ (table : List Chain). sealed_by table 0 firsts) chains_are
      ∙ stamping before firsts cohorts (length stamps) t.alg t.token (subst (λ (n : ℕ). AreRows 0 n before) (sym count_before) old.are_rows)
      (subst (λ (n : ℕ). AllByRecursion (λ first. first < n) firsts) (sym count_before) old.starts)

  pub stamps_table : IsTable with_one (lengthened longer rows) firsts pending
  stamps_table =
      let same : length (lengthened longer rows) ≡ length rows = lengthened_length longer rows in
      let further : length with_one ≡ length stamps + 1 = length-append stamps (Some t ∷ []) in
      let no_more = old.no_more in
      let known : AllByRecursion (IsKnown (length stamps + 1)) rows =
      all_weaker (IsKnown (length stamps)) (IsKnown (length stamps + 1)) rows (λ r h. known_more (length stamps) (length stamps + 1) r (omega arith) h) old.known in record {
        few = old.few;
        are_rows = subst (λ (n : ℕ). AreRows 0 n (rows_seen with_one (lengthened longer rows))) (sym same)
            (subst (AreRows 0 (length rows)) (sym chains_are) (stamped_rows cover (λ p. refl) cohorts (length rows) 0 before old.are_rows));
        starts = subst (λ (n : ℕ). AllByRecursion (λ first. first < n) firsts) (sym same) old.starts;
        short = subst (AllByRecursion (λ (covers : List Cover). length covers ≤ 200)) (sym stamps_sealed) (short_stamped cover cohorts 0 (sealed_in stamps rows firsts) old.short full);
        known = subst (λ (n : ℕ). AllByRecursion (IsKnown n) (lengthened longer rows)) (sym further)
            (lengthened_known (length stamps + 1) longer rows (longer_known (length stamps + 1) (length stamps) 0 rows longer cohorts (omega arith) known added) known);
        no_more = omega (arith, same, further, no_more);
        ascend = subst RowsAscend (sym chains_are) (ascend_map (stamped cover cohorts) before (λ r. refl) old.ascend);
        treed = treed_lengthened with_one longer rows (treed_added stamps t 0 rows longer cohorts (treed_more stamps (Some t) rows old.treed) short alg_is (omega (arith, leaves_are)) added) (treed_more stamps (Some t) rows old.treed);
        peaks = subst (AllByRecursion (IsTop (sealed_in with_one (lengthened longer rows) firsts))) (sym chains_are)
            (subst (λ (g : List (List Cover)). AllByRecursion (IsTop g) (map (stamped cover cohorts) before)) (sym stamps_sealed)
            (stamped_tops (length stamps) t.alg t.token cohorts (sealed_in stamps rows firsts) before old.peaks));
        indexed =
            let bones : map bones_of (lengthened longer rows) ≡ map bones_of rows =
            bones_seen with_one (lengthened longer rows) ∙ ap (map bones_in) chains_are ∙ bones_stamped cover cohorts before ∙ sym (bones_seen stamps rows) in
            let named_by : map cohort_of (sealed_in with_one (lengthened longer rows) firsts) ≡ map cohort_of (sealed_in stamps rows firsts) =
            ap (map cohort_of) stamps_sealed ∙ cohorts_stamped (length stamps) t.alg t.token cohorts (sealed_in stamps rows firsts) in
            subst (λ (x : List Bones). IsIndexed x firsts (map cohort_of (sealed_in with_one (lengthened longer rows) firsts)) (length with_one)) (sym bones)
            (subst (λ (x : List ℕ). IsIndexed (map bones_of rows) firsts x (length with_one)) (sym named_by)
            (subst (λ (x : ℕ). IsIndexed (map bones_of rows) firsts (map cohort_of (sealed_in stamps rows firsts)) x) (sym further)
            (indexed_more (map bones_of rows) firsts (map cohort_of (sealed_in stamps rows firsts)) (length stamps) old.indexed)));
      }

  pub stamps_bones : map bones_of (lengthened longer rows) ≡ map bones_of rows
  stamps_bones = bones_seen with_one (lengthened longer rows) ∙ ap (map bones_in) chains_are ∙ bones_stamped cover cohorts before ∙ sym (bones_seen stamps rows)

  pub stamps_cohorts : map cohort_of (sealed_in with_one (lengthened longer rows) firsts) ≡ map cohort_of (sealed_in stamps rows firsts)
  stamps_cohorts = ap (map cohort_of) stamps_sealed ∙ cohorts_stamped (length stamps) t.alg t.token cohorts (sealed_in stamps rows firsts)

  module _ (stamps_new : Stamps) (rows_new : List Row) (s : stamps_new ≡ with_one) (r : rows_new ≡ lengthened longer rows) where
    pub stamps_bones_got : map bones_of rows_new ≡ map bones_of rows
    stamps_bones_got = ap (map bones_of) r ∙ stamps_bones

    pub stamps_cohorts_got : map cohort_of (sealed_in stamps_new rows_new firsts) ≡ map cohort_of (sealed_in stamps rows firsts)
    stamps_cohorts_got = (λ i. map cohort_of (sealed_in (s i) (r i) firsts)) ∙ stamps_cohorts

    pub stamps_sealed_got : sealed_in stamps_new rows_new firsts ≡ map (stamped_in cover cohorts) (sealed_in stamps rows firsts)
    stamps_sealed_got = (λ i. sealed_in (s i) (r i) firsts) ∙ stamps_sealed

    pub stamps_table_got : IsTable stamps_new rows_new firsts pending
    stamps_table_got =
        subst (λ (x : Stamps). IsTable x rows_new firsts pending) (sym s) (subst (λ (x : List Row). IsTable with_one x firsts pending) (sym r) stamps_table)
