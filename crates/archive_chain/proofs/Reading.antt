-- The sequence of a group, row by row.
use Rattle.std.proofs.Common.{◌≡◌, ℕ, zero, suc, ◌+◌, ◌*◌, ◌<◌, ◌≤◌, Bool, true, false, List, [], ◌∷◌, ◌++◌, length, map, drop, Option, Some, None, refl, sym, ap, subst, ◌∙◌, arith, append_assoc, append-nil}
use Rattle.std.specs.Prelude.{⊤, slice_get, slice_index_or, if◌then◌else◌}
use Rattle.std.specs.List.{AllByRecursion, flat_map}
use Rattle.std.proofs.lemmas.List.{length-append, length-map}
use Rattle.std.proofs.lemmas.List.Concat.{flat_map-append}
use Rattle.evidence_syntax.specs.Text.{chain_text}
use Rattle.hash_kit.specs.Digest.{digest_of}
use Rattle.evidence_syntax.specs.Stamps.{Stamp}
use Rattle.evidence_syntax.specs.DocumentValue.{values_after}
use Rattle.hash_tree.specs.Tree.{tree_path}
use Rattle.tree_renewal.specs.Lists.{lists_of}
use Rattle.archive_chain.specs.Kept.{Cover, has_name}
use Rattle.archive_chain.specs.Sequence.{Trees, name_of, stamp_of, with_stamp, in_last, with_cover, chains_after, sequence_of}
use Rattle.archive_chain.specs.declared.time_stamp.TimeStamp.{TimeStamp}
use Rattle.archive_chain.specs.declared.row.Row.{Row}
use Rattle.archive_chain.specs.declared.row.Later.{Later}
use Rattle.archive_chain.specs.InsideRows.{Row as Chain, begun, walk}
use Rattle.archive_chain.specs.InsideTable.{Stamps, stamp_at, leaves_in, ids_seen, later_seen, row_seen, rows_seen, bones_of, sealed_in, IsTable}
use Rattle.archive_chain.proofs.Walking.{Within, left, Visit, visit, get_map, sealed_at, short_at}
use Rattle.archive_chain.proofs.Indexing.{all_at}
use Rattle.std.proofs.lemmas.Option.{slice_get_read}
use Rattle.archive_chain.specs.InsideReadable.{stamp_made, further_all, chain_made, IsTreed, IsTreedLater, AreReadable}

pub trees_at : (stamps : Stamps) (entry : ℕ) → slice_index_or (map leaves_in stamps) entry [] ≡ leaves_in (stamp_at stamps entry)
trees_at [] entry = refl
trees_at (s ∷ stamps) zero = refl
trees_at (s ∷ stamps) (suc entry) = trees_at stamps entry

-- what is made from the time-stamp of the cover's entry
pub made_is : (stamps : Stamps) (t : TimeStamp) (c : Cover) (values : List (List ℕ)) → stamp_at stamps c.entry ≡ Some t → c.alg ≡ t.alg → c.token ≡ t.token → t.tree.alg ≡ t.alg
    → stamp_made t values c.place ≡ stamp_of (map leaves_in stamps) c values
made_is stamps t c values at alg token same =
    let leaves : t.tree.leaves ≡ slice_index_or (map leaves_in stamps) c.entry [] = sym (trees_at stamps c.entry ∙ ap leaves_in at) in
    let hash : t.tree.alg ≡ c.alg = same ∙ sym alg in
    (λ i. record { algorithm = Some (name_of (sym alg i)); attributes = None; lists = lists_of values (tree_path (hash i) (leaves i) c.place); token = sym token i })

-- ---- further time-stamps of a chain

pub with_stamp_end : (trees : Trees) (c : Cover) (init : List Stamp) (s : Stamp) → with_stamp trees c (init ++ s ∷ []) ≡ init ++ s ∷ stamp_of trees c (digest_of c.alg s.token ∷ []) ∷ []
with_stamp_end trees c [] s = refl
with_stamp_end trees c (x ∷ []) s = refl
with_stamp_end trees c (x ∷ y ∷ init) s = ap (λ (l : List Stamp). x ∷ l) (with_stamp_end trees c (y ∷ init) s)

in_last_end : (f : List Stamp → List Stamp) (chains : List (List Stamp)) (chain : List Stamp) → in_last f (chains ++ chain ∷ []) ≡ chains ++ f chain ∷ []
in_last_end f [] chain = refl
in_last_end f (x ∷ []) chain = refl
in_last_end f (x ∷ y ∷ chains) chain = ap (λ (l : List (List Stamp)). x ∷ l) (in_last_end f (y ∷ chains) chain)

later_all : (trees : Trees) (documents : List (List ℕ)) (chains : List (List Stamp)) (chain : List Stamp) (later rest : List Cover) → AllByRecursion (λ (c : Cover). c.begins ≡ false) later
    → chains_after trees documents (chains ++ chain ∷ []) (later ++ rest) ≡ chains_after trees documents (chains ++ further_all trees chain later ∷ []) rest
later_all trees documents chains chain [] rest none = refl
later_all trees documents chains chain (c ∷ later) rest none =
    let one : with_cover trees documents (chains ++ chain ∷ []) c ≡ chains ++ with_stamp trees c chain ∷ [] =
    ap (λ (b : Bool). if b then (chains ++ chain ∷ []) ++ (stamp_of trees c (values_after c.alg (chains ++ chain ∷ []) documents) ∷ []) ∷ [] else in_last (with_stamp trees c) (chains ++ chain ∷ [])) none.0
    ∙ in_last_end (with_stamp trees c) chains chain in
    ap (λ (x : List (List Stamp)). chains_after trees documents x (later ++ rest)) one ∙ later_all trees documents chains (with_stamp trees c chain) later rest none.1

pub one_chain : (trees : Trees) (documents : List (List ℕ)) (chains : List (List Stamp)) (first : Cover) (later rest : List Cover) → first.begins ≡ true → AllByRecursion (λ (c : Cover). c.begins ≡ false) later
    → chains_after trees documents chains (first ∷ (later ++ rest))
    ≡ chains_after trees documents (chains ++ further_all trees (stamp_of trees first (values_after first.alg chains documents) ∷ []) later ∷ []) rest
one_chain trees documents chains first later rest begins none =
    ap (λ (b : Bool). chains_after trees documents (if b then chains ++ (stamp_of trees first (values_after first.alg chains documents) ∷ []) ∷ [] else in_last (with_stamp trees first) chains) (later ++ rest)) begins
    ∙ later_all trees documents chains (stamp_of trees first (values_after first.alg chains documents) ∷ []) later rest none

-- ---- the loops

-- what was made, and its last token
pub record SoFar (made : List Stamp) (token : List ℕ) : Type 0 where
  pub init : List Stamp
  pub last : Stamp
  pub made_is : made ≡ init ++ last ∷ []
  pub token_is : last.token ≡ token

pub one_further : (trees : Trees) (c : Cover) (covers : List Cover) (chain : List Stamp) (token : List ℕ) (next : Stamp) (all : List Stamp) → SoFar chain token → next ≡ stamp_of trees c (digest_of c.alg token ∷ [])
    → further_all trees chain (c ∷ covers) ≡ all → (further_all trees (chain ++ next ∷ []) covers ≡ all) × SoFar (chain ++ next ∷ []) next.token
one_further trees c covers chain token next all so_far is before =
    let init = so_far.init in
    let last = so_far.last in
    let next_is : stamp_of trees c (digest_of c.alg last.token ∷ []) ≡ next = ap (λ (t : List ℕ). stamp_of trees c (digest_of c.alg t ∷ [])) so_far.token_is ∙ sym is in
    let grown : with_stamp trees c chain ≡ chain ++ next ∷ [] =
    ap (with_stamp trees c) so_far.made_is ∙ with_stamp_end trees c init last ∙ ap (λ (s : Stamp). init ++ last ∷ s ∷ []) next_is
    ∙ sym (append_assoc init (last ∷ []) (next ∷ [])) ∙ ap (λ (l : List Stamp). l ++ next ∷ []) (sym so_far.made_is) in
    (ap (λ (l : List Stamp). further_all trees l covers) (sym grown) ∙ before, record { init = chain; last = next; made_is = refl; token_is = refl })

pub treed_at : (stamps : Stamps) (rows : List Row) (i : ℕ) (row : Row) → AllByRecursion (IsTreed stamps) rows → i < length rows → row ≡ slice_index_or rows i row → IsTreed stamps row
treed_at stamps [] i row all less e = absurd (omega (arith, less))
treed_at stamps (r ∷ rows) zero row all less e = subst (IsTreed stamps) (sym e) all.0
treed_at stamps (r ∷ rows) (suc i) row all less e = treed_at stamps rows i row all.1 (omega (arith, less)) e

-- the group stands in the row that comes next, if there is one
abbrev pub StandsAt : List Row → ℕ → Option ℕ → Type 0
StandsAt rows id None = ⊤
StandsAt rows id (Some w) = (w < length rows) × ((row : Row) → slice_get rows w ≡ Some row → has_name (ids_seen row.members) id ≡ true)

pub chains_append : (trees : Trees) (documents : List (List ℕ)) (chains : List (List Stamp)) (xs ys : List Cover) → chains_after trees documents chains (xs ++ ys) ≡ chains_after trees documents (chains_after trees documents chains xs) ys
chains_append trees documents chains [] ys = refl
chains_append trees documents chains (x ∷ xs) ys = chains_append trees documents (with_cover trees documents chains x) xs ys

none_begins : (stamps : Stamps) (later : List Later) → AllByRecursion (λ (c : Cover). c.begins ≡ false) (map (later_seen stamps) later)
none_begins stamps [] = tt
none_begins stamps (l ∷ later) = (refl, none_begins stamps later)

-- the covers so far, and those to come
pub record Reached (stamps : Stamps) (rows : List Row) (id start : ℕ) (documents : List (List ℕ)) (at : Option ℕ) (chains : List (List Stamp)) : Type 0 where
  pub before : List Cover
  pub all : before ++ walk id 0 at (rows_seen stamps rows) ≡ walk id 0 (Some start) (rows_seen stamps rows)
  pub made : chains ≡ sequence_of (map leaves_in stamps) documents before
  pub stands : StandsAt rows id at
  pub size : length (flat_map chain_text chains) ≤ 72606 * length before

pub reached_first : (stamps : Stamps) (rows : List Row) (id start : ℕ) (documents : List (List ℕ)) → AreReadable stamps rows id start → Reached stamps rows id start documents (Some start) []
reached_first stamps rows id start documents r = record { before = []; all = refl; made = refl; stands = (r.starts, r.first); size = omega arith }

stands_next : (stamps : Stamps) (rows : List Row) (id start w : ℕ) (row : Row) (o : Option ℕ) → AreReadable stamps rows id start → slice_get rows w ≡ Some row → row.next ≡ o → Within (length rows) o → has_name (ids_seen row.members) id ≡ true
    → StandsAt rows id o
stands_next stamps rows id start w row None r at goes within member = tt
stands_next stamps rows id start w row (Some v) r at goes within member = (within, λ after there. r.nexts w v row after at goes there member)

pub reached_next : (stamps : Stamps) (rows : List Row) (id start w : ℕ) (documents : List (List ℕ)) (row : Row) (at : Option ℕ) (chains : List (List Stamp)) (chain : List Stamp) → AreReadable stamps rows id start
    → Reached stamps rows id start documents at chains → at ≡ Some w → row ≡ slice_index_or rows w row
    → chain ≡ chain_made (map leaves_in stamps) documents chains (begun (row_seen stamps row) id) (map (later_seen stamps) row.later.items)
    → length (chain_text chain) ≤ 72606 * (length row.later.items + 1)
    → Reached stamps rows id start documents row.next (chains ++ chain ∷ []) × (left (length rows) row.next < left (length rows) at)
reached_next stamps rows id start w documents row at chains chain r so_far goes is made short =
    let here : StandsAt rows id (Some w) = subst (StandsAt rows id) goes so_far.stands in
    let there : slice_get rows w ≡ Some row = slice_get_read rows (length rows) w row refl here.0 is in
    let v : Visit stamps rows id w row = visit stamps rows id w row r.are_rows here.0 is in
    let covers : List Cover = begun (row_seen stamps row) id ∷ map (later_seen stamps) row.later.items in
    let seen : List Chain = rows_seen stamps rows in
    let split : walk id 0 at seen ≡ covers ++ walk id 0 row.next seen = ap (λ (o : Option ℕ). walk id 0 o seen) goes ∙ v.walk_is in
    let nil : map (later_seen stamps) row.later.items ++ [] ≡ map (later_seen stamps) row.later.items = append-nil (map (later_seen stamps) row.later.items) in (
      record {
        before = so_far.before ++ covers;
        all = append_assoc so_far.before covers (walk id 0 row.next seen) ∙ ap (λ (l : List Cover). so_far.before ++ l) (sym split) ∙ so_far.all;
        made = ap (λ (c : List Stamp). chains ++ c ∷ []) made
            ∙ sym (one_chain (map leaves_in stamps) documents chains (begun (row_seen stamps row) id) (map (later_seen stamps) row.later.items) [] refl (none_begins stamps row.later.items))
            ∙ ap (λ (l : List Cover). chains_after (map leaves_in stamps) documents chains (begun (row_seen stamps row) id ∷ l)) nil
            ∙ ap (λ (c : List (List Stamp)). chains_after (map leaves_in stamps) documents c covers) so_far.made
            ∙ sym (chains_append (map leaves_in stamps) documents [] so_far.before covers);
        stands = stands_next stamps rows id start w row row.next r there refl v.within (here.1 row there);
        size =
            let old = so_far.size in
            let whole = ap (λ (l : List ℕ). length l) (flat_map-append chain_text chains (chain ∷ [])) in
            let parts = length-append (flat_map chain_text chains) (flat_map chain_text (chain ∷ [])) in
            let one = length-append (chain_text chain) [] in
            let count = length-append so_far.before covers in
            let these : length covers ≡ suc (length (map (later_seen stamps) row.later.items)) = refl in
            let many = length-map row.later.items (later_seen stamps) in
            omega (arith, old, whole, parts, one, count, these, many, short);
      },
      subst (λ (o : Option ℕ). left (length rows) row.next < left (length rows) o) (sym goes) v.smaller,
    )

-- so far they have no more bytes than 200 time-stamps may have
pub short_reached : (stamps : Stamps) (rows : List Row) (id start : ℕ) (documents : List (List ℕ)) (at : Option ℕ) (chains : List (List Stamp)) → AreReadable stamps rows id start
    → Reached stamps rows id start documents at chains → length (flat_map chain_text chains) ≤ 14521200
short_reached stamps rows id start documents at chains r so_far =
    let size = so_far.size in
    let few = r.few in
    let all = ap (λ (l : List Cover). length l) so_far.all in
    let parts = length-append so_far.before (walk id 0 at (rows_seen stamps rows)) in
    omega (arith, size, few, all, parts)

-- the row that comes next has a leaf for the group
pub row_reached : (stamps : Stamps) (rows : List Row) (id start w : ℕ) (documents : List (List ℕ)) (row : Row) (at : Option ℕ) (chains : List (List Stamp)) → AreReadable stamps rows id start
    → Reached stamps rows id start documents at chains → at ≡ Some w → row ≡ slice_index_or rows w row → IsTreed stamps row × (has_name (ids_seen row.members) id ≡ true)
row_reached stamps rows id start w documents row at chains r so_far goes is =
    let here : StandsAt rows id (Some w) = subst (StandsAt rows id) goes so_far.stands in
    (treed_at stamps rows w row r.treed here.0 is, here.1 row (slice_get_read rows (length rows) w row refl here.0 is))

abbrev pub no_later : Later
no_later = record { stamp = 0; place = 0 }

pub drop_later : (items : List Later) (i : ℕ) → i < length items → drop i items ≡ slice_index_or items i no_later ∷ drop (i + 1) items
drop_later [] i less = absurd (omega (arith, less))
drop_later (x ∷ items) zero less = refl
drop_later (x ∷ items) (suc i) less =
    let moved : suc (i + 1) ≡ suc i + 1 = omega arith in
    drop_later items i (omega (arith, less)) ∙ ap (λ (n : ℕ). slice_index_or items i no_later ∷ drop n (x ∷ items)) moved

-- the tree of the next one has its leaf
pub treed_next : (stamps : Stamps) (items seen : List Later) (i : ℕ) → seen ≡ items → i < length items → AllByRecursion (IsTreedLater stamps) (drop i items)
    → IsTreedLater stamps (slice_index_or seen i no_later)
treed_next stamps items seen i same less treed =
    let here : AllByRecursion (IsTreedLater stamps) (slice_index_or items i no_later ∷ drop (i + 1) items) = subst (AllByRecursion (IsTreedLater stamps)) (drop_later items i less) treed in
    subst (IsTreedLater stamps) (sym (ap (λ (l : List Later). slice_index_or l i no_later) same)) here.0

pub treed_rest : (stamps : Stamps) (items : List Later) (i : ℕ) → i < length items → AllByRecursion (IsTreedLater stamps) (drop i items) → AllByRecursion (IsTreedLater stamps) (drop (i + 1) items)
treed_rest stamps items i less treed =
    let here : AllByRecursion (IsTreedLater stamps) (slice_index_or items i no_later ∷ drop (i + 1) items) = subst (AllByRecursion (IsTreedLater stamps)) (drop_later items i less) treed in
    here.1

pub chain_step : (stamps : Stamps) (items seen : List Later) (i : ℕ) (made made_next : List Stamp) (token : List ℕ) (next : Stamp) (all : List Stamp) → seen ≡ items → i < length items
    → next ≡ stamp_of (map leaves_in stamps) (later_seen stamps (slice_index_or seen i no_later)) (digest_of (later_seen stamps (slice_index_or seen i no_later)).alg token ∷ [])
    → made_next ≡ made ++ next ∷ []
    → further_all (map leaves_in stamps) made (map (later_seen stamps) (drop i items)) ≡ all → SoFar made token → AllByRecursion (IsTreedLater stamps) (drop i items)
    → (further_all (map leaves_in stamps) made_next (map (later_seen stamps) (drop (i + 1) items)) ≡ all) × SoFar made_next next.token × AllByRecursion (IsTreedLater stamps) (drop (i + 1) items)
chain_step stamps items seen i made made_next token next all same less is grown before so_far treed =
    let item : slice_index_or seen i no_later ≡ slice_index_or items i no_later = ap (λ (l : List Later). slice_index_or l i no_later) same in
    let split = drop_later items i less in
    let is_here : next ≡ stamp_of (map leaves_in stamps) (later_seen stamps (slice_index_or items i no_later)) (digest_of (later_seen stamps (slice_index_or items i no_later)).alg token ∷ []) =
    is ∙ ap (λ (l : Later). stamp_of (map leaves_in stamps) (later_seen stamps l) (digest_of (later_seen stamps l).alg token ∷ [])) item in
    let one = one_further (map leaves_in stamps) (later_seen stamps (slice_index_or items i no_later)) (map (later_seen stamps) (drop (i + 1) items)) made token next all so_far is_here
    (sym (ap (λ (l : List Later). further_all (map leaves_in stamps) made (map (later_seen stamps) l)) split) ∙ before) in
    let rest : AllByRecursion (IsTreedLater stamps) (slice_index_or items i no_later ∷ drop (i + 1) items) = subst (AllByRecursion (IsTreedLater stamps)) split treed in
    (ap (λ (l : List Stamp). further_all (map leaves_in stamps) l (map (later_seen stamps) (drop (i + 1) items))) grown ∙ one.0, subst (λ (l : List Stamp). SoFar l next.token) (sym grown) one.1, rest.1)

-- ---- in an archive

pub covers_are : (stamps : Stamps) (rows : List Row) (firsts : List ℕ) (id first : ℕ) → slice_get firsts id ≡ Some first → slice_index_or (sealed_in stamps rows firsts) id [] ≡ walk id 0 (Some first) (rows_seen stamps rows)
covers_are stamps rows firsts id first f =
    let same : 0 + id ≡ id = omega arith in
    sealed_at (rows_seen stamps rows) 0 id firsts first f ∙ ap (λ (x : ℕ). walk x 0 (Some first) (rows_seen stamps rows)) same

pub readable : (stamps : Stamps) (rows : List Row) (firsts : List ℕ) (pending id first : ℕ) → IsTable stamps rows firsts pending → slice_get firsts id ≡ Some first → AreReadable stamps rows id first
readable stamps rows firsts pending id first old f = record {
  are_rows = old.are_rows;
  treed = old.treed;
  starts = all_at (λ x. x < length rows) firsts id first old.starts f;
  first = λ row at. old.indexed.seals id first (bones_of row) f (get_map bones_of rows first row at);
  nexts = λ p w row after at goes there member. old.indexed.nexts p w (bones_of row) (bones_of after) (get_map bones_of rows p row at) goes (get_map bones_of rows w after there) id member;
  few = subst (λ (l : List Cover). length l ≤ 200) (covers_are stamps rows firsts id first f) (short_at (sealed_in stamps rows firsts) id old.short);
}
