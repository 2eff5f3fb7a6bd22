-- What is kept of an entry tells it, and can be read.
use Rattle.std.proofs.Common.{◌≡◌, ℕ, ◌+◌, ◌≤◌, Bool, true, false, IsTrue, List, [], ◌∷◌, map, length, replicate, refl, sym, ap, ◌∙◌, subst, arith, append-nil}
use Rattle.std.specs.List.{AllByRecursion}
use Rattle.std.proofs.lemmas.List.{length-map}
use Rattle.object_groups.specs.Groups.{IsGroup}
use Rattle.entry_codec.specs.declared.entry.Entry.{Entry}
use Rattle.entry_codec.specs.declared.entry.Entry.TheVariants.{Deposit, Seal, RenewStamps, RenewTrees, SetPolicy}
use Rattle.entry_codec.specs.declared.places.Place.{Place}
use Rattle.entry_codec.specs.declared.places.DepositPlaces.{DepositPlaces}
use Rattle.entry_codec.specs.Spelling.{group_spelling, entry_spelling, IsDeposit, IsEntry}
use Rattle.entry_codec.specs.Places.{document_places, group_places, LieAt, grouped}
use Rattle.entry_codec.proofs.Lying.{lie_in, one_group}
use Rattle.archive_chain.specs.History.{groups_in}
use Rattle.archive_store.specs.declared.row.Stored.{Stored}
use Rattle.archive_store.specs.declared.row.Stored.TheVariants.{OnDisk, Whole}
use Rattle.archive_store.specs.Told.{blank_document, blank_group, entry_told}
use Rattle.archive_store.specs.Rows.{document_at}
use Rattle.archive_store.specs.InsideRows.{IsStored, IsReadable, CanBeRead, group_count}
use Rattle.archive_store.proofs.Telling.{IsRowOf}
use Rattle.archive_store.proofs.Blank.{each_blank}

-- as many zeros as stand at a place
abbrev blank_at : Place → List ℕ
blank_at p = replicate p.size 0

documents_blank : (ds : List (List ℕ)) (at : ℕ) → map blank_at (document_places at ds) ≡ blank_group ds
documents_blank [] at = refl
documents_blank (d ∷ ds) at = ap (λ (l : List (List ℕ)). blank_document d ∷ l) (documents_blank ds (at + 4 + length d))

groups_blank : (gs : List (List (List ℕ))) (at : ℕ) → grouped (map length gs) (map blank_at (group_places at gs)) ≡ map blank_group gs
groups_blank [] at = refl
groups_blank (g ∷ gs) at =
    one_group (length g) (map length gs) blank_at (document_places (at + 4) g) (group_places (at + length (group_spelling g)) gs) (blank_group g)
    (documents_blank g (at + 4)) (sym (length-map g blank_document))
    ∙ ap (λ (l : List (List (List ℕ))). blank_group g ∷ l) (groups_blank gs (at + length (group_spelling g)))

lie_blank : (groups : List (List (List ℕ))) (p : DepositPlaces) → LieAt groups p → grouped p.counts (map blank_at p.places) ≡ map blank_group groups
lie_blank groups p lie = rw (lie.counts, lie.places) (groups_blank groups 5)

-- a deposit, where its payload is told or not
deposit_told : (tells : Bool) (groups : List (List (List ℕ))) (p : DepositPlaces) → IsDeposit groups → LieAt groups p → (payload : List ℕ)
    → (IsTrue tells → payload ≡ entry_spelling (Deposit groups)) → Deposit (grouped p.counts (map (document_at tells payload) p.places)) ≡ entry_told tells (Deposit groups)
deposit_told true groups p valid lie payload known =
    ap Deposit (lie_in groups p payload [] valid.each (known refl ∙ sym (append-nil (entry_spelling (Deposit groups)))) lie).0
deposit_told false groups p valid lie payload known = ap Deposit (lie_blank groups p lie)

pub row_of_entry : (tells : Bool) (e : Entry) (s : Stored) → IsEntry e → IsStored e s → IsRowOf tells (entry_spelling e) s e
row_of_entry tells (Deposit groups) (OnDisk p) valid is = deposit_told tells groups p valid is
row_of_entry tells (Deposit groups) (Whole e) valid is = absurd is
row_of_entry true (Seal alg count token) (Whole s) valid is = λ p known. is
row_of_entry false (Seal alg count token) (Whole s) valid is = λ p known. is
row_of_entry tells (Seal alg count token) (OnDisk p) valid is = absurd is
row_of_entry true (RenewStamps alg cohorts token) (Whole s) valid is = λ p known. is
row_of_entry false (RenewStamps alg cohorts token) (Whole s) valid is = λ p known. is
row_of_entry tells (RenewStamps alg cohorts token) (OnDisk p) valid is = absurd is
row_of_entry true (RenewTrees alg cohorts token) (Whole s) valid is = λ p known. is
row_of_entry false (RenewTrees alg cohorts token) (Whole s) valid is = λ p known. is
row_of_entry tells (RenewTrees alg cohorts token) (OnDisk p) valid is = absurd is
row_of_entry true (SetPolicy text) (Whole s) valid is = λ p known. is
row_of_entry false (SetPolicy text) (Whole s) valid is = λ p known. is
row_of_entry tells (SetPolicy text) (OnDisk p) valid is = absurd is

-- ---- what can be read

readable : (groups : List (List (List ℕ))) (p : DepositPlaces) → IsDeposit groups → LieAt groups p → IsReadable (length (entry_spelling (Deposit groups))) p
readable groups p valid lie =
    let text : List ℕ = entry_spelling (Deposit groups) in
    let fit = lie_in groups p text [] valid.each (sym (append-nil text)) lie in
    record {
      few = rw lie.counts (omega (arith, valid.few, length-map groups (λ (g : List (List ℕ)). length g)));
      enough = fit.1.enough;
      within = fit.1.within;
      groups = subst (AllByRecursion IsGroup) (sym (lie_blank groups p lie)) (each_blank groups valid.each);
    }

pub can_be_read : (e : Entry) (s : Stored) → IsEntry e → IsStored e s → CanBeRead (length (entry_spelling e)) s
can_be_read (Deposit groups) (OnDisk p) valid is = readable groups p valid is
can_be_read (Deposit groups) (Whole e) valid is = absurd is
can_be_read (Seal alg count token) (Whole e) valid is = ap groups_in is
can_be_read (Seal alg count token) (OnDisk p) valid is = absurd is
can_be_read (RenewStamps alg cohorts token) (Whole e) valid is = ap groups_in is
can_be_read (RenewStamps alg cohorts token) (OnDisk p) valid is = absurd is
can_be_read (RenewTrees alg cohorts token) (Whole e) valid is = ap groups_in is
can_be_read (RenewTrees alg cohorts token) (OnDisk p) valid is = absurd is
can_be_read (SetPolicy text) (Whole e) valid is = ap groups_in is
can_be_read (SetPolicy text) (OnDisk p) valid is = absurd is

-- an entry has at most so many groups
pub groups_kept : (e : Entry) (s : Stored) → IsEntry e → IsStored e s → group_count s ≤ 64
groups_kept e s valid is = by_kind s (can_be_read e s valid is) where
  by_kind : (t : Stored) → CanBeRead (length (entry_spelling e)) t → group_count t ≤ 64
  by_kind (OnDisk p) can = can.few
  by_kind (Whole f) can = omega arith
