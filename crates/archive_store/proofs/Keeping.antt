-- Rows and an archive of their entries stay so: with an entry more, over other payloads where the disk doesn't tell them, with other room.
use Rattle.std.proofs.Common.{◌≡◌, ℕ, Bool, IsTrue, List, [], ◌∷◌, ◌++◌, map, length, replicate, sym, ap, subst, ◌∙◌, arith}
use Rattle.std.proofs.lemmas.List.{length-map}
use Rattle.algorithm_policy.specs.Content.{Content}
use Rattle.entry_codec.specs.declared.entry.Entry.{Entry}
use Rattle.entry_codec.specs.Spelling.{IsEntry, entry_spelling}
use Rattle.archive_chain.specs.Kept.{Kept}
use Rattle.archive_chain.specs.Sequence.{Trees}
use Rattle.archive_chain.specs.Steps.{next}
use Rattle.archive_chain.specs.Rules.{Keeps}
use Rattle.archive_chain.specs.History.{state_of, leaves_of, InForce, Legal, LegalButImprint}
use Rattle.archive_chain.specs.Held.{Held, Agrees, StandsFor, PolicyAfter, Takes, IsAsBefore}
use Rattle.archive_chain.proofs.Agreeing.{agrees_more, stands_more}
use Rattle.archive_store.specs.declared.item.Item.{Item}
use Rattle.archive_store.specs.declared.item.Item.TheVariants as item
use Rattle.archive_store.specs.declared.row.Stored.{Stored}
use Rattle.archive_store.specs.declared.row.Row.{Row}
use Rattle.archive_store.specs.Told.{entries_of, entry_told}
use Rattle.archive_store.specs.Rows.{told_rows}
use Rattle.archive_store.specs.InsideRows.{entries_at, IsStored, CanBeRead, AreReadable, AreRows}
use Rattle.archive_store.proofs.Telling.{entries_of-append, entries_of-marks, entries_of-rows, entries_same, count_entries, rows_more}
use Rattle.archive_store.proofs.Blank.{takes_told, text_told}
use Rattle.archive_store.proofs.Stored.{row_of_entry, can_be_read}
use Rattle.archive_store.proofs.Histories.{legal_more, but_imprint_more, told_known, texts, text_sizes}

-- ---- an archive that keeps the same

pub agrees_before : (old new : Held) (h : List Entry) → IsAsBefore old new → Agrees old h → Agrees new h
agrees_before old new h same agrees = record {
  kept = same.kept ∙ agrees.kept;
  policy = subst (InForce (state_of h).text) (sym same.policy) agrees.policy;
}

pub stands_before : (old new : Held) (h : List Entry) → IsAsBefore old new → StandsFor old h → StandsFor new h
stands_before old new h same stands = record { agrees = agrees_before old new h same stands.agrees; trees = same.trees ∙ stands.trees }

pub takes_before : (a b : Held) (e : Entry) (leaves : List (List ℕ)) (new : Held) → IsAsBefore a b → Takes b e leaves new → Takes a e leaves new
takes_before a b e leaves new same takes = record {
  kept = takes.kept ∙ ap (λ (k : Kept). next k e) same.kept;
  trees = takes.trees ∙ ap (λ (t : Trees). t ++ leaves ∷ []) same.trees;
  policy = subst (λ (p : Content). PolicyAfter p e new.policy) same.policy takes.policy;
}

-- ---- an entry more

readable_more : (sizes : List ℕ) (rows : List Row) (n : ℕ) (r : Row) → length sizes ≡ length rows → AreReadable sizes rows → CanBeRead n r.entry
    → AreReadable (sizes ++ n ∷ []) (rows ++ r ∷ [])
readable_more [] [] n r same are one = (one, tt)
readable_more (m ∷ sizes) [] n r same are one = absurd (omega (arith, same))
readable_more [] (s ∷ rows) n r same are one = absurd are
readable_more (m ∷ sizes) (s ∷ rows) n r same are one = (are.0, readable_more sizes rows n r (omega (arith, same)) are.1 one)

module _ (tells : Bool) (lengths : List ℕ) (payloads : List (List ℕ)) (rows : List Row) (old : Held) (is : AreRows tells lengths payloads rows old) where
  abbrev entries : List Entry
  entries = entries_at tells rows payloads

  -- there are as many payloads as rows
  pub many : IsTrue tells → length payloads ≡ length rows
  many known = ap length (is.spelled known) ∙ length-map entries entry_spelling ∙ count_entries tells rows payloads

  pub count : length lengths ≡ length rows
  count = ap length is.sizes ∙ length-map entries (λ (e : Entry). length (entry_spelling e)) ∙ count_entries tells rows payloads

  pub rows_as : (same : List (List ℕ)) → (IsTrue tells → same ≡ payloads) → AreRows tells lengths same rows old
  rows_as same are_same =
      let all : entries_at tells rows same ≡ entries = entries_same tells rows payloads same are_same in
      record {
        sizes = is.sizes ∙ ap (map (λ (e : Entry). length (entry_spelling e))) (sym all);
        spelled = λ known. are_same known ∙ is.spelled known ∙ ap (map entry_spelling) (sym all);
        readable = is.readable;
        agrees = subst (Agrees old) (sym all) is.agrees;
        but_imprint = subst LegalButImprint (sym all) is.but_imprint;
        stands = λ known. subst (StandsFor old) (sym all) (is.stands known);
        legal = λ known. subst Legal (sym all) (is.legal known);
      }

  pub rows_before : (new : Held) → IsAsBefore old new → AreRows tells lengths payloads rows new
  rows_before new same = record {
    sizes = is.sizes;
    spelled = is.spelled;
    readable = is.readable;
    agrees = agrees_before old new entries same is.agrees;
    but_imprint = is.but_imprint;
    stands = λ known. stands_before old new entries same (is.stands known);
    legal = is.legal;
  }

  module _ (e : Entry) (leaves : List (List ℕ)) (spelled : IsEntry e) (keeps : Keeps old.kept old.policy e leaves)
      (are : IsTrue tells → leaves ≡ leaves_of old.kept old.trees (state_of entries).documents e) where
    -- the history with it is legal
    pub legal_then : IsTrue tells → Legal (entries ++ e ∷ [])
    legal_then known = legal_more entries e old leaves (is.stands known) (is.legal known) spelled keeps (are known)

    module _ (s : Stored) (stored : IsStored e s) (marks : ℕ) (more : List (List ℕ)) (more_are : IsTrue tells → more ≡ payloads ++ entry_spelling e ∷ []) where
      abbrev row : Row
      row = record { marks = marks; entry = s }

      pub entries_then : entries_at tells (rows ++ row ∷ []) more ≡ entries ++ entry_told tells e ∷ []
      entries_then =
          let told : List Item = told_rows tells rows payloads in
          let reads : List Item = replicate marks item.ReadFault in
          let last : List Item = item.Entry (entry_told tells e) ∷ [] in
          sym (entries_of-rows tells (rows ++ row ∷ []) more)
          ∙ ap entries_of (rows_more tells rows payloads more row (entry_spelling e) e many more_are (row_of_entry tells e s spelled stored))
          ∙ entries_of-append told (reads ++ last)
          ∙ ap (λ (l : List Entry). entries_of told ++ l) (entries_of-append reads last ∙ ap (λ (l : List Entry). l ++ entry_told tells e ∷ []) (entries_of-marks marks))
          ∙ ap (λ (l : List Entry). l ++ entry_told tells e ∷ []) (entries_of-rows tells rows payloads)

      known_then : IsTrue tells → entries_at tells (rows ++ row ∷ []) more ≡ entries ++ e ∷ []
      known_then known = entries_then ∙ ap (λ (f : Entry). entries ++ f ∷ []) (told_known tells e known)

      pub rows_then : (new : Held) → Takes old e leaves new → AreRows tells (lengths ++ length (entry_spelling e) ∷ []) more (rows ++ row ∷ []) new
      rows_then new takes = record {
        sizes = ap (λ (l : List ℕ). l ++ length (entry_spelling e) ∷ []) is.sizes
            ∙ ap (λ (n : ℕ). map (λ (f : Entry). length (entry_spelling f)) entries ++ n ∷ []) (sym (text_told tells e))
            ∙ sym (text_sizes entries (entry_told tells e)) ∙ ap (map (λ (f : Entry). length (entry_spelling f))) (sym entries_then);
        spelled = λ known. more_are known ∙ ap (λ (l : List (List ℕ)). l ++ entry_spelling e ∷ []) (is.spelled known)
            ∙ sym (texts entries e) ∙ ap (map entry_spelling) (sym (known_then known));
        readable = readable_more lengths rows (length (entry_spelling e)) row count is.readable (can_be_read e s spelled stored);
        agrees = subst (Agrees new) (sym entries_then) (agrees_more old new (entry_told tells e) leaves entries (takes_told tells old e leaves new takes) is.agrees);
        but_imprint = subst LegalButImprint (sym entries_then) (but_imprint_more tells entries e old leaves is.agrees is.but_imprint spelled keeps);
        stands = λ known. subst (StandsFor new) (sym (known_then known)) (stands_more old new e leaves entries takes (is.stands known) (are known));
        legal = λ known. subst Legal (sym (known_then known)) (legal_then known);
      }
