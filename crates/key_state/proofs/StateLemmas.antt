-- What a write at the next index leaves of a key state.
use Rattle.std.proofs.Common.{rules, ◌≡◌, ℕ, zero, suc, ◌+◌, ◌<◌, ◌≤◌, min, true, false, List, [], ◌∷◌, ◌++◌, length, take, drop, replicate, refl, sym, ◌∙◌, ap, subst, arith, length-take, length-drop, append_assoc}
use Rattle.std.proofs.lemmas.List.{drop-drop, drop_all, take_all, append-nil, length-replicate, replicate-append-replicate, take-take, drop-take, drop-append-le}
use Rattle.std.specs.Prelude.{Result, Ok, Err, OnOk}
use Rattle.ev_world.specs.Disk.{Holds, Torn, After, Follows, Only, IsQuiet, LeavesOnly, WritesOnly}
use Rattle.ev_world.proofs.Writes.{over_first, behind_reads}
use Rattle.key_state.specs.Keys.{header, used, next_index, IsKeys}
use Rattle.key_state.specs.View.{IsUsedTo, IsState}
use Rattle.key_state.proofs.UsedLemmas.{count, used_behind, used_over, kept}

-- whatever a crash leaves of the write, the indexes before it are as they were
module _ (leaves next : ℕ) (b c : List ℕ) (keys : IsKeys b leaves) (is : next_index b ≡ next) (inside : next < leaves) (torn : Torn (16 + next) 1 b c) where
  front : take (16 + next) c ≡ take (16 + next) b
  front = let same : min (16 + next) (length b) ≡ 16 + next = omega (arith, keys.size, inside) in ap (λ (k : ℕ). take k c) (sym same) ∙ torn.before

  torn_size : length c ≡ 16 + leaves
  torn_size = omega (arith, torn.no_shorter, torn.no_longer, keys.size, inside)

  torn_starts : take 16 c ≡ header
  torn_starts = sym (take-take 16 (16 + next) c (omega arith)) ∙ ap (take 16) front ∙ take-take 16 (16 + next) b (omega arith) ∙ keys.starts

  pub torn_used : IsUsedTo leaves next c
  torn_used = record {
    keys = record { starts = torn_starts; size = torn_size };
    next = kept (drop 16 b) (drop 16 c) next is (sym (drop-take 16 next c) ∙ ap (drop 16) front ∙ drop-take 16 next b);
  }

-- the whole write marks the next index
module _ (leaves next : ℕ) (b c : List ℕ) (keys : IsKeys b leaves) (is : next_index b ≡ next) (inside : next < leaves) (holds : Holds b (16 + next) (255 ∷ []) c) where
  size : 16 + next + length {A = ℕ} (255 ∷ []) ≡ 16 + next + 1
  size = omega arith

  whole : c ≡ take (16 + next) b ++ 255 ∷ drop (16 + next + 1) b
  whole =
      holds.is ∙ append_assoc (take (16 + next) b) (255 ∷ []) (drop (16 + next + length {A = ℕ} (255 ∷ [])) b)
      ∙ ap (λ (k : ℕ). take (16 + next) b ++ 255 ∷ drop k b) size

  bytes_are : drop 16 c ≡ take next (drop 16 b) ++ 255 ∷ drop (next + 1) (drop 16 b)
  bytes_are =
      ap (drop 16) whole
      ∙ drop-append-le 16 (take (16 + next) b) (255 ∷ drop (16 + next + 1) b) (omega (arith, length-take (16 + next) b, keys.size, inside))
      ∙ ap (λ (f : List ℕ). f ++ 255 ∷ drop (16 + next + 1) b) (drop-take 16 next b)
      ∙ ap (λ (f : List ℕ). take next (drop 16 b) ++ 255 ∷ f) (ap (λ (k : ℕ). drop k b) (omega arith) ∙ sym (drop-drop (next + 1) 16 b))

  pub marked_next : next_index c ≡ next + 1
  marked_next =
      ap used bytes_are ∙ used_over (take next (drop 16 b)) (drop (next + 1) (drop 16 b)) (used_behind (drop 16 b) (next + 1) (omega (arith, is)))
      ∙ omega (arith, length-take next (drop 16 b), length-drop 16 b, keys.size, inside)

-- ---- a state that was just made

pub header_over : (leaves : ℕ) (old unused first second : List ℕ) → unused ≡ replicate (leaves + 16) 0 → Holds old 0 unused first → Holds first 0 header second
    → second ≡ header ++ replicate leaves 0 ++ drop (16 + leaves) old
header_over leaves old unused first second zeros one two =
    let start : 0 + length unused ≡ length unused = omega arith in
    let over : first ≡ unused ++ drop (length unused) old = one.is ∙ ap (λ (n : ℕ). unused ++ drop n old) start in
    let same : unused ≡ replicate 16 0 ++ replicate leaves 0 = zeros ∙ ap (λ (n : ℕ). replicate n 0) (omega arith) ∙ sym (replicate-append-replicate 16 leaves 0) in
    let size : length unused ≡ 16 + leaves = omega (arith, ap length zeros, length-replicate {A = ℕ} (leaves + 16) 0) in
    two.is ∙ ap (λ (f : List ℕ). header ++ drop 16 f) over
    ∙ ap (λ (z : List ℕ). header ++ drop 16 (z ++ drop (length unused) old)) same
    ∙ ap (λ (n : ℕ). header ++ replicate leaves 0 ++ drop n old) size

used_none : (n : ℕ) → used (replicate n 0) ≡ 0
used_none zero = refl
used_none (suc n) = ap (count 0) (used_none n)

pub made_unused : (leaves : ℕ) (old new : List ℕ) → new ≡ header ++ replicate leaves 0 ++ drop (16 + leaves) old → length old ≤ 16 + leaves → next_index new ≡ 0
made_unused leaves old new is short =
    ap next_index is ∙ ap (λ (f : List ℕ). used (replicate leaves 0 ++ f)) (drop_all (16 + leaves) old short) ∙ ap used (append-nil (replicate leaves 0)) ∙ used_none leaves

-- all of the bytes behind the header
pub whole_rest : (leaves next : ℕ) (b bytes : List ℕ) → length b ≡ 16 + leaves → bytes ≡ take leaves (drop 16 b) → next ≡ used bytes → next ≡ next_index b
whole_rest leaves next b bytes size is used_is = used_is ∙ ap used (is ∙ take_all leaves (drop 16 b) (omega (arith, size, length-drop 16 b)))

-- ---- the write of a reserve

true_false : true ≡ false → ⊥
true_false e = grind (rules, e)

module _ (reads : List ℕ) (images : List ℕ → Type 0) (leaves index : ℕ) (state : IsState reads images leaves index false) (inside : index < leaves) (place : ℕ) (place_is : place ≡ 16 + index) where
  -- whatever a crash leaves of it
  pub torn_image : (c : List ℕ) → After (Torn place 1) images c → IsUsedTo leaves index c
  torn_image c after =
      let here = state.each after.0 after.1 in
      torn_used leaves index after.0 c here.keys (ap next_index (state.durable refl after.0 after.1) ∙ state.exact refl) inside (subst (λ (p : ℕ). Torn p 1 after.0 c) place_is after.2)

  pub torn_state : (new : List ℕ) (now : List ℕ → Type 0) → Follows (Torn place 1) images now → IsState new now leaves index true
  torn_state new now follows = record {
    each = λ c left. torn_image c (follows c left);
    exact = λ e. absurd (true_false e);
    durable = λ e. absurd (true_false e);
  }

  pub marked_state : (new : List ℕ) (now : List ℕ → Type 0) → images reads → Torn place 1 reads new → Holds reads place (255 ∷ []) new → Only new now
      → IsState new now leaves (index + 1) false
  marked_state new now here torn holds only =
      let keys = (state.each reads here).keys in
      let next : next_index new ≡ index + 1 = marked_next leaves index reads new keys (state.exact refl) inside (subst (λ (p : ℕ). Holds reads p (255 ∷ []) new) place_is holds) in record {
        each = λ c left. subst (IsUsedTo leaves (index + 1)) (sym (only c left)) (record {
          keys = (torn_image new (reads, here, torn)).keys;
          next = omega (arith, next);
        });
        exact = λ e. next;
        durable = λ e. only;
      }

pub on_ok : {T E : Type 0} (answer : Result T E) (P Q : Type 0) → (P → Q) → OnOk answer P → OnOk answer Q
on_ok (Ok x) P Q more here = more here
on_ok (Err e) P Q more here = tt

pub on_both : {T E : Type 0} (answer : Result T E) (P Q R : Type 0) → (P → Q → R) → OnOk answer P → OnOk answer Q → OnOk answer R
on_both (Ok x) P Q R more p q = more p q
on_both (Err e) P Q R more p q = tt

-- where nothing stands behind it
pub made_keys : (leaves : ℕ) (old new : List ℕ) → new ≡ header ++ replicate leaves 0 ++ drop (16 + leaves) old → length old ≤ 16 + leaves → IsKeys new leaves
made_keys leaves old new is short =
    let whole : new ≡ header ++ replicate leaves 0 = is ∙ ap (λ (f : List ℕ). header ++ replicate leaves 0 ++ f) (drop_all (16 + leaves) old short) ∙ ap (λ (f : List ℕ). header ++ f) (append-nil (replicate leaves 0)) in
    record { starts = ap (take 16) whole; size = omega (arith, ap length whole, length-replicate {A = ℕ} leaves 0) }

-- ---- a crash while a state is made

-- the bytes of the indexes are written, and then the header over their front
module _ {D : Type 0} (reads : D → List ℕ) (images : D → List ℕ → Type 0) (clock : D → ℕ) (since : D → ℕ → List ℕ → Type 0) (old mid new last : D) (n m : ℕ) (same : n ≡ m)
    (quiet : IsQuiet reads images clock since old mid) (unused : WritesOnly reads images clock since mid new 0 n) where
  first : WritesOnly reads images clock since mid new 0 m
  first = subst (WritesOnly reads images clock since mid new 0) same unused

  pub unused_moment : LeavesOnly clock since old new (After (Torn 0 m) (images old))
  unused_moment = behind_reads clock since images old mid new m reads quiet first.any_moment

  pub header_moment : 16 ≤ m → WritesOnly reads images clock since new last 0 16 → LeavesOnly clock since old last (After (Torn 0 m) (images old))
  header_moment less header = behind_reads clock since images old mid last m reads quiet (over_first clock since images mid new last m 16 less first.any_moment first.crash header.any_moment)
