-- Limits, document by document.
use Rattle.std.proofs.Common.{rules, ◌≡◌, ℕ, zero, suc, ◌+◌, ◌≤◌, Bool, true, false, List, [], ◌∷◌, length, Option, Some, None, is_some, refl, ap, ◌∙◌, arith, if◌then◌else◌}
use Rattle.std.specs.Prelude.{nat_lt, ◌==◌}
use Rattle.std.specs.List.{AllByRecursion}
use Rattle.std.specs.Option.{option_map}
use Rattle.std.proofs.lemmas.Bool.{ltb-false, eqb-false, le-ltb, ne_eqb}
use Rattle.object_groups.specs.Groups.{most_documents, longest_document, most_bytes, bytes_in, IsGroup, first_long, or_later, fault_of}
use Rattle.object_groups.specs.declared.fault.GroupFault.{GroupFault}
use Rattle.object_groups.specs.declared.fault.GroupFault.TheVariants.{NoDocuments, TooMany, TooLong}

-- a place behind so many documents
abbrev pub shifted : ℕ → Option ℕ → Option ℕ
shifted n None = None
shifted n (Some place) = Some (n + place)

pub shifted_more : (n : ℕ) (o : Option ℕ) → shifted n (option_map suc o) ≡ shifted (n + 1) o
shifted_more n None = refl
shifted_more n (Some place) = ap (λ (k : ℕ). Some k) (omega arith)

-- ---- documents that pass no limit are a group

some_none : {A : Type 0} {x : A} → Some x ≡ None → ⊥
some_none e = absurd_true (ap is_some e)
  where
    absurd_true : true ≡ false → ⊥
    absurd_true e = grind (rules, e)

passes_none : {A : Type 0} (b : Bool) (x : A) (later : Option A) → (if b then Some x else later) ≡ None → (b ≡ false) × (later ≡ None)
passes_none true x later none = absurd (some_none none)
passes_none false x later none = (refl, none)

none_long : (o : Option ℕ) (later : Option GroupFault) → or_later o later ≡ None → (o ≡ None) × (later ≡ None)
none_long None later none = (refl, none)
none_long (Some place) later none = absurd (some_none none)

none_after : (o : Option ℕ) → option_map suc o ≡ None → o ≡ None
none_after None none = refl
none_after (Some place) none = absurd (some_none none)

all_short : (documents : List (List ℕ)) → first_long documents ≡ None → AllByRecursion (λ d. length d ≤ longest_document) documents
all_short [] none = tt
all_short (d ∷ documents) none =
    let parts = passes_none (nat_lt longest_document (length d)) 0 (option_map suc (first_long documents)) none in
    (ltb-false longest_document (length d) parts.0, all_short documents (none_after (first_long documents) parts.1))

pub none_is_group : (documents : List (List ℕ)) → fault_of documents ≡ None → IsGroup documents
none_is_group documents none =
    let one = passes_none (length documents == 0) NoDocuments _ none in
    let two = passes_none (nat_lt most_documents (length documents)) (TooMany (length documents)) _ one.1 in
    let three = none_long (first_long documents) _ two.1 in
    let four = passes_none (nat_lt most_bytes (bytes_in documents)) (TooLong (bytes_in documents)) None three.1 in
    let some : length documents ≡ 0 → ⊥ = eqb-false (length documents) 0 one.0 in record {
      some = positive (length documents) some;
      few = ltb-false most_documents (length documents) two.0;
      short = all_short documents three.0;
      together = ltb-false most_bytes (bytes_in documents) four.0;
    }
  where
    positive : (n : ℕ) → (n ≡ 0 → ⊥) → 1 ≤ n
    positive zero ne = absurd (ne refl)
    positive (suc n) ne = omega arith

-- ---- a group passes no limit

no_long : (documents : List (List ℕ)) → AllByRecursion (λ d. length d ≤ longest_document) documents → first_long documents ≡ None
no_long [] short = refl
no_long (d ∷ documents) short =
    ap (λ (b : Bool). if b then Some 0 else option_map suc (first_long documents)) (le-ltb longest_document (length d) short.0)
    ∙ ap (option_map suc) (no_long documents short.1)

-- what is tried after the first limit, and after the second
abbrev last : List (List ℕ) → Option ℕ → Option GroupFault
last ds o = or_later o (if nat_lt most_bytes (bytes_in ds) then Some (TooLong (bytes_in ds)) else None)

abbrev later : List (List ℕ) → Option GroupFault
later ds = if nat_lt most_documents (length ds) then Some (TooMany (length ds)) else last ds (first_long ds)

pub group_is_none : (documents : List (List ℕ)) → IsGroup documents → fault_of documents ≡ None
group_is_none documents is =
    let some : length documents ≡ 0 → ⊥ = λ e. not_none (length documents) is.some e in
    ap (λ (b : Bool). if b then Some NoDocuments else later documents) (ne_eqb (length documents) 0 some)
    ∙ ap (λ (b : Bool). if b then Some (TooMany (length documents)) else last documents (first_long documents)) (le-ltb most_documents (length documents) is.few)
    ∙ ap (last documents) (no_long documents is.short)
    ∙ ap (λ (b : Bool). if b then Some (TooLong (bytes_in documents)) else None) (le-ltb most_bytes (bytes_in documents) is.together)
  where
    not_none : (n : ℕ) → 1 ≤ n → n ≡ 0 → ⊥
    not_none n le e = omega (arith, le, e)
