-- What is known of a record that was read.
use Rattle.std.proofs.Common.{◌≡◌, ℕ, ◌+◌, ◌<◌, ◌≤◌, ◌^◌, List, [], ◌∷◌, length, Option, Some, None, refl, subst, arith}
use Rattle.std.specs.Prelude.{◌≢◌, IfSome}
use Rattle.std.specs.List.{AllByRecursion}
use Rattle.std.proofs.lemmas.List.Sums.{sum_by-cons}
use Rattle.reduced_tree.specs.Reduced.{AreFull}
use Rattle.evidence_syntax.specs.Stamps.{Stamp}
use Rattle.evidence_syntax.specs.Record.{EvidenceRecord, Spells}
use Rattle.evidence_syntax.specs.Valid as valid
use Rattle.evidence_syntax.proofs.ValidParts.{record_is}
use Rattle.evidence_syntax.proofs.Written.{chains_fit}
use Rattle.evidence_verify.specs.InsideChains.{IsTree, HasTree, IsReadable, WereRead}

some_items : {A : Type 0} (xs : List A) → xs ≢ [] → 0 < length xs
some_items [] ne = absurd (ne refl)
some_items (x ∷ xs) ne = omega arith

all_along : {A : Type 0} (P Q : A → Type 0) → ((x : A) → P x → Q x) → (xs : List A) → AllByRecursion P xs → AllByRecursion Q xs
all_along P Q f [] h = tt
all_along P Q f (x ∷ xs) h = (f x h.0, all_along P Q f xs h.1)

full : (lists : List (List (List ℕ))) → AllByRecursion valid.IsList lists → AreFull lists
full lists h = all_along valid.IsList (λ list. 0 < length list) (λ list is. some_items list is.some) lists h

tree_is : (tree : Option (List (List (List ℕ)))) → IfSome tree valid.IsTree → IsTree tree
tree_is None is = λ lists e. cc
tree_is (Some t) is = λ lists e. subst (λ (o : Option (List (List (List ℕ)))). IfSome o (λ l. (0 < length l) × AreFull l)) e (some_items t is.some, full t is.each)

-- ---- how many there are

counts : (c : List Stamp) (chains : List (List Stamp)) → valid.stamps_in (c ∷ chains) ≡ length c + valid.stamps_in chains
counts c chains = sum_by-cons length c chains

no_more : (chains : List (List Stamp)) → AllByRecursion valid.IsChain chains → length chains ≤ valid.stamps_in chains
no_more [] h = omega arith
no_more (c ∷ chains) h = omega (arith, counts c chains, some_items c h.0.some, no_more chains h.1)

each_readable : (most : ℕ) (chains : List (List Stamp)) → most < 2 ^ 32 → AllByRecursion valid.IsChain chains → valid.stamps_in chains ≤ most → AllByRecursion IsReadable chains
each_readable most [] fits h few = tt
each_readable most (c ∷ chains) fits h few =
    (record { few = omega (arith, counts c chains, few, fits); trees = all_along valid.IsStamp HasTree (λ s is. tree_is s.lists is.lists) c h.0.each }, each_readable most chains fits h.1 (omega (arith, counts c chains, few)))

pub were_read : (bytes : List ℕ) (r : EvidenceRecord) → Spells bytes r → WereRead r.chains
were_read bytes r s =
    let is = (record_is bytes r s).sequence in record {
      short = λ n. chains_fit bytes r n s;
      few = omega (arith, no_more r.chains is.each, is.few);
      each = each_readable 200 r.chains (omega arith) is.each is.few;
    }
