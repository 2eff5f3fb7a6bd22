-- An entry that is told with zeros for its documents: the archive sees no difference.
use Rattle.std.proofs.Common.{◌≡◌, ℕ, ◌+◌, ◌≤◌, Bool, true, false, List, [], ◌∷◌, map, length, sum_by, refl, sym, ap, ◌∙◌, arith}
use Rattle.std.specs.List.{flat_map, AllByRecursion}
use Rattle.std.proofs.lemmas.List.{length-append, length-replicate, length-map}
use Rattle.std.proofs.lemmas.List.Sums.{sum_by-cons}
use Rattle.entry_codec.specs.declared.entry.Entry.{Entry}
use Rattle.entry_codec.specs.declared.entry.Entry.TheVariants.{Deposit, Seal, RenewStamps, RenewTrees, SetPolicy}
use Rattle.entry_codec.specs.Spelling.{number, counted, group_spelling, entry_spelling, IsEntry}
use Rattle.object_groups.specs.Groups.{IsGroup, bytes_in}
use Rattle.algorithm_policy.specs.Content.{Content}
use Rattle.token_check.specs.Sound.{Stamp as Says}
use Rattle.hash_kit.specs.declared.algorithm.HashAlg.{HashAlg}
use Rattle.archive_chain.specs.Kept.{Kept}
use Rattle.archive_chain.specs.Steps.{next}
use Rattle.archive_chain.specs.Rules.{shape_rule, LaterKeepsBut}
use Rattle.archive_chain.specs.Held.{Held, PolicyAfter, Takes}
use Rattle.archive_store.specs.Told.{blank_document, blank_group, entry_told}

-- ---- numbers stay

pub length_blank : (d : List ℕ) → length (blank_document d) ≡ length d
length_blank d = length-replicate (length d) 0

pub bytes_blank : (g : List (List ℕ)) → bytes_in (map blank_document g) ≡ bytes_in g
bytes_blank [] = refl
bytes_blank (d ∷ g) = omega (arith, sum_by-cons length (blank_document d) (map blank_document g), sum_by-cons length d g, length_blank d, bytes_blank g)

pub lengths_blank : (g : List (List ℕ)) → map length (map blank_document g) ≡ map length g
lengths_blank [] = refl
lengths_blank (d ∷ g) = ap (λ (n : ℕ). n ∷ map length (map blank_document g)) (length_blank d) ∙ ap (λ (l : List ℕ). length d ∷ l) (lengths_blank g)

abbrev blank_groups : List (List (List ℕ)) → List (List (List ℕ))
blank_groups groups = map blank_group groups

many_blank : (groups : List (List (List ℕ))) → sum_by length (blank_groups groups) ≡ sum_by length groups
many_blank [] = refl
many_blank (g ∷ groups) =
    omega (arith, sum_by-cons length (map blank_document g) (blank_groups groups), sum_by-cons length g groups, length-map g blank_document, many_blank groups)

sum_blank : (groups : List (List (List ℕ))) → sum_by bytes_in (blank_groups groups) ≡ sum_by bytes_in groups
sum_blank [] = refl
sum_blank (g ∷ groups) =
    omega (arith, sum_by-cons bytes_in (map blank_document g) (blank_groups groups), sum_by-cons bytes_in g groups, bytes_blank g, sum_blank groups)

-- ---- what an archive keeps

pub next_told : (tells : Bool) (k : Kept) (e : Entry) → next k (entry_told tells e) ≡ next k e
next_told true k e = refl
next_told false k (Deposit groups) =
    let put : ℕ → ℕ → ℕ → Kept = λ documents bytes many. record {
      entries = k.entries + 1;
      documents = k.documents + documents;
      bytes = k.bytes + bytes;
      sealed = k.sealed;
      pending = k.pending + many;
    } in
    ap (λ (n : ℕ). put n (sum_by bytes_in (blank_groups groups)) (length (blank_groups groups))) (many_blank groups)
    ∙ ap (λ (n : ℕ). put (sum_by length groups) n (length (blank_groups groups))) (sum_blank groups)
    ∙ ap (put (sum_by length groups) (sum_by bytes_in groups)) (length-map groups blank_group)
next_told false k (Seal alg count token) = refl
next_told false k (RenewStamps alg cohorts token) = refl
next_told false k (RenewTrees alg cohorts token) = refl
next_told false k (SetPolicy text) = refl

pub policy_told : (tells : Bool) (old : Content) (e : Entry) (new : Content) → PolicyAfter old e new → PolicyAfter old (entry_told tells e) new
policy_told true old e new is = is
policy_told false old (Deposit groups) new is = is
policy_told false old (Seal alg count token) new is = is
policy_told false old (RenewStamps alg cohorts token) new is = is
policy_told false old (RenewTrees alg cohorts token) new is = is
policy_told false old (SetPolicy text) new is = is

pub takes_told : (tells : Bool) (old : Held) (e : Entry) (leaves : List (List ℕ)) (new : Held) → Takes old e leaves new → Takes old (entry_told tells e) leaves new
takes_told tells old e leaves new takes = record {
  kept = takes.kept ∙ sym (next_told tells old.kept e);
  trees = takes.trees;
  policy = policy_told tells old.policy e new.policy takes.policy;
}

-- ---- the rules but Imprint

pub shape_told : (tells : Bool) (k : Kept) (e : Entry) → shape_rule k (entry_told tells e) ≡ shape_rule k e
shape_told true k e = refl
shape_told false k (Deposit groups) =
    rw (length-map groups blank_group, many_blank groups, sum_blank groups) refl
shape_told false k (Seal alg count token) = refl
shape_told false k (RenewStamps alg cohorts token) = refl
shape_told false k (RenewTrees alg cohorts token) = refl
shape_told false k (SetPolicy text) = refl

pub later_told : (P : Says → HashAlg → Type 0) (tells : Bool) (k : Kept) (policy : Content) (e : Entry) → LaterKeepsBut P k policy e → LaterKeepsBut P k policy (entry_told tells e)
later_told P true k policy e keeps = keeps
later_told P false k policy (Deposit groups) keeps = keeps
later_told P false k policy (Seal alg count token) keeps = keeps
later_told P false k policy (RenewStamps alg cohorts token) keeps = keeps
later_told P false k policy (RenewTrees alg cohorts token) keeps = keeps
later_told P false k policy (SetPolicy text) keeps = keeps

-- ---- its spelling

short_blank : (g : List (List ℕ)) → AllByRecursion (λ d. length d ≤ 1048576) g → AllByRecursion (λ d. length d ≤ 1048576) (map blank_document g)
short_blank [] short = short
short_blank (d ∷ g) short = (omega (arith, length_blank d, short.0), short_blank g short.1)

group_blank : (g : List (List ℕ)) → IsGroup g → IsGroup (map blank_document g)
group_blank g is = record {
  some = omega (arith, length-map g blank_document, is.some);
  few = omega (arith, length-map g blank_document, is.few);
  short = short_blank g is.short;
  together = omega (arith, bytes_blank g, is.together);
}

short_unblank : (g : List (List ℕ)) → AllByRecursion (λ d. length d ≤ 1048576) (map blank_document g) → AllByRecursion (λ d. length d ≤ 1048576) g
short_unblank [] short = short
short_unblank (d ∷ g) short = (omega (arith, length_blank d, short.0), short_unblank g short.1)

-- whether documents are a group hangs on their lengths alone
pub unblank : (g : List (List ℕ)) → IsGroup (blank_group g) → IsGroup g
unblank g is = record {
  some = omega (arith, length-map g blank_document, is.some);
  few = omega (arith, length-map g blank_document, is.few);
  short = short_unblank g is.short;
  together = omega (arith, bytes_blank g, is.together);
}

pub each_blank : (groups : List (List (List ℕ))) → AllByRecursion IsGroup groups → AllByRecursion IsGroup (blank_groups groups)
each_blank [] each = each
each_blank (g ∷ groups) each = (group_blank g each.0, each_blank groups each.1)

pub spelled_told : (tells : Bool) (e : Entry) → IsEntry e → IsEntry (entry_told tells e)
spelled_told true e is = is
spelled_told false (Deposit groups) is = record {
  some = omega (arith, length-map groups blank_group, is.some);
  few = omega (arith, length-map groups blank_group, is.few);
  each = each_blank groups is.each;
  together = omega (arith, sum_blank groups, is.together);
}
spelled_told false (Seal alg count token) is = is
spelled_told false (RenewStamps alg cohorts token) is = is
spelled_told false (RenewTrees alg cohorts token) is = is
spelled_told false (SetPolicy text) is = is

documents_text : (g : List (List ℕ)) → length (flat_map counted (map blank_document g)) ≡ length (flat_map counted g)
documents_text [] = refl
documents_text (d ∷ g) =
    omega (
      arith,
      length_blank d,
      documents_text g,
      length-append (counted (blank_document d)) (flat_map counted (map blank_document g)),
      length-append (counted d) (flat_map counted g),
      length-append (number (length d)) d,
      length-append (number (length (blank_document d))) (blank_document d),
    )

group_length : (g : List (List ℕ)) → length (group_spelling (map blank_document g)) ≡ length (group_spelling g)
group_length g = omega (
  arith,
  documents_text g,
  length-append (number (length (map blank_document g))) (flat_map counted (map blank_document g)),
  length-append (number (length g)) (flat_map counted g),
)

groups_length : (groups : List (List (List ℕ))) → length (flat_map group_spelling (blank_groups groups)) ≡ length (flat_map group_spelling groups)
groups_length [] = refl
groups_length (g ∷ groups) = omega (
  arith,
  group_length g,
  groups_length groups,
  length-append (group_spelling (map blank_document g)) (flat_map group_spelling (blank_groups groups)),
  length-append (group_spelling g) (flat_map group_spelling groups),
)

pub text_told : (tells : Bool) (e : Entry) → length (entry_spelling (entry_told tells e)) ≡ length (entry_spelling e)
text_told true e = refl
text_told false (Deposit groups) = omega (
  arith,
  groups_length groups,
  length-append (number (length (blank_groups groups))) (flat_map group_spelling (blank_groups groups)),
  length-append (number (length groups)) (flat_map group_spelling groups),
)
text_told false (Seal alg count token) = refl
text_told false (RenewStamps alg cohorts token) = refl
text_told false (RenewTrees alg cohorts token) = refl
text_told false (SetPolicy text) = refl
