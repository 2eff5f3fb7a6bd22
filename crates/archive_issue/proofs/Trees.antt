-- A further tree changes no sequence of covers that came before.
use Rattle.std.proofs.Common.{◌≡◌, ℕ, ◌<◌, List, [], ◌∷◌, ◌++◌, length, refl, ap, ◌∙◌}
use Rattle.std.specs.Prelude.{if◌then◌else◌}
use Rattle.std.specs.List.{AllByRecursion}
use Rattle.std.proofs.lemmas.List.{get_or_append_left}
use Rattle.hash_kit.specs.Digest.{digest_of}
use Rattle.hash_tree.specs.Tree.{tree_path}
use Rattle.evidence_syntax.specs.Stamps.{Stamp}
use Rattle.std.specs.Prelude.{Some, None}
use Rattle.tree_renewal.specs.Lists.{lists_of}
use Rattle.archive_chain.specs.Kept.{Cover}
use Rattle.evidence_syntax.specs.DocumentValue.{values_after}
use Rattle.archive_chain.specs.Sequence.{name_of, Trees, path_of, stamp_of, with_stamp, in_last, with_cover, chains_after}

module _ (trees : Trees) (leaves : List (List ℕ)) where
  same_path : (c : Cover) → c.entry < length trees → path_of (trees ++ leaves ∷ []) c ≡ path_of trees c
  same_path c before = ap (λ (l : List (List ℕ)). tree_path c.alg l c.place) (get_or_append_left trees (leaves ∷ []) [] c.entry before)

  same_stamp : (c : Cover) (values : List (List ℕ)) → c.entry < length trees → stamp_of (trees ++ leaves ∷ []) c values ≡ stamp_of trees c values
  same_stamp c values before = ap (λ (p : List (List ℕ)). let made : Stamp = record { algorithm = Some (name_of c.alg); attributes = None; lists = lists_of values p; token = c.token } in made) (same_path c before)

  same_chain : (c : Cover) (chain : List Stamp) → c.entry < length trees → with_stamp (trees ++ leaves ∷ []) c chain ≡ with_stamp trees c chain
  same_chain c [] before = refl
  same_chain c (s ∷ []) before = ap (λ (t : Stamp). s ∷ t ∷ []) (same_stamp c (digest_of c.alg s.token ∷ []) before)
  same_chain c (s ∷ t ∷ chain) before = ap (λ (l : List Stamp). s ∷ l) (same_chain c (t ∷ chain) before)

  same_last : (c : Cover) (chains : List (List Stamp)) → c.entry < length trees → in_last (with_stamp (trees ++ leaves ∷ []) c) chains ≡ in_last (with_stamp trees c) chains
  same_last c [] before = refl
  same_last c (chain ∷ []) before = ap (λ (l : List Stamp). l ∷ []) (same_chain c chain before)
  same_last c (chain ∷ next ∷ chains) before = ap (λ (l : List (List Stamp)). chain ∷ l) (same_last c (next ∷ chains) before)

  same_cover : (d : List (List ℕ)) (chains : List (List Stamp)) (c : Cover) → c.entry < length trees → with_cover (trees ++ leaves ∷ []) d chains c ≡ with_cover trees d chains c
  same_cover d chains c before =
      let values = values_after c.alg chains d in
      ap (λ (s : Stamp). if c.begins then chains ++ (s ∷ []) ∷ [] else in_last (with_stamp (trees ++ leaves ∷ []) c) chains) (same_stamp c values before)
      ∙ ap (λ (l : List (List Stamp)). if c.begins then chains ++ (stamp_of trees c values ∷ []) ∷ [] else l) (same_last c chains before)

  pub same_sequence : (d : List (List ℕ)) (chains : List (List Stamp)) (covers : List Cover) → AllByRecursion (λ c. c.entry < length trees) covers
      → chains_after (trees ++ leaves ∷ []) d chains covers ≡ chains_after trees d chains covers
  same_sequence d chains [] before = refl
  same_sequence d chains (c ∷ covers) before =
      ap (λ (l : List (List Stamp)). chains_after (trees ++ leaves ∷ []) d l covers) (same_cover d chains c before.0)
      ∙ same_sequence d (with_cover trees d chains c) covers before.1
