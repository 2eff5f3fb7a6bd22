-- A group whose sequence stands keeps standing with each step that covers it.
use Rattle.std.proofs.Common.{◌≡◌, ℕ, ◌<◌, Bool, true, false, List, [], ◌∷◌, ◌++◌, length, refl, sym, ap, subst, ◌∙◌}
use Rattle.std.specs.Prelude.{slice_index_or, if◌then◌else◌}
use Rattle.std.specs.List.{AllByRecursion}
use Rattle.algorithm_policy.specs.Content.{Content}
use Rattle.hash_kit.specs.declared.algorithm.HashAlg.{HashAlg}
use Rattle.hash_kit.specs.Digest.{digest_of}
use Rattle.hash_kit.specs.Node.{node_of}
use Rattle.hash_tree.specs.Tree.{folded, tree_root, tree_path}
use Rattle.hash_tree.proofs.FoldLemmas.{each_folds}
use Rattle.token_check.specs.Sound.{Stamp as Says}
use Rattle.evidence_syntax.specs.Stamps.{Stamp}
use Rattle.civil_moment.specs.Moment.{is_before}
use Rattle.evidence_verify.specs.Stamps.{Checked}
use Rattle.tree_renewal.specs.Lists.{lists_of, LeadTo}
use Rattle.tree_renewal.proofs.Covering.{lists_lead}
use Rattle.archive_chain.specs.Kept.{Cover}
use Rattle.archive_chain.specs.Sequence.{Trees, stamp_of, with_stamp, in_last, with_cover, chains_after, sequence_of}
use Rattle.archive_issue.specs.Stands.{Stands}
use Rattle.archive_issue.proofs.Places.{in_last_end, further, with_stamp_end}
use Rattle.archive_issue.proofs.Trees.{same_sequence}
use Rattle.evidence_syntax.specs.DocumentValue.{values_after}
use Rattle.archive_issue.proofs.Growing.{Stamped, first_checked, further_checked, Ended, sealed, begun, added}

-- the sequence of covers with one more
sequence_more : (trees : Trees) → (documents : List (List ℕ)) (chains : List (List Stamp)) (covers : List Cover) (c : Cover) → chains_after trees documents chains (covers ++ c ∷ []) ≡ with_cover trees documents (chains_after trees documents chains covers) c
sequence_more trees documents chains [] c = refl
sequence_more trees documents chains (d ∷ covers) c = sequence_more trees documents (with_cover trees documents chains d) covers c

-- a leaf in the tree of a cover that is stamped: its values are led to the imprint
pub leads_from : (alg : HashAlg) (leaves values : List (List ℕ)) (place : ℕ) (imprint : List ℕ) → place < length leaves → 0 < length values → slice_index_or leaves place [] ≡ node_of alg values
    → imprint ≡ tree_root alg leaves → LeadTo alg imprint values (lists_of values (tree_path alg leaves place))
leads_from alg leaves values place imprint within some leaf root =
    let path = tree_path alg leaves place in
    subst (λ (r : List ℕ). LeadTo alg r values (lists_of values path))
    (ap (λ (x : List ℕ). folded alg x path) (sym leaf) ∙ each_folds alg leaves place within ∙ sym root)
    (lists_lead alg values path some)

-- the sequence of a group stands, and its last time-stamp is that of its last cover
pub record IsGood (trees : Trees) (policy : Content) (documents : List (List ℕ)) (covers : List Cover) : Type 0 where
  pub stamps : List Checked
  pub stands : Stands policy documents (sequence_of trees documents covers) stamps
  pub ended : Ended (sequence_of trees documents covers) stamps
  pub init : List Cover
  pub last : Cover
  pub covers_are : covers ≡ init ++ last ∷ []
  pub token_is : ended.ats.token ≡ last.token
  pub alg_is : ended.last.says.alg ≡ last.alg

-- the first time-stamp of a group
pub good_first : (trees : Trees) → (policy : Content) (documents : List (List ℕ)) (c : Cover) (says : Says) → c.begins ≡ true → Stamped trees policy c (values_after c.alg [] documents) says → IsGood trees policy documents (c ∷ [])
good_first trees policy documents c says begins stamped =
    let ats = stamp_of trees c (values_after c.alg [] documents) in
    let checked : Checked = first_checked trees c documents [] says in
    let chains : sequence_of trees documents (c ∷ []) ≡ (ats ∷ []) ∷ [] = ap (λ (b : Bool). if b then (ats ∷ []) ∷ [] else []) begins in record {
      stamps = checked ∷ [];
      stands = subst (λ (cs : List (List Stamp)). Stands policy documents cs (checked ∷ [])) (sym chains) (sealed trees policy c documents says stamped);
      ended = record { front = []; init = []; ats = ats; before = []; last = checked; chains_are = chains; stamps_are = refl; last_is = refl };
      init = [];
      last = c;
      covers_are = refl;
      token_is = refl;
      alg_is = stamped.alg;
    }

-- a new chain
pub good_begun : (trees : Trees) → (policy : Content) (documents : List (List ℕ)) (covers : List Cover) (c : Cover) (says : Says) → (good : IsGood trees policy documents covers) → c.begins ≡ true
    → Stamped trees policy c (values_after c.alg (sequence_of trees documents covers) documents) says → is_before says.time good.ended.last.says.time ≡ false
    → IsGood trees policy documents (covers ++ c ∷ [])
good_begun trees policy documents covers c says good begins stamped late =
    let chains = sequence_of trees documents covers in
    let ats = stamp_of trees c (values_after c.alg chains documents) in
    let checked : Checked = first_checked trees c documents chains says in
    let new : sequence_of trees documents (covers ++ c ∷ []) ≡ chains ++ (ats ∷ []) ∷ [] =
    sequence_more trees documents [] covers c ∙ ap (λ (b : Bool). if b then chains ++ (ats ∷ []) ∷ [] else in_last (with_stamp trees c) chains) begins in record {
      stamps = good.stamps ++ checked ∷ [];
      stands = subst (λ (cs : List (List Stamp)). Stands policy documents cs (good.stamps ++ checked ∷ [])) (sym new) (begun trees policy c documents chains good.stamps says good.stands good.ended stamped late);
      ended = record { front = chains; init = []; ats = ats; before = good.stamps; last = checked; chains_are = new; stamps_are = refl; last_is = refl };
      init = covers;
      last = c;
      covers_are = refl;
      token_is = refl;
      alg_is = stamped.alg;
    }

-- a further time-stamp in the last chain
pub good_added : (trees : Trees) → (policy : Content) (documents : List (List ℕ)) (covers : List Cover) (c : Cover) (says : Says) → (good : IsGood trees policy documents covers) → c.begins ≡ false
    → Stamped trees policy c (digest_of c.alg good.last.token ∷ []) says → is_before says.time good.ended.last.says.time ≡ false → c.alg ≡ good.last.alg
    → IsGood trees policy documents (covers ++ c ∷ [])
good_added trees policy documents covers c says good begins stamped late same_hash =
    let chains = sequence_of trees documents covers in
    let ended = good.ended in
    let chain : List Stamp = ended.init ++ ended.ats ∷ [] in
    let ats = further trees c ended.ats in
    let checked : Checked = further_checked trees c ended.front (length chain) ended.ats says in
    let stamped_here : Stamped trees policy c (digest_of c.alg ended.ats.token ∷ []) says =
    subst (λ (t : List ℕ). Stamped trees policy c (digest_of c.alg t ∷ []) says) (sym good.token_is) stamped in
    let new : sequence_of trees documents (covers ++ c ∷ []) ≡ ended.front ++ (chain ++ ats ∷ []) ∷ [] =
    sequence_more trees documents [] covers c
    ∙ ap (λ (b : Bool). if b then chains ++ (stamp_of trees c (values_after c.alg chains documents) ∷ []) ∷ [] else in_last (with_stamp trees c) chains) begins
    ∙ ap (in_last (with_stamp trees c)) ended.chains_are ∙ in_last_end (with_stamp trees c) ended.front chain
    ∙ ap (λ (l : List Stamp). ended.front ++ l ∷ []) (with_stamp_end trees c ended.init ended.ats) in record {
      stamps = good.stamps ++ checked ∷ [];
      stands = subst (λ (cs : List (List Stamp)). Stands policy documents cs (good.stamps ++ checked ∷ [])) (sym new)
          (added trees policy c documents chains good.stamps says good.stands ended stamped_here late (stamped.alg ∙ same_hash ∙ sym good.alg_is));
      ended = record { front = ended.front; init = chain; ats = ats; before = good.stamps; last = checked; chains_are = new; stamps_are = refl; last_is = refl };
      init = covers;
      last = c;
      covers_are = refl;
      token_is = refl;
      alg_is = stamped.alg;
    }

-- a further tree changes nothing
pub good_grows : (trees : Trees) (leaves : List (List ℕ)) (policy : Content) (documents : List (List ℕ)) (covers : List Cover) → AllByRecursion (λ c. c.entry < length trees) covers
    → IsGood trees policy documents covers → IsGood (trees ++ leaves ∷ []) policy documents covers
good_grows trees leaves policy documents covers before good =
    let same : sequence_of (trees ++ leaves ∷ []) documents covers ≡ sequence_of trees documents covers = same_sequence trees leaves documents [] covers before in
    let ended = good.ended in record {
      stamps = good.stamps;
      stands = subst (λ (cs : List (List Stamp)). Stands policy documents cs good.stamps) (sym same) good.stands;
      ended = record { front = ended.front; init = ended.init; ats = ended.ats; before = ended.before; last = ended.last; chains_are = same ∙ ended.chains_are; stamps_are = ended.stamps_are; last_is = ended.last_is };
      init = good.init;
      last = good.last;
      covers_are = good.covers_are;
      token_is = good.token_is;
      alg_is = good.alg_is;
    }
