-- What stands, stands with one time-stamp more.
use Rattle.std.proofs.Common.{◌≡◌, ℕ, suc, Bool, false, List, [], ◌∷◌, ◌++◌, length, map, Some, refl, sym, ap, subst, ◌∙◌, arith}
use Rattle.std.specs.Prelude.{◌==◌, if◌then◌else◌}
use Rattle.std.specs.List.{AllByRecursion}
use Rattle.std.proofs.lemmas.Bool.{ne_eqb}
use Rattle.std.proofs.lemmas.List.{map-append, length-append}
use Rattle.algorithm_policy.specs.Content.{Content}
use Rattle.hash_kit.specs.Digest.{digest_of}
use Rattle.token_check.specs.Sound.{Stamp as Says, Sound}
use Rattle.evidence_syntax.specs.Stamps.{Stamp}
use Rattle.civil_moment.specs.Moment.{is_before}
use Rattle.evidence_verify.specs.Stamps.{Place, places_of, Checked, IsSound}
use Rattle.evidence_verify.specs.Values.{owed_values, owed_by}
use Rattle.evidence_verify.specs.Covers.{CoversBy}
use Rattle.evidence_verify.specs.Holds.{EachNext, NamesHash, KeepsHash, KeepsOrder, IsCovered}
use Rattle.tree_renewal.specs.Lists.{lists_of, LeadTo}
use Rattle.archive_chain.specs.Kept.{Cover}
use Rattle.archive_chain.specs.Sequence.{Trees, path_of, stamp_of}
use Rattle.archive_issue.specs.Stands.{Stands}
use Rattle.archive_issue.proofs.Ends.{each_end, next_end, token_after, token_end, owed_at, owed_end}
use Rattle.archive_issue.proofs.Places.{place_at, places_new, places_further, further}
use Rattle.evidence_syntax.specs.DocumentValue.{document_value, values_after}
use Rattle.archive_issue.proofs.Covering.{covered_each, is_known}

abbrev places_in_order : List Checked → List Place
places_in_order cs = map (λ (c : Checked). c.place) cs

pub one_more : (policy : Content) (documents : List (List ℕ)) (chains new : List (List Stamp)) (stamps : List Checked) (c : Checked) → Stands policy documents chains stamps
    → places_of new ≡ places_of chains ++ c.place ∷ [] → IsSound policy c → NamesHash c
    → EachNext KeepsHash (stamps ++ c ∷ []) → EachNext KeepsOrder (stamps ++ c ∷ [])
    → IsCovered (owed_at documents (token_after [] stamps) c) → Stands policy documents new (stamps ++ c ∷ [])
one_more policy documents chains new stamps c stands places sound named one_hash in_order covered = record {
  sound = record {
    in_place = map-append (λ (d : Checked). d.place) stamps (c ∷ []) ∙ ap (λ (l : List Place). l ++ c.place ∷ []) stands.sound.in_place ∙ sym places;
    sound = each_end (IsSound policy) stamps c stands.sound.sound sound;
  };
  named = each_end NamesHash stamps c stands.named named;
  one_hash = one_hash;
  in_order = in_order;
  covered = subst (AllByRecursion IsCovered) (sym (owed_end documents [] stamps c))
      (each_end IsCovered (owed_by documents stamps) (owed_at documents (token_after [] stamps) c) stands.covered covered);
}

-- what a token says, by which a cover is stamped
pub record Stamped (trees : Trees) (policy : Content) (c : Cover) (values : List (List ℕ)) (says : Says) : Type 0 where
  pub sound : Sound policy c.token says
  pub alg : says.alg ≡ c.alg
  pub leads : LeadTo c.alg says.imprint values (lists_of values (path_of trees c))

abbrev pub first_checked : (trees : Trees) → Cover → List (List ℕ) → List (List Stamp) → Says → Checked
first_checked trees c documents chains says = record { place = place_at chains 0 (stamp_of trees c (values_after c.alg chains documents)); says = says }

-- its values are covered
covers_first : (trees : Trees) → (policy : Content) (c : Cover) (documents : List (List ℕ)) (chains : List (List Stamp)) (before : List ℕ) (says : Says)
    → Stamped trees policy c (values_after c.alg chains documents) says → IsCovered (owed_at documents before (first_checked trees c documents chains says))
unfolding owed_values
covers_first trees policy c documents chains before says stamped =
    let values = values_after c.alg chains documents in
    let covered : AllByRecursion (CoversBy says.alg says.imprint (lists_of values (path_of trees c))) values =
    subst (λ alg. AllByRecursion (CoversBy alg says.imprint (lists_of values (path_of trees c))) values) (sym stamped.alg) (covered_each c.alg says.imprint values (lists_of values (path_of trees c)) stamped.leads) in
    let same : values ≡ map (document_value says.alg chains) documents =
    ap (λ alg. map (document_value alg chains) documents) (sym stamped.alg) in
    subst (AllByRecursion (CoversBy says.alg says.imprint (lists_of values (path_of trees c)))) same covered

-- ---- a first time-stamp

named_first : (trees : Trees) → (policy : Content) (c : Cover) (values : List (List ℕ)) (older : List (List Stamp)) (number : ℕ) (says : Says) → says.alg ≡ c.alg
    → NamesHash (record { place = place_at older number (stamp_of trees c values); says = says })
named_first trees policy c values older number says same = is_known c.alg ∙ ap Some (sym same)

pub sealed : (trees : Trees) → (policy : Content) (c : Cover) (documents : List (List ℕ)) (says : Says) → Stamped trees policy c (values_after c.alg [] documents) says
    → Stands policy documents ((stamp_of trees c (values_after c.alg [] documents) ∷ []) ∷ []) (first_checked trees c documents [] says ∷ [])
sealed trees policy c documents says stamped =
    let none : Stands policy documents [] [] = record { sound = record { in_place = refl; sound = tt }; named = tt; one_hash = tt; in_order = tt; covered = tt } in
    one_more policy documents [] ((stamp_of trees c (values_after c.alg [] documents) ∷ []) ∷ []) [] (first_checked trees c documents [] says) none
    (places_new [] (stamp_of trees c (values_after c.alg [] documents))) stamped.sound
    (named_first trees policy c (values_after c.alg [] documents) [] 0 says stamped.alg) tt tt
    (covers_first trees policy c documents [] [] says stamped)

-- ---- a further time-stamp

-- the last chain and its last time-stamp, and what it says
pub record Ended (chains : List (List Stamp)) (stamps : List Checked) : Type 0 where
  pub front : List (List Stamp)
  pub init : List Stamp
  pub ats : Stamp
  pub before : List Checked
  pub last : Checked
  pub chains_are : chains ≡ front ++ (init ++ ats ∷ []) ∷ []
  pub stamps_are : stamps ≡ before ++ last ∷ []
  pub last_is : last.place ≡ place_at front (length init) ats

next_ended : (R : Checked → Checked → Type 0) (chains : List (List Stamp)) (stamps : List Checked) (c : Checked) (ended : Ended chains stamps) → EachNext R stamps → R ended.last c → EachNext R (stamps ++ c ∷ [])
next_ended R chains stamps c ended h r =
    subst (λ (l : List Checked). EachNext R (l ++ c ∷ [])) (sym ended.stamps_are)
    (next_end R ended.before ended.last c (subst (EachNext R) ended.stamps_are h) r)

token_ended : (chains : List (List Stamp)) (stamps : List Checked) (ended : Ended chains stamps) → token_after [] stamps ≡ ended.ats.token
token_ended chains stamps ended =
    ap (token_after []) ended.stamps_are ∙ token_end [] ended.before ended.last ∙ ap (λ (p : Place). p.ats.token) ended.last_is

-- a new chain after those that stand
pub begun : (trees : Trees) → (policy : Content) (c : Cover) (documents : List (List ℕ)) (chains : List (List Stamp)) (stamps : List Checked) (says : Says)
    → Stands policy documents chains stamps → (ended : Ended chains stamps) → Stamped trees policy c (values_after c.alg chains documents) says
    → is_before says.time ended.last.says.time ≡ false
    → Stands policy documents (chains ++ (stamp_of trees c (values_after c.alg chains documents) ∷ []) ∷ []) (stamps ++ first_checked trees c documents chains says ∷ [])
begun trees policy c documents chains stamps says stands ended stamped late =
    let ats = stamp_of trees c (values_after c.alg chains documents) in
    let new : Checked = first_checked trees c documents chains says in
    one_more policy documents chains (chains ++ (ats ∷ []) ∷ []) stamps new stands (places_new chains ats) stamped.sound
    (named_first trees policy c (values_after c.alg chains documents) chains 0 says stamped.alg)
    (next_ended KeepsHash chains stamps new ended stands.one_hash (λ later. absurd (later refl)))
    (next_ended KeepsOrder chains stamps new ended stands.in_order late)
    (covers_first trees policy c documents chains (token_after [] stamps) says stamped)

abbrev pub further_checked : (trees : Trees) → Cover → List (List Stamp) → ℕ → Stamp → Says → Checked
further_checked trees c front number ats says = record { place = place_at front number (further trees c ats); says = says }

covers_further : (trees : Trees) → (policy : Content) (c : Cover) (documents : List (List ℕ)) (front : List (List Stamp)) (number : ℕ) (ats : Stamp) (before : List ℕ) (says : Says)
    → Stamped trees policy c (digest_of c.alg ats.token ∷ []) says → before ≡ ats.token → IsCovered (owed_at documents before (further_checked trees c front (suc number) ats says))
unfolding owed_values
covers_further trees policy c documents front number ats before says stamped same =
    let values : List (List ℕ) = digest_of c.alg ats.token ∷ [] in
    let lists = lists_of values (path_of trees c) in
    let covered : AllByRecursion (CoversBy says.alg says.imprint lists) values =
    subst (λ alg. AllByRecursion (CoversBy alg says.imprint lists) values) (sym stamped.alg) (covered_each c.alg says.imprint values lists stamped.leads) in
    let one : values ≡ digest_of says.alg before ∷ [] =
    ap (λ alg. digest_of alg ats.token ∷ []) (sym stamped.alg) ∙ ap (λ (t : List ℕ). digest_of says.alg t ∷ []) (sym same) in
    let later : (suc number == 0) ≡ false = ne_eqb (suc number) 0 (λ e. omega (arith, e)) in
    subst (λ (b : Bool). AllByRecursion (CoversBy says.alg says.imprint lists) (if b then map (document_value says.alg front) documents else digest_of says.alg before ∷ [])) (sym later)
    (subst (AllByRecursion (CoversBy says.alg says.imprint lists)) one covered)

-- a further time-stamp in the last chain
pub added : (trees : Trees) → (policy : Content) (c : Cover) (documents : List (List ℕ)) (chains : List (List Stamp)) (stamps : List Checked) (says : Says)
    → Stands policy documents chains stamps → (ended : Ended chains stamps) → Stamped trees policy c (digest_of c.alg ended.ats.token ∷ []) says
    → is_before says.time ended.last.says.time ≡ false → says.alg ≡ ended.last.says.alg
    → Stands policy documents (ended.front ++ ((ended.init ++ ended.ats ∷ []) ++ further trees c ended.ats ∷ []) ∷ [])
    (stamps ++ further_checked trees c ended.front (length (ended.init ++ ended.ats ∷ [])) ended.ats says ∷ [])
added trees policy c documents chains stamps says stands ended stamped late same_hash =
    let chain : List Stamp = ended.init ++ ended.ats ∷ [] in
    let number : ℕ = length ended.init in
    let long : length chain ≡ suc number = omega (arith, length-append ended.init (ended.ats ∷ [])) in
    let new : Checked = further_checked trees c ended.front (length chain) ended.ats says in
    one_more policy documents chains (ended.front ++ (chain ++ further trees c ended.ats ∷ []) ∷ []) stamps new stands
    (places_further ended.front chain (further trees c ended.ats) ∙ ap (λ (l : List (List Stamp)). places_of l ++ new.place ∷ []) (sym ended.chains_are)) stamped.sound
    (named_first trees policy c (digest_of c.alg ended.ats.token ∷ []) ended.front (length chain) says stamped.alg)
    (next_ended KeepsHash chains stamps new ended stands.one_hash (λ later. same_hash))
    (next_ended KeepsOrder chains stamps new ended stands.in_order late)
    (subst (λ (n : ℕ). IsCovered (owed_at documents (token_after [] stamps) (further_checked trees c ended.front n ended.ats says))) (sym long)
    (covers_further trees policy c documents ended.front number ended.ats (token_after [] stamps) says stamped (token_ended chains stamps ended)))
