-- What the tokens of a group's covers say, each in its place, and the marks of these.
use Rattle.std.proofs.Common.{◌≡◌, ℕ, ◌+◌, Bool, true, false, List, [], ◌∷◌, ◌++◌, length, refl, sym, ap, subst, ◌∙◌, arith, append_assoc, append-nil}
use Rattle.std.specs.Prelude.{if◌then◌else◌}
use Rattle.std.proofs.lemmas.List.{length-append, map-append}
use Rattle.algorithm_policy.specs.Content.{Content}
use Rattle.evidence_syntax.specs.Stamps.{Stamp}
use Rattle.evidence_syntax.specs.DocumentValue.{values_after}
use Rattle.evidence_verify.specs.Stamps.{Place, places_of, Checked, IsSound, AreSound}
use Rattle.evidence_verify.specs.Marks.{Mark}
use Rattle.evidence_verify.specs.Lapse.{mark_of, marks_of}
use Rattle.archive_chain.specs.Kept.{Cover}
use Rattle.archive_chain.specs.Sequence.{Trees, stamp_of, with_stamp, in_last, with_cover, chains_after, sequence_of}
use Rattle.archive_chain.specs.Coverings.{IsCovering, AreCoverings}
use Rattle.archive_chain.specs.declared.coverings.Covering.{Covering}
use Rattle.archive_issue.specs.InsideMarks.{chain_after, stamp_after, mark_at, marks_after, marks_by}
use Rattle.archive_issue.proofs.Ends.{each_end}
use Rattle.archive_issue.proofs.Places.{place_at, places_new, places_further, in_last_end, further, with_stamp_end}
use Rattle.archive_issue.proofs.AllGroups.{by_test}
use Rattle.archive_issue.proofs.Beginning.{Begins}

sound_more : (policy : Content) (chains new : List (List Stamp)) (stamps : List Checked) (c : Checked) → AreSound policy (places_of chains) stamps
    → places_of new ≡ places_of chains ++ c.place ∷ [] → IsSound policy c → AreSound policy (places_of new) (stamps ++ c ∷ [])
sound_more policy chains new stamps c are places sound = record {
  in_place = map-append (λ (d : Checked). d.place) stamps (c ∷ []) ∙ ap (λ (l : List Place). l ++ c.place ∷ []) are.in_place ∙ sym places;
  sound = each_end (IsSound policy) stamps c are.sound sound;
}

-- what the tokens of these chains say, and the place of the last of them
record SoFar (policy : Content) (chains : List (List Stamp)) (stamps : List Checked) (chain number : ℕ) : Type 0 where
  pub sound : AreSound policy (places_of chains) stamps
  pub front : List (List Stamp)
  pub init : List Stamp
  pub ats : Stamp
  pub chains_are : chains ≡ front ++ (init ++ ats ∷ []) ∷ []
  pub chain_is : length front ≡ chain
  pub number_is : length init ≡ number

-- what the token of one more says, and its mark
record Further (policy : Content) (new : List (List Stamp)) (stamps : List Checked) (chain number : ℕ) (covering : Covering) : Type 0 where
  pub checked : Checked
  pub so_far : SoFar policy new (stamps ++ checked ∷ []) (chain_after chain covering.begins) (stamp_after number covering.begins)
  pub mark : mark_of checked ≡ mark_at (chain_after chain covering.begins) (stamp_after number covering.begins) covering

-- what the tokens of these say, and their marks
record AreSaid (policy : Content) (new : List (List Stamp)) (stamps : List Checked) (marks : List Mark) : Type 0 where
  pub more : List Checked
  pub sound : AreSound policy (places_of new) (stamps ++ more)
  pub marks_are : marks_of more ≡ marks

module _ (policy : Content) (trees : Trees) (documents : List (List ℕ)) where
  -- it begins a chain
  begun : (chains : List (List Stamp)) (stamps : List Checked) (chain number : ℕ) (c : Cover) (covering : Covering) → SoFar policy chains stamps chain number → IsCovering policy c covering
      → c.begins ≡ true → Further policy (with_cover trees documents chains c) stamps chain number covering
  begun chains stamps chain number c covering so_far is begins =
      let ats = stamp_of trees c (values_after c.alg chains documents) in
      let new : Checked = record { place = place_at chains 0 ats; says = is.says } in
      let made : with_cover trees documents chains c ≡ chains ++ (ats ∷ []) ∷ [] = ap (λ (b : Bool). if b then chains ++ (ats ∷ []) ∷ [] else in_last (with_stamp trees c) chains) begins in
      let told : covering.begins ≡ true = is.begins_is ∙ begins in
      let last : List (List Stamp) = (so_far.init ++ so_far.ats ∷ []) ∷ [] in
      let front = so_far.chain_is in
      let many : length chains ≡ chain + 1 = omega (arith, ap (λ (l : List (List Stamp)). length l) so_far.chains_are, length-append so_far.front last, front) in
      let at_chain : length chains ≡ chain_after chain covering.begins = many ∙ sym (ap (λ (b : Bool). if b then chain + 1 else chain) told) in
      let at_number : 0 ≡ stamp_after number covering.begins = sym (ap (λ (b : Bool). if b then 0 else number + 1) told) in
      record {
        checked = new;
        so_far = record {
          sound = sound_more policy chains (with_cover trees documents chains c) stamps new so_far.sound (ap places_of made ∙ places_new chains ats) is.sound;
          front = chains;
          init = [];
          ats = ats;
          chains_are = made;
          chain_is = at_chain;
          number_is = at_number;
        };
        mark = (λ i. record { chain = at_chain i; stamp = at_number i; alg = is.hash_is i; time = is.time_is i; sid = is.sid_is i });
      }

  -- it goes on with the last
  added : (chains : List (List Stamp)) (stamps : List Checked) (chain number : ℕ) (c : Cover) (covering : Covering) → SoFar policy chains stamps chain number → IsCovering policy c covering
      → c.begins ≡ false → Further policy (with_cover trees documents chains c) stamps chain number covering
  added chains stamps chain number c covering so_far is begins =
      let old : List Stamp = so_far.init ++ so_far.ats ∷ [] in
      let ats = further trees c so_far.ats in
      let new : Checked = record { place = place_at so_far.front (length old) ats; says = is.says } in
      let first : List (List Stamp) = chains ++ (stamp_of trees c (values_after c.alg chains documents) ∷ []) ∷ [] in
      let made : with_cover trees documents chains c ≡ so_far.front ++ (old ++ ats ∷ []) ∷ [] =
      ap (λ (b : Bool). if b then first else in_last (with_stamp trees c) chains) begins
      ∙ ap (in_last (with_stamp trees c)) so_far.chains_are ∙ in_last_end (with_stamp trees c) so_far.front old
      ∙ ap (λ (l : List Stamp). so_far.front ++ l ∷ []) (with_stamp_end trees c so_far.init so_far.ats) in
      let told : covering.begins ≡ false = is.begins_is ∙ begins in
      let numbered = so_far.number_is in
      let many : length old ≡ number + 1 = omega (arith, length-append so_far.init (so_far.ats ∷ []), numbered) in
      let at_chain : length so_far.front ≡ chain_after chain covering.begins = so_far.chain_is ∙ sym (ap (λ (b : Bool). if b then chain + 1 else chain) told) in
      let at_number : length old ≡ stamp_after number covering.begins = many ∙ sym (ap (λ (b : Bool). if b then 0 else number + 1) told) in
      record {
        checked = new;
        so_far = record {
          sound = sound_more policy chains (with_cover trees documents chains c) stamps new so_far.sound
              (ap places_of made ∙ places_further so_far.front old ats ∙ ap (λ (l : List (List Stamp)). places_of l ++ new.place ∷ []) (sym so_far.chains_are)) is.sound;
          front = so_far.front;
          init = old;
          ats = ats;
          chains_are = made;
          chain_is = at_chain;
          number_is = at_number;
        };
        mark = (λ i. record { chain = at_chain i; stamp = at_number i; alg = is.hash_is i; time = is.time_is i; sid = is.sid_is i });
      }

  all_said : (covers : List Cover) (coverings : List Covering) (chains : List (List Stamp)) (stamps : List Checked) (chain number : ℕ) → AreCoverings policy covers coverings → SoFar policy chains stamps chain number
      → AreSaid policy (chains_after trees documents chains covers) stamps (marks_after chain number coverings)
  all_said [] [] chains stamps chain number are so_far = record {
    more = [];
    sound = subst (AreSound policy (places_of chains)) (sym (append-nil stamps)) so_far.sound;
    marks_are = refl;
  }
  all_said [] (covering ∷ coverings) chains stamps chain number are so_far = absurd are
  all_said (c ∷ covers) [] chains stamps chain number are so_far = absurd are
  all_said (c ∷ covers) (covering ∷ coverings) chains stamps chain number are so_far =
      let one = by_test c.begins (begun chains stamps chain number c covering so_far are.0) (added chains stamps chain number c covering so_far are.0) in
      let rest = all_said covers coverings (with_cover trees documents chains c) (stamps ++ one.checked ∷ []) (chain_after chain covering.begins) (stamp_after number covering.begins) are.1 one.so_far in
      record {
        more = one.checked ∷ rest.more;
        sound = subst (AreSound policy (places_of (chains_after trees documents (with_cover trees documents chains c) covers))) (append_assoc stamps (one.checked ∷ []) rest.more) rest.sound;
        marks_are = (λ i. one.mark i ∷ rest.marks_are i);
      }

  pub group_said : (covers : List Cover) (coverings : List Covering) → Begins covers → AreCoverings policy covers coverings
      → (stamps : List Checked) × AreSound policy (places_of (sequence_of trees documents covers)) stamps × (marks_of stamps ≡ marks_by coverings)
  group_said [] coverings begins are = absurd begins
  group_said (c ∷ covers) [] begins are = absurd are
  group_said (c ∷ covers) (covering ∷ coverings) begins are =
      let is = are.0 in
      let ats = stamp_of trees c (values_after c.alg [] documents) in
      let first : Checked = record { place = place_at [] 0 ats; says = is.says } in
      let made : with_cover trees documents [] c ≡ (ats ∷ []) ∷ [] = ap (λ (b : Bool). if b then (ats ∷ []) ∷ [] else []) begins in
      let so_far : SoFar policy (with_cover trees documents [] c) (first ∷ []) 0 0 = record {
        sound = subst (λ (chains : List (List Stamp)). AreSound policy (places_of chains) (first ∷ [])) (sym made) (record { in_place = refl; sound = (is.sound, tt) });
        front = [];
        init = [];
        ats = ats;
        chains_are = made;
        chain_is = refl;
        number_is = refl;
      } in
      let rest = all_said covers coverings (with_cover trees documents [] c) (first ∷ []) 0 0 are.1 so_far in
      (first ∷ rest.more, rest.sound, (λ i. record { chain = 0; stamp = 0; alg = is.hash_is i; time = is.time_is i; sid = is.sid_is i } ∷ rest.marks_are i))
