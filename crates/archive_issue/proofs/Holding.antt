-- What stands holds at each moment at which nothing lapsed.
use Rattle.std.proofs.Common.{◌≡◌, ℕ, zero, suc, List, [], ◌∷◌, Some, None, subst}
use Rattle.std.specs.Prelude.{slice_get}
use Rattle.algorithm_policy.specs.Content.{Content, IsPolicy, first_dropped}
use Rattle.algorithm_policy.specs.Text.{PolicyText}
use Rattle.entry_codec.specs.declared.entry.Entry.{Entry}
use Rattle.evidence_syntax.specs.Stamps.{Stamp}
use Rattle.evidence_verify.specs.Stamps.{places_of, Checked}
use Rattle.evidence_verify.specs.Marks.{AreInTime}
use Rattle.evidence_verify.specs.Lapse.{lapse_of, marks_of}
use Rattle.evidence_verify.proofs.Once.{tokens_once}
use Rattle.evidence_verify.proofs.Lapsing.{all_in_time, none_lapses}
use Rattle.evidence_verify.specs.Holds.{Holds}
use Rattle.archive_chain.specs.Kept.{Cover}
use Rattle.archive_chain.specs.Sequence.{Trees, sequence_of}
use Rattle.archive_chain.specs.History.{state_of, InForce, Legal}
use Rattle.archive_chain.proofs.Saying.{Trusts}
use Rattle.archive_issue.specs.Stands.{Stands}
use Rattle.archive_issue.specs.Law.{HoldsUnlessLapsed}
use Rattle.archive_issue.proofs.Groups.{IsGood}
use Rattle.archive_issue.proofs.AllGroups.{AreGood}
use Rattle.archive_issue.proofs.Histories.{each_stands}

pub holds_unless : (policy : Content) (documents : List (List ℕ)) (chains : List (List Stamp)) (stamps : List Checked) → Stands policy documents chains stamps → HoldsUnlessLapsed policy documents chains
holds_unless policy documents chains stamps stands = record {
  stamps = stamps;
  stands = stands;
  holds = λ moment late. (
    λ (h : Holds policy documents moment chains).
        let same = tokens_once policy (places_of chains) h.stamps stamps h.sound stands.sound in
        none_lapses policy moment (marks_of stamps) (subst (λ (l : List Checked). AreInTime policy moment (marks_of l)) same h.in_time),
    λ (none : lapse_of policy moment stamps ≡ None). record {
      stamps = stamps;
      sound = stands.sound;
      named = stands.named;
      one_hash = stands.one_hash;
      in_order = stands.in_order;
      covered = stands.covered;
      late_enough = late;
      in_time = all_in_time policy moment (marks_of stamps) none;
    },
  );
}

pub good_at : (trees : Trees) (policy : Content) (groups : List (List Cover)) (all : List (List (List ℕ))) (id : ℕ) (covers : List Cover) (d : List (List ℕ)) → AreGood trees policy groups all
    → slice_get groups id ≡ Some covers → slice_get all id ≡ Some d → IsGood trees policy d covers
good_at trees policy [] all id covers d good here there = cc
good_at trees policy (g ∷ groups) [] id covers d good here there = absurd good
good_at trees policy (g ∷ groups) (e ∷ all) zero covers d good here there =
    let a : g ≡ covers = some_one g covers here in
    let b : e ≡ d = some_one e d there in
    subst (λ (c : List Cover). IsGood trees policy d c) a (subst (λ (x : List (List ℕ)). IsGood trees policy x g) b good.0)
  where
    some_one : {A : Type 0} (x y : A) → Some x ≡ Some y → x ≡ y
    some_one x y e = cc
good_at trees policy (g ∷ groups) (e ∷ all) (suc id) covers d good here there = good_at trees policy groups all id covers d good.1 here there

pub records_hold : ((text : List ℕ) (a b : Content) → PolicyText text a → PolicyText text b → a ≡ b)
    → ((old new : Content) → IsPolicy new → first_dropped old new ≡ None → Trusts old new)
    → (history : List Entry) (policy : Content) (id : ℕ) (covers : List Cover) (documents : List (List ℕ)) → Legal history → InForce (state_of history).text policy
    → slice_get (state_of history).kept.sealed id ≡ Some covers → slice_get (state_of history).documents id ≡ Some documents
    → HoldsUnlessLapsed policy documents (sequence_of (state_of history).trees documents covers)
records_hold once keeps history policy id covers documents legal in_force here there =
    let s = state_of history in
    let good = good_at s.trees policy s.kept.sealed s.documents id covers documents (each_stands once keeps history legal policy in_force).good here there in
    holds_unless policy documents (sequence_of s.trees documents covers) good.stamps good.stands
