use Rattle.std.proofs.Common.{ℕ, List, [], ◌∷◌, ◌++◌, map, sym, ap, subst, ◌∙◌}
use Rattle.std.proofs.lemmas.List.{map-append}
use Rattle.evidence_syntax.specs.Stamps.{chains_seen}
use Rattle.evidence_verify.specs.Values.{Owed}
use Rattle.evidence_verify.specs.Inside.{checked_seen, owed_seen, places_seen, GoOn}
use Rattle.evidence_verify.proofs.Turns.{drop_here, next_owed}
use Rattle.evidence_verify.proofs.values.owed_by.Goals as goal

pub add_further-requires-clause-begins : goal.add_further-requires-clause-begins
add_further-requires-clause-begins c =
    let l = c.loop-stamp in
    (subst (λ r. GoOn (chains_seen l.passed.now) (places_seen r)) (drop_here c.args.stamps.now l.stamp-index c.stamp-item.result c.loop-stamp-test.true c.stamp-item.is) l.invariant.go_on).0

pub loop-stamp-preserved : goal.loop-stamp-preserved
loop-stamp-preserved c =
    let l = c.loop-stamp in
    let x = c.stamp-item.result in
    let old = map owed_seen l.all_owed.items in
    let owed : List (List ℕ) → Owed = λ values. record { stamp = checked_seen x; values = values } in
    let added = ap (map owed_seen) c.in_ok-push.ensures.items ∙ map-append owed_seen l.all_owed.items _ ∙ ap (λ v. old ++ owed v ∷ []) c.in_ok-values.ensures.values in record {
      go_on = (subst (λ r. GoOn (chains_seen l.passed.now) (places_seen r)) (drop_here c.args.stamps.now l.stamp-index x c.loop-stamp-test.true c.stamp-item.is) l.invariant.go_on).1;
      written = c.in_ok-add_further.ensures;
      owed = sym (next_owed c.args.documents.now l.before.now c.args.stamps.now l.stamp-index x old _ c.loop-stamp-test.true c.stamp-item.is added) ∙ l.invariant.owed;
    }
