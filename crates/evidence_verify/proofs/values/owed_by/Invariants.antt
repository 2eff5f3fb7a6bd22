use Rattle.std.proofs.Common.{◌≡◌, ◌++◌, drop, map}
use Rattle.std.specs.List.{flat_map}
use Rattle.evidence_syntax.specs.Stamps.{chains_seen}
use Rattle.evidence_syntax.specs.Text.{chain_text}
use Rattle.evidence_verify.specs.Values.{owed_after, owed_by}
use Rattle.evidence_verify.specs.Inside.{checked_seen, owed_seen, places_seen, GoOn}
use Rattle.evidence_verify.proofs.values.owed_by.Given as goal

abbrev pub invariant-loop-stamp : goal.invariant-loop-stamp
invariant-loop-stamp l =
    record {
      go_on : GoOn (chains_seen l.passed) (places_seen (drop l.stamp-index l.stamps));
      written : l.older ≡ flat_map chain_text (chains_seen l.passed);
      owed : map owed_seen l.all_owed.items ++ owed_after l.documents l.before (map checked_seen (drop l.stamp-index l.stamps))
          ≡ owed_by l.fn.documents (map checked_seen l.fn.stamps);
    }
