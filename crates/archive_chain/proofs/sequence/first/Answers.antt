use Rattle.std.proofs.Common.{sym, subst}
use Rattle.std.specs.List.{AllByRecursion}
use Rattle.evidence_syntax.specs.Stamps.{chains_seen}
use Rattle.evidence_syntax.specs.Valid.{IsHash}
use Rattle.archive_chain.proofs.Sizes.{values_hash}
use Rattle.archive_chain.proofs.sequence.first.Goals as goal

pub made-requires-clause-hashes : goal.made-requires-clause-hashes
made-requires-clause-hashes c =
    subst (AllByRecursion IsHash) (sym c.in_ok-values.ensures.values) (values_hash c.stamp_in-stamp.result.now.alg (chains_seen c.args.older.now) c.args.group.now)
