use Rattle.std.proofs.Common.{inl, inr}
use Rattle.algorithm_policy.proofs.WordLemmas.{decodes_to, only_memory}
use Rattle.algorithm_policy.proofs.word.bytes_of.Goals as goal

pub returns-in-Ok-clause-value : goal.returns-in-Ok-clause-value
returns-in-Ok-clause-value c = decodes_to c.args.word.now _ c.in-Ok.ensures.ok

pub unreachable-requires : goal.unreachable-requires
unreachable-requires c =
    only_memory c.args.word.now c.in-Err.fault c.requires (elim c.in-Err.ensures.err [ inl full ↦ absurd (c.in_default.not-OutOfMemory full) | inr err ↦ err ])
