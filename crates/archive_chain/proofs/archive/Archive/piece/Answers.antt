use Rattle.std.proofs.Common.{sym, subst, ◌∙◌}
use Rattle.std.specs.Prelude.{IfErr}
use Rattle.entry_codec.specs.declared.entry.Entry.{Entry}
use Rattle.entry_codec.specs.declared.entry.Entry.TheVariants.{Seal, RenewStamps, RenewTrees}
use Rattle.archive_chain.specs.Rules.{LaterBreaks}
use Rattle.archive_chain.specs.InsideToken.{Refuses}
use Rattle.archive_chain.proofs.archive.Archive.piece.Goals as goal

pub returns-in-Seal-clause-breaks : goal.returns-in-Seal-clause-breaks
returns-in-Seal-clause-breaks c =
    subst (λ (e : Entry). IfErr c.seal.result (Refuses (LaterBreaks c.args.self.now.kept c.args.self.now.policy e c.args.leaves.now)))
    ((λ i. Seal c.in-Seal.hash c.in-Seal.count (c.as_slice-in-Seal.ensures i)) ∙ sym c.in-Seal.is) c.seal.ensures.breaks

pub returns-in-RenewStamps-clause-breaks : goal.returns-in-RenewStamps-clause-breaks
returns-in-RenewStamps-clause-breaks c =
    subst (λ (e : Entry). IfErr c.renew_stamps.result (Refuses (LaterBreaks c.args.self.now.kept c.args.self.now.policy e c.args.leaves.now)))
    ((λ i. RenewStamps c.in-RenewStamps.hash (c.as_slice-in-RenewStamps.ensures i) (c.as_slice-in-RenewStamps-2.ensures i)) ∙ sym c.in-RenewStamps.is) c.renew_stamps.ensures.breaks

pub returns-in-RenewTrees-clause-breaks : goal.returns-in-RenewTrees-clause-breaks
returns-in-RenewTrees-clause-breaks c =
    subst (λ (e : Entry). IfErr c.renew_trees.result (Refuses (LaterBreaks c.args.self.now.kept c.args.self.now.policy e c.args.leaves.now)))
    ((λ i. RenewTrees c.in-RenewTrees.hash (c.as_slice-in-RenewTrees.ensures i) (c.as_slice-in-RenewTrees-2.ensures i)) ∙ sym c.in-RenewTrees.is) c.renew_trees.ensures.breaks
