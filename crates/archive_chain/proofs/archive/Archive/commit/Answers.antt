use Rattle.std.proofs.Common.{◌≡◌, sym, ap, subst, ◌∙◌}
use Rattle.archive_chain.specs.declared.ready.Piece.{Piece}
use Rattle.archive_chain.specs.declared.ready.Piece.TheVariants.{Counted, Sealed, Renewed, Stamped, Governed}
use Rattle.archive_chain.specs.Held.{Held, Readied, Takes}
use Rattle.archive_chain.specs.InsideReady.{FitsSo, leaves_in_piece}
use Rattle.archive_chain.proofs.Agreeing.{agrees_more, stands_more}
use Rattle.archive_chain.proofs.Committing.{Makes, taken}
use Rattle.archive_chain.proofs.archive.Archive.commit.Goals.{in-Counted, in-Sealed, in-Renewed, in-Stamped, in-Governed}
use Rattle.archive_chain.proofs.archive.Archive.commit.Goals as goal

-- the entry is what the piece makes
by_piece : (c : goal.After-drop-ready-inside-2) (piece : Piece) → c.ready.inside.piece ≡ piece → Makes c.args.self.now piece c.match-piece.self
    → Takes c.args.self.now c.args.ready.entry c.args.ready.leaves c.match-piece.self
by_piece c piece is makes =
    let same : c.ready.inside.archive.value ≡ c.args.self.now = ap (λ (r : Readied). r.archive) c.ready.view_is ∙ c.requires.same in
    let fits : FitsSo c.args.self.now c.ready.inside.entry.value piece = subst (λ (h : Held). FitsSo h c.ready.inside.entry.value piece) same (subst (FitsSo c.ready.inside.archive.value c.ready.inside.entry.value) is c.ready.invariant.1) in
    subst (λ (r : Readied). Takes c.args.self.now r.entry r.leaves c.match-piece.self) c.ready.view_is
    (subst (λ (p : Piece). Takes c.args.self.now c.ready.inside.entry.value (leaves_in_piece p) c.match-piece.self) (sym is) (taken c.args.self.now c.match-piece.self c.ready.inside.entry.value piece fits makes))

takes : (c : goal.After-drop-ready-inside-2) → Takes c.args.self.now c.args.ready.entry c.args.ready.leaves c.match-piece.self
takes c = elim c.match-piece.branch [
  | in-Counted w ↦ by_piece c (Counted w.in-Counted.counts) w.in-Counted.is (subst (Makes c.args.self.now (Counted w.in-Counted.counts)) (sym w.self-is) w.add_deposit.ensures)
  | in-Sealed w ↦ by_piece c (Sealed w.in-Sealed.stamp w.in-Sealed.row w.in-Sealed.count) w.in-Sealed.is (subst (Makes c.args.self.now (Sealed w.in-Sealed.stamp w.in-Sealed.row w.in-Sealed.count)) (sym w.self-is) w.add_seal.ensures)
  | in-Renewed w ↦ by_piece c (Renewed w.in-Renewed.stamp w.in-Renewed.row w.in-Renewed.places w.in-Renewed.names w.in-Renewed.live) w.in-Renewed.is (subst (Makes c.args.self.now (Renewed w.in-Renewed.stamp w.in-Renewed.row w.in-Renewed.places w.in-Renewed.names w.in-Renewed.live)) (sym w.self-is) w.add_trees.ensures)
  | in-Stamped w ↦ by_piece c (Stamped w.in-Stamped.stamp w.in-Stamped.longer) w.in-Stamped.is (subst (Makes c.args.self.now (Stamped w.in-Stamped.stamp w.in-Stamped.longer)) (sym w.self-is) w.add_stamps.ensures)
  | in-Governed w ↦ by_piece c (Governed w.in-Governed.policy) w.in-Governed.is (subst (Makes c.args.self.now (Governed w.in-Governed.policy)) (sym w.self-is) w.add_policy.ensures)
]

pub returns-clause-takes : goal.returns-clause-takes
returns-clause-takes c = takes c

pub returns-clause-agrees : goal.returns-clause-agrees
returns-clause-agrees c = λ h agrees. agrees_more c.args.self.now c.match-piece.self c.args.ready.entry c.args.ready.leaves h (takes c) agrees

pub returns-clause-stands : goal.returns-clause-stands
returns-clause-stands c = λ h stands are. stands_more c.args.self.now c.match-piece.self c.args.ready.entry c.args.ready.leaves h (takes c) stands are
