-- What an entry adds to an archive.
use Rattle.std.specs.Prelude.{ℕ, List, []}
use Rattle.archive_chain.specs.declared.ready.Piece.{Piece}
use Rattle.archive_chain.specs.declared.ready.Piece.TheVariants.{Counted, Sealed, Renewed, Stamped, Governed}

-- the leaves that it adds
abbrev pub leaves_in_piece : Piece → List (List ℕ)
leaves_in_piece (Counted counts) = []
leaves_in_piece (Sealed stamp row count) = stamp.value.tree.leaves
leaves_in_piece (Renewed stamp row places names live) = stamp.value.tree.leaves
leaves_in_piece (Stamped stamp longer) = stamp.value.tree.leaves
leaves_in_piece (Governed policy) = []
