-- What a piece makes of an archive is what its entry makes of it.
use Rattle.std.proofs.Common.{ℕ, List, [], sym, subst}
use Rattle.algorithm_policy.specs.Text.{PolicyText}
use Rattle.entry_codec.specs.declared.entry.Entry.{Entry}
use Rattle.entry_codec.specs.declared.entry.Entry.TheVariants.{Deposit, Seal, RenewStamps, RenewTrees, SetPolicy}
use Rattle.archive_chain.specs.declared.ready.Piece.{Piece}
use Rattle.archive_chain.specs.declared.ready.Piece.TheVariants.{Counted, Sealed, Renewed, Stamped, Governed}
use Rattle.archive_chain.specs.Held.{Held, IsCounted, Takes}
use Rattle.archive_chain.specs.InsidePieces.{TreesFit, StampsFit}
use Rattle.archive_chain.specs.InsideReady.{leaves_in_piece, FitsSo}

-- the clause of the step that adds it
abbrev pub Makes : Held → Piece → Held → Type 0
Makes old (Counted counts) new = (groups : List (List (List ℕ))) → IsCounted groups counts.groups counts.documents counts.bytes → Takes old (Deposit groups) [] new
Makes old (Sealed stamp row count) new = Takes old (Seal stamp.value.alg count stamp.value.token) stamp.value.tree.leaves new
Makes old (Renewed stamp row places names live) new =
    (cohorts : List ℕ) → TreesFit old stamp.value row places.items names.items live.items cohorts → Takes old (RenewTrees stamp.value.alg cohorts stamp.value.token) stamp.value.tree.leaves new
Makes old (Stamped stamp longer) new =
    (cohorts : List ℕ) → StampsFit old stamp.value longer.items cohorts → Takes old (RenewStamps stamp.value.alg cohorts stamp.value.token) stamp.value.tree.leaves new
Makes old (Governed policy) new = (text : List ℕ) → PolicyText text policy → Takes old (SetPolicy text) [] new

pub taken : (old new : Held) (e : Entry) (piece : Piece) → FitsSo old e piece → Makes old piece new → Takes old e (leaves_in_piece piece) new
taken old new e (Counted counts) fits makes = subst (λ (x : Entry). Takes old x [] new) (sym fits.1.1) (makes fits.1.0 fits.1.2)
taken old new e (Sealed stamp row count) fits makes = subst (λ (x : Entry). Takes old x stamp.value.tree.leaves new) (sym fits.2) makes
taken old new e (Renewed stamp row places names live) fits makes = subst (λ (x : Entry). Takes old x stamp.value.tree.leaves new) (sym fits.2.1) (makes fits.2.0 fits.2.2)
taken old new e (Stamped stamp longer) fits makes = subst (λ (x : Entry). Takes old x stamp.value.tree.leaves new) (sym fits.1.1) (makes fits.1.0 fits.1.2)
taken old new e (Governed policy) fits makes = subst (λ (x : Entry). Takes old x [] new) (sym fits.1.1) (makes fits.1.0 fits.1.2)
