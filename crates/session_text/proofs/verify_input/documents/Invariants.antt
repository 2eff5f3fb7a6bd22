use Rattle.std.proofs.Common.{◌-◌, ◌≤◌, length}
use Rattle.session_text.proofs.DocumentLoop.{DocumentsSoFar}
use Rattle.session_text.proofs.verify_input.documents.Given as goal

abbrev pub invariant-loop-alloc : goal.invariant-loop-alloc
invariant-loop-alloc l = DocumentsSoFar l.initial.text l.initial.documents.items l.documents.items l.text × (length l.documents.items ≤ 64)

abbrev pub decreases-loop-alloc : goal.decreases-loop-alloc
decreases-loop-alloc l = 64 - length l.documents.items
