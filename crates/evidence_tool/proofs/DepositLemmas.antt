-- One document is a group, and a deposit.
use Rattle.std.proofs.Common.{ℕ, ◌≤◌, List, [], ◌∷◌, length, arith}
use Rattle.object_groups.specs.Groups.{IsGroup}
use Rattle.entry_codec.specs.Spelling.{IsEntry}
use Rattle.evidence_tool.specs.Entries.{deposit_of}

pub one_document : (d : List ℕ) → length d ≤ 1048576 → IsGroup (d ∷ [])
one_document d short = record { some = omega arith; few = omega arith; short = (short, tt); together = omega arith }

pub one_deposit : (d : List ℕ) → length d ≤ 1048576 → IsEntry (deposit_of d)
one_deposit d short = record { some = omega arith; few = omega arith; each = (one_document d short, tt); together = omega arith }
