use Rattle.std.proofs.Common.{◌≡◌, ◌++◌, length, map, drop}
use Rattle.std.specs.List.{AllByRecursion}
use Rattle.entry_codec.specs.Inside.{bytes_at, IsWithin}
use Rattle.entry_codec.proofs.deposit.documents_at.Given as goal

abbrev pub invariant-loop-place : goal.invariant-loop-place
invariant-loop-place l =
    (l.documents.items ++ map (bytes_at l.payload) (drop l.place-index l.places) ≡ map (bytes_at l.fn.payload) l.fn.places)
    × AllByRecursion (IsWithin (length l.payload)) (drop l.place-index l.places)
