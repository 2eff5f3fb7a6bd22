-- What private functions see of a catalogue.
use Rattle.std.specs.Prelude.{ℕ, ◌≤◌, List}
use Rattle.archive_store.specs.declared.row.Row.{Row}

-- The rows; for how many further rows, and for the homes of how many further groups, there is room.
pub record Listing : Type 0 where
  pub rows : List Row
  pub row_room : ℕ
  pub home_room : ℕ

-- there is room for one row with so many groups
pub record HasRoomFor (listing : Listing) (groups : ℕ) : Type 0 where
  pub row : 1 ≤ listing.row_room
  pub homes : groups ≤ listing.home_room
