-- What private functions know of the chains of a record that was read. (A type's own file cites it, so it stands alone.)
use Rattle.std.specs.Prelude.{◌≡◌, ℕ, ◌^◌, ◌<◌, List, ◌++◌, length, take, Option}
use Rattle.std.specs.Option.{ForSome}
use Rattle.std.specs.List.{AllByRecursion, flat_map}
use Rattle.reduced_tree.specs.Reduced.{AreFull}
use Rattle.evidence_syntax.specs.Stamps.{Stamp}
use Rattle.evidence_syntax.specs.Text.{chain_text}

-- a reduced hash tree has a list, and none is empty
abbrev pub IsTree : Option (List (List (List ℕ))) → Type 0
IsTree tree = ForSome tree (λ lists. (0 < length lists) × AreFull lists)

-- the time-stamp has such a tree, or none
abbrev pub HasTree : Stamp → Type 0
HasTree s = IsTree s.lists

-- these chains can be written
abbrev pub AreShort : List (List Stamp) → Type 0
AreShort chains = length (flat_map chain_text chains) < 2 ^ 32

-- these chains, with others or none behind them
pub record BeginsWith (front chains : List (List Stamp)) : Type 0 where
  pub behind : List (List Stamp)
  pub is : chains ≡ front ++ behind

-- a chain that is not too long, in whose trees no list is empty
pub record IsReadable (chain : List Stamp) : Type 0 where
  pub few : length chain < 2 ^ 32
  pub trees : AllByRecursion HasTree chain

-- Any number of the first chains can be written, and each chain is readable.
pub record WereRead (chains : List (List Stamp)) : Type 0 where
  pub short : (n : ℕ) → AreShort (take n chains)
  pub few : length chains < 2 ^ 32
  pub each : AllByRecursion IsReadable chains
