-- What a reader is seen as, and what it reads.
use Rattle.std.specs.Prelude.{ℕ, List}

-- the bytes that are left to read, and the place of the first of them
pub record Input : Type 0 where
  pub place : ℕ
  pub left : List ℕ

-- a value where it stands: the place of its identifier octet, that octet, its contents
pub record Item : Type 0 where
  pub place : ℕ
  pub tag : ℕ
  pub content : List ℕ
