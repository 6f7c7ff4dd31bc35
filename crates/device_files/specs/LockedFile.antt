-- What contracts know of a file or a disk that is open and locked.
use Rattle.std.specs.Prelude.{ℕ, Bool}

pub record LockedState : Type 0 where
  -- how many sectors it has
  pub sectors : ℕ
  -- it is a disk, and no regular file
  pub is_disk : Bool
  -- it was made by this opening
  pub is_new : Bool
