-- The line of E. W. Dijkstra, "Self-stabilizing systems in spite of distributed control",
-- Communications of the ACM 17(11), 1974: the solution with four-state machines. Each machine is a
-- station here.
use Rattle.std.specs.Prelude.{◌≡◌, ℕ, ◌-◌, ◌≤◌, Bool, true, false, not, List, length}
use Rattle.std.specs.Prelude.{slice_index_or}
use Rattle.std.specs.Bool.{beq}

-- The bits of every station: place s of each list belongs to station s, counted from the bottom.
pub record Configuration : Type 0 where
  pub x : List Bool
  pub up : List Bool

-- how many stations stand in the line
abbrev pub stations : Configuration → ℕ
stations c = length c.x

-- the bit x of a station
abbrev pub x_at : Configuration → ℕ → Bool
x_at c s = slice_index_or c.x s false

-- the bit up of a station
abbrev pub up_at : Configuration → ℕ → Bool
up_at c s = slice_index_or c.up s false

-- two bits are not the same
abbrev pub differ : Bool → Bool → Bool
differ a b = not (beq a b)

-- At least two stations; up is true at the bottom and false at the top, by definition.
pub record IsConfiguration (c : Configuration) : Type 0 where
  pub as_long : length c.up ≡ length c.x
  pub at_least_two : 2 ≤ length c.x
  pub up_at_the_bottom : up_at c 0 ≡ true
  pub not_up_at_the_top : up_at c (length c.x - 1) ≡ false

-- what a `Line` holds: a configuration of at most 64 stations
pub record IsLine (c : Configuration) : Type 0 where
  pub configuration : IsConfiguration c
  pub at_most_64 : length c.x ≤ 64
