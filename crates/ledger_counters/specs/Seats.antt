-- Which counters have which stations, and from which batch on only offices posted.
use Rattle.std.specs.Prelude.{◌≡◌, ◌⊎◌, ◌≤◌, ℕ, List}
use Rattle.ledger_counters.specs.declared.roster.LastUse.{LastUse}
use Rattle.ledger_counters.specs.declared.roster.LastUse.TheVariants.{Open, Closed}

pub record Seats : Type 0 where
  -- the counters' names, that of station 0 first
  pub names : List (List ℕ)
  -- from this batch on only offices posted
  pub since : ℕ
  -- how the ledger was left
  pub left : LastUse
  -- the ledger's number
  pub ledger : ℕ

-- The next batch has the number that an office left: one that was closed left just this one, and
-- one that never told that it was closed left this one or a greater one than it began with.
abbrev pub IsAsLeft : LastUse → ℕ → Type 0
IsAsLeft (Closed number) next = number ≡ next
IsAsLeft (Open number) next = number ≤ next
IsAsLeft _ next = ⊥
