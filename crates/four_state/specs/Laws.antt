-- Laws of configurations, stated for lines of any length.
use Rattle.std.specs.Prelude.{ℕ, ◌≤◌, ◌↔◌, length}
use Rattle.std.specs.List.{Contains}
use Rattle.four_state.specs.Configuration.{Configuration, IsConfiguration}
use Rattle.four_state.specs.Privilege.{IsPrivilege, privileges_of}
use Rattle.four_state.specs.declared.rules.Rule.{Rule}

-- The list of privileges has exactly the pairs whose guard is true.
abbrev pub ListsPrivileges : Type 0
ListsPrivileges =
    (c : Configuration) → IsConfiguration c → (s : ℕ) (rule : Rule)
    → Contains {X = ℕ × Rule} (privileges_of c) (s, rule) ↔ IsPrivilege c s rule

-- In every configuration at least one privilege is present.
abbrev pub SomeoneIsPrivileged : Type 0
SomeoneIsPrivileged = (c : Configuration) → IsConfiguration c → 1 ≤ length (privileges_of c)
