use Rattle.std.specs.Prelude.{◌≡◌, ℕ, Bool, true, false, not, List, slice_set}
use Rattle.four_state.specs.Configuration.{Configuration, x_at}
use Rattle.four_state.specs.Privilege.{IsPrivilege}
use Rattle.four_state.specs.declared.rules.Rule.{Rule}
use Rattle.four_state.specs.declared.rules.Rule.TheVariants.{Bottom, Top, Raise, Lower}

-- x with the bit of station s flipped
abbrev pub x_flipped : Configuration → ℕ → List Bool
x_flipped c s = slice_set c.x s (not (x_at c s))

-- What a move changes: the bits of its own station that the rule names, and nothing else.
abbrev pub moved : Configuration → ℕ → Rule → Configuration
moved c s Bottom = record { x = x_flipped c s; up = c.up }
moved c s Top = record { x = x_flipped c s; up = c.up }
moved c s Raise = record { x = x_flipped c s; up = slice_set c.up s true }
moved c s Lower = record { x = c.x; up = slice_set c.up s false }

-- a move: the pair is a privilege, and the configuration changes as its rule says
pub record IsMove (c : Configuration) (s : ℕ) (rule : Rule) (d : Configuration) : Type 0 where
  pub privilege : IsPrivilege c s rule
  pub change : d ≡ moved c s rule
