use Rattle.std.specs.Prelude.{◌≡◌, ℕ, ◌+◌, ◌-◌, ◌==◌, Bool, not, ◌&&◌, nat_lt, List, [], ◌∷◌, map}
use Rattle.std.specs.Prelude.{length, Option, IsTrue}
use Rattle.std.specs.Bool.{beq}
use Rattle.std.specs.List.{filter, find, flat_map, range_with_len}
use Rattle.four_state.specs.Configuration.{Configuration, stations, x_at, up_at, differ}
use Rattle.four_state.specs.declared.rules.Rule.{Rule}
use Rattle.four_state.specs.declared.rules.Rule.TheVariants.{Bottom, Top, Raise, Lower}

-- neither the bottom station nor the top one
abbrev pub is_middle : Configuration → ℕ → Bool
is_middle c s = nat_lt 0 s && nat_lt (s + 1) (stations c)

-- Dijkstra's guards: whether station s may move by this rule. s - 1 is its lower neighbor, s + 1
-- its upper one.
abbrev pub guard : Configuration → ℕ → Rule → Bool
guard c s Bottom = s == 0 && (beq (x_at c s) (x_at c (s + 1)) && not (up_at c (s + 1)))
guard c s Top = (s + 1) == stations c && differ (x_at c s) (x_at c (s - 1))
guard c s Raise = is_middle c s && differ (x_at c s) (x_at c (s - 1))
guard c s Lower =
    is_middle c s && (beq (x_at c s) (x_at c (s + 1)) && (up_at c s && not (up_at c (s + 1))))

-- a privilege: a station and a rule whose guard is true
abbrev pub IsPrivilege : Configuration → ℕ → Rule → Type 0
IsPrivilege c s rule = IsTrue (guard c s rule)

-- the four rules
abbrev pub every_rule : List Rule
every_rule = Bottom ∷ Top ∷ Raise ∷ Lower ∷ []

-- every pair of a station and a rule, each once
abbrev pub every_pair : Configuration → List (ℕ × Rule)
every_pair c = flat_map (λ s. map (λ rule. (s, rule)) every_rule) (range_with_len 0 (stations c))

-- the privileges that are present
abbrev pub privileges_of : Configuration → List (ℕ × Rule)
privileges_of c = filter (λ pair. guard c pair.0 pair.1) (every_pair c)

-- legitimate: exactly one privilege is present
abbrev pub IsLegitimate : Configuration → Type 0
IsLegitimate c = length (privileges_of c) ≡ 1

-- The rule by which station s moves, if it may: of two, Raise, which stands first among the four.
abbrev pub choice : Configuration → ℕ → Option Rule
choice c s = find (guard c s) every_rule
