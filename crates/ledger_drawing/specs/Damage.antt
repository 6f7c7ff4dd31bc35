-- Where a drawing is damaged.
use Rattle.std.specs.Prelude.{◌≤◌, ◌<◌, ℕ, Option, IsSomeAnd}
use Rattle.ledger_damage.specs.declared.place.Place.{Place}

-- the damage is in one of the sectors from one to before another
abbrev pub HasDamage : Option Place → ℕ → ℕ → Type 0
HasDamage damage from to = IsSomeAnd damage (λ place. (from ≤ place.sector) × (place.sector < to))
