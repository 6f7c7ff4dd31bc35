-- Laws of moves that the crates above may cite: a line stays a line, of as many stations.
use Rattle.std.specs.Prelude.{◌≡◌, ℕ, ◌+◌, ◌-◌, ◌<◌, Bool, true, false, not, length, slice_set}
use Rattle.std.specs.Prelude.{nat_lt}
use Rattle.std.proofs.Common.{refl, sym, ◌∙◌, arith, length-set, get_or-set_other}
use Rattle.std.proofs.lemmas.Bool.{and_parts, ltb-true, eqb-true}
use Rattle.four_state.specs.Configuration.{Configuration, IsConfiguration, IsLine, stations, x_at}
use Rattle.four_state.specs.Privilege.{IsPrivilege, is_middle}
use Rattle.four_state.specs.Motion.{moved}
use Rattle.four_state.specs.declared.rules.Rule.{Rule}
use Rattle.four_state.specs.declared.rules.Rule.TheVariants.{Bottom, Top, Raise, Lower}

-- whatever a bit x becomes, the line is a line
pub x_changed : (c : Configuration) (s : ℕ) (bit : Bool) → IsConfiguration c
    → IsConfiguration (record { x = slice_set c.x s bit; up = c.up })
x_changed c s bit h =
    let n = length-set c.x s bit in
    record {
      as_long = h.as_long ∙ sym n;
      at_least_two = omega arith;
      up_at_the_bottom = h.up_at_the_bottom;
      not_up_at_the_top = rw n h.not_up_at_the_top;
    }

-- the same of the bit up of a middle station
pub up_changed : (c : Configuration) (s : ℕ) (bit : Bool) → IsConfiguration c → 0 < s
    → s + 1 < stations c → IsConfiguration (record { x = c.x; up = slice_set c.up s bit })
up_changed c s bit h above below =
    let n = length-set c.up s bit in
    record {
      as_long = n ∙ h.as_long;
      at_least_two = h.at_least_two;
      up_at_the_bottom = get_or-set_other c.up s 0 bit false (omega arith) ∙ h.up_at_the_bottom;
      not_up_at_the_top =
          get_or-set_other c.up s (length c.x - 1) bit false (omega arith) ∙ h.not_up_at_the_top;
    }

-- where a middle station stands
pub middle_stands : (c : Configuration) (s : ℕ) → is_middle c s ≡ true
    → (0 < s) × (s + 1 < stations c)
middle_stands c s h =
    let parts = and_parts (nat_lt 0 s) (nat_lt (s + 1) (stations c)) h in
    (ltb-true 0 s parts.0, ltb-true (s + 1) (stations c) parts.1)

-- only stations of the line have privileges
pub privileged_stands : (c : Configuration) (s : ℕ) (rule : Rule) → IsConfiguration c
    → IsPrivilege c s rule → s < stations c
privileged_stands c s Bottom h p = let e = eqb-true s 0 (and_parts _ _ p).0 in
    let two = h.at_least_two in omega arith
privileged_stands c s Top h p = let e = eqb-true (s + 1) (stations c) (and_parts _ _ p).0 in
    omega arith
privileged_stands c s Raise h p = let m = middle_stands c s (and_parts _ _ p).0 in omega arith
privileged_stands c s Lower h p = let m = middle_stands c s (and_parts _ _ p).0 in omega arith

-- a move leaves a configuration
pub IsConfiguration-moved : (c : Configuration) (s : ℕ) (rule : Rule) → IsConfiguration c
    → IsPrivilege c s rule → IsConfiguration (moved c s rule)
IsConfiguration-moved c s Bottom h p = x_changed c s (not (x_at c s)) h
IsConfiguration-moved c s Top h p = x_changed c s (not (x_at c s)) h
IsConfiguration-moved c s Raise h p =
    let m = middle_stands c s (and_parts _ _ p).0 in
    x_changed (record { x = c.x; up = slice_set c.up s true }) s (not (x_at c s))
    (up_changed c s true h m.0 m.1)
IsConfiguration-moved c s Lower h p =
    let m = middle_stands c s (and_parts _ _ p).0 in up_changed c s false h m.0 m.1

-- of as many stations
pub stations-moved : (c : Configuration) (s : ℕ) (rule : Rule)
    → stations (moved c s rule) ≡ stations c
stations-moved c s Bottom = length-set c.x s (not (x_at c s))
stations-moved c s Top = length-set c.x s (not (x_at c s))
stations-moved c s Raise = length-set c.x s (not (x_at c s))
stations-moved c s Lower = refl

-- a move leaves a line
pub IsLine-moved : (c : Configuration) (s : ℕ) (rule : Rule) → IsLine c → IsPrivilege c s rule
    → IsLine (moved c s rule)
IsLine-moved c s rule h p =
    record {
      configuration = IsConfiguration-moved c s rule h.configuration p;
      at_most_64 = let e = stations-moved c s rule in let most = h.at_most_64 in omega arith;
    }

-- the same of one bit
pub IsLine-x : (c : Configuration) (s : ℕ) (bit : Bool) → IsLine c
    → IsLine (record { x = slice_set c.x s bit; up = c.up })
IsLine-x c s bit h =
    record {
      configuration = x_changed c s bit h.configuration;
      at_most_64 = let e = length-set c.x s bit in let most = h.at_most_64 in omega arith;
    }

pub IsLine-up : (c : Configuration) (s : ℕ) (bit : Bool) → IsLine c → 0 < s → s + 1 < stations c
    → IsLine (record { x = c.x; up = slice_set c.up s bit })
IsLine-up c s bit h above below =
    record {
      configuration = up_changed c s bit h.configuration above below;
      at_most_64 = h.at_most_64;
    }
