-- How many stations are asked for.
use Rattle.std.specs.Prelude.{◌+◌, ℕ, Bool, true, false, length, max, unwrap_or}
use Rattle.office_service.specs.declared.serving.ServeOptions.{ServeOptions}

-- the terminal is one counter, if it is one
abbrev pub terminals : Bool → ℕ
terminals true = 1
terminals false = 0

-- how many counters there are, that of the terminal too
abbrev pub counters_of : ServeOptions → ℕ
counters_of serving = length serving.counters.items + terminals serving.terminal

-- the fewest stations that serve these counters: one for each, but two at least
abbrev pub fewest_of : ServeOptions → ℕ
fewest_of serving = max 2 (counters_of serving)

-- as many stations as are asked for, and without that the fewest
abbrev pub stations_of : ServeOptions → ℕ
stations_of serving = unwrap_or serving.stations (fewest_of serving)
