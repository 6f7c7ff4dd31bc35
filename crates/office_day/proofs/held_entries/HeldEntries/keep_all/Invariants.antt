-- The first entries are kept, as many as there are places for.
use Rattle.std.proofs.Common.{◌≡◌, ◌≤◌, length, take}
use Rattle.station_desk.specs.Messages.{entries_of}
use Rattle.office_day.proofs.held_entries.HeldEntries.keep_all.Given as goal

abbrev pub invariant-loop-ask : goal.invariant-loop-ask
invariant-loop-ask l = length l.asks ≤ 16 → l.self ≡ entries_of (take l.ask-index l.asks)
