-- What was moved and what is left in the ring are what both had.
use Rattle.std.proofs.Common.{◌≡◌, ◌+◌, ◌≤◌, ◌++◌, length, vec_len, vec_capacity}
use Rattle.rtrb.specs.Ring.{known_items}
use Rattle.station_desk.proofs.reconciling.drain.Given as goal

abbrev pub invariant-loop : goal.invariant-loop
invariant-loop g l = record {
  moved : l.into.items ++ known_items l.from ≡ l.initial.into.items ++ known_items l.initial.from;
  count : length (known_items l.from) + l.counter ≡ length (known_items l.initial.from);
  room : vec_len l.into + length (known_items l.from) ≤ vec_capacity l.into;
}
