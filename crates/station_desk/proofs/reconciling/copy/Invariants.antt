-- The requests so far are added.
use Rattle.std.proofs.Common.{◌≡◌, ◌+◌, ◌++◌, take, vec_len, vec_capacity}
use Rattle.station_desk.proofs.reconciling.copy.Given as goal

abbrev pub invariant-loop-ask : goal.invariant-loop-ask
invariant-loop-ask l = record {
  items : l.into.items ≡ l.initial.into.items ++ take l.ask-index l.asks;
  count : vec_len l.into ≡ vec_len l.initial.into + l.ask-index;
  places : vec_capacity l.into ≡ vec_capacity l.initial.into;
}
