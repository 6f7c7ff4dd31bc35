-- Nothing is held so far, for each station counted.
use Rattle.std.proofs.Common.{◌≡◌, ◌≤◌, [], replicate}
use Rattle.front_scripts.proofs.scripted_clerk.nothing_held.Given as goal

abbrev pub invariant-loop : goal.invariant-loop
invariant-loop l = (l.held.items ≡ replicate l.counter []) × (l.counter ≤ l.stations)
