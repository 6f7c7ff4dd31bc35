use Rattle.std.proofs.Common.{◌↔◌, ◌≤◌, length, reverse}
use Rattle.sector_device.specs.Memory.{IsPending}
use Rattle.sector_device.proofs.memory.is_pending.Given as goal

-- what stands after the part that is left holds neither a sync nor a write to the sector
abbrev pub invariant-loop-earlier : goal.invariant-loop-earlier
invariant-loop-earlier l = record {
  same : IsPending (reverse l.calls) l.at ↔ IsPending (reverse l.earlier) l.at;
  shorter : length l.earlier ≤ length l.calls;
}

abbrev pub decreases-loop-earlier : goal.decreases-loop-earlier
decreases-loop-earlier l = length l.earlier
