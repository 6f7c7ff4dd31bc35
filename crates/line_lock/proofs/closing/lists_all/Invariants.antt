use Rattle.std.specs.Prelude.{◌≤◌, length}
use Rattle.line_lock.proofs.Listing.{Listed}
use Rattle.line_lock.proofs.closing.lists_all.Given as goal

abbrev pub invariant-loop-turn : goal.invariant-loop-turn
invariant-loop-turn g l =
    (l.listed ≤ length l.seat.turns)
    × Listed l.seat.station l.seat.turns l.history l.listed l.turn-index
