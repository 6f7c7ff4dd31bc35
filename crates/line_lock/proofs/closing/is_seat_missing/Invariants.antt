use Rattle.std.specs.Prelude.{◌≢◌, ℕ, ◌<◌}
use Rattle.line_lock.specs.Account.{seats_of}
use Rattle.line_lock.proofs.closing.is_seat_missing.Given as goal

-- the stations so far have a seat each
abbrev pub invariant-loop-station : goal.invariant-loop-station
invariant-loop-station g l = (k : ℕ) → k < l.station → seats_of k l.seats ≢ 0
