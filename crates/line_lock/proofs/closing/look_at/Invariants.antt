use Rattle.std.specs.Prelude.{All, take}
use Rattle.line_lock.specs.Account.{IsBorneOut}
use Rattle.line_lock.proofs.closing.look_at.Given as goal

-- the seats so far are borne out
abbrev pub invariant-loop-seat : goal.invariant-loop-seat
invariant-loop-seat g l = All (IsBorneOut l.clerk) (take l.seat-index l.seats)
