use Rattle.std.specs.Prelude.{◌≡◌}
use Rattle.rtrb.specs.Ring.{sent}
use Rattle.office_sessions.proofs.reader.Reader.hand_on.Given as goal

-- nothing was handed on yet
abbrev pub invariant-loop : goal.invariant-loop
invariant-loop g l = sent l.self.messages ≡ sent l.initial.self.messages
