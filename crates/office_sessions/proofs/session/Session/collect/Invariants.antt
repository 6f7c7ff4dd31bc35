use Rattle.office_sessions.specs.Session.{StaysAt}
use Rattle.office_sessions.proofs.session.Session.collect.Given as goal

abbrev pub invariant-loop : goal.invariant-loop
invariant-loop g l = StaysAt l.initial.self l.self
