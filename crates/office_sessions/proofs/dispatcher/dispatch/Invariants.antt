use Rattle.office_sessions.specs.Session.{AllStayAt}
use Rattle.office_sessions.proofs.dispatcher.dispatch.Given as goal

-- each session stays
abbrev pub invariant-loop : goal.invariant-loop
invariant-loop g l = AllStayAt l.initial.sessions.items l.sessions.items
