use Rattle.office_sessions.specs.Session.{AllStayAt}
use Rattle.office_sessions.proofs.dispatcher.attend_all.Given as goal

-- each session stays, attended to or not
abbrev pub invariant-loop-session : goal.invariant-loop-session
invariant-loop-session g l = AllStayAt l.initial.sessions l.sessions
