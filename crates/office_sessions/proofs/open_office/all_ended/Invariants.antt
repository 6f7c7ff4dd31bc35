use Rattle.std.specs.Prelude.{◌≡◌, map}
use Rattle.std.specs.List.{AllZip}
use Rattle.office_sessions.specs.Session.{EndsIn, feed_of}
use Rattle.office_sessions.proofs.open_office.all_ended.Given as goal

-- the feeds of the sessions so far, and their conversations
abbrev pub invariant-loop-session : goal.invariant-loop-session
invariant-loop-session g l =
    (l.feeds.items ≡ map feed_of l.yielded)
    × AllZip (EndsIn g.L.OfficeLife.reports) l.yielded l.conversations.items
