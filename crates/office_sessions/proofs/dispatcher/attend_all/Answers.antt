use Rattle.office_sessions.proofs.Feeds.{all-stay-set}
use Rattle.office_sessions.proofs.dispatcher.attend_all.Goals as goal

pub loop-session-preserved : goal.loop-session-preserved
loop-session-preserved g c =
    all-stay-set c.args.sessions.now c.loop-session.sessions c.loop-session.session-index
    c.attend.new.self c.session-item.result c.loop-session-test.true c.loop-session.invariant
    c.attend.ensures
