use Rattle.std.proofs.Common.{subst, inr}
use Rattle.std.proofs.Math.Logic.{∥∥₁_map}
use Rattle.rtrb.specs.Ring.{sent}
use Rattle.station_desk.specs.Messages.{entries_of}
use Rattle.office_sessions.specs.Replies.{IsLearned}
use Rattle.office_sessions.specs.declared.session.Earlier.{Earlier}
use Rattle.office_sessions.proofs.session.Session.post_first.Goals as goal

pub tell_judgement-requires-in-OutOfSight-clause-by :
    goal.tell_judgement-requires-in-OutOfSight-clause-by
tell_judgement-requires-in-OutOfSight-clause-by g c =
    let mid = c.look_back.new.self in
    ∥∥₁_map mid.learned (λ so.
    inr (subst (λ (known : Earlier). IsLearned mid.own mid.replies
    (sent mid.responses) (entries_of mid.postings.feed.asked) mid.postings.posted known)
    c.in-OutOfSight.is so).1)
