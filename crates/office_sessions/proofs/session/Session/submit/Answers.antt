use Rattle.std.proofs.Common.{◌∙◌, inr, arith}
use Rattle.std.proofs.Math.Logic.{∥∥₁_map}
use Rattle.rtrb.specs.Ring.{sent}
use Rattle.turn_ledger.specs.Entry.{reference_of}
use Rattle.station_desk.specs.Messages.{entries_of}
use Rattle.office_sessions.proofs.ToldBy.{far-learned}
use Rattle.office_sessions.proofs.session.Session.submit.Goals as goal

pub tell_judgement-requires-clause-by : goal.tell_judgement-requires-clause-by
tell_judgement-requires-clause-by g c =
    let new = c.hand_in.new.self in
    let keeps = c.hand_in.ensures.learned (λ submitted. let is = c.in-TooFar.is in absurd (cc)) in
    let far = c.hand_in.ensures.too_far c.in-TooFar.is in
    ∥∥₁_map new.learned (λ so.
    inr (far-learned new.own new.replies (sent new.responses)
    (entries_of new.postings.feed.asked) new.postings.posted (reference_of c.args.entry) new.earlier
    (keeps.earlier ∙ c.requires.known (omega (arith, far)))
    (omega (arith, far, keeps.posted)) so))
