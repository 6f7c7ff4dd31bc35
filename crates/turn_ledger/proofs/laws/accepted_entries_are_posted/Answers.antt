-- The accepted entries, in order.
use Rattle.turn_ledger.specs.ScreenLaws.{AreAccepted-accepted, posted_in_order-accepted}
use Rattle.turn_ledger.proofs.laws.accepted_entries_are_posted.Goals as goal

pub returns : goal.returns
returns c = λ state entries l.
    (AreAccepted-accepted state entries, posted_in_order-accepted state entries l)
