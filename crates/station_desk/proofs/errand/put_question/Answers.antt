use Rattle.std.proofs.Common.{length}
use Rattle.line_lock.specs.AskedLaws.{noted-alone, searched-alone}
use Rattle.station_desk.proofs.errand.put_question.Goals as goal

pub returns-in-Balance-clause-seat : goal.returns-in-Balance-clause-seat
returns-in-Balance-clause-seat g c =
    let told = c.balance.ensures.told in
    noted-alone c.args.seat.now c.balance.new.seat c.in-Balance.account (length told.clerk.history)
    c.balance.result told.note

pub returns-in-Search-clause-seat : goal.returns-in-Search-clause-seat
returns-in-Search-clause-seat g c =
    searched-alone c.args.seat.now c.search.new.seat c.search.result c.search.ensures.told.note
