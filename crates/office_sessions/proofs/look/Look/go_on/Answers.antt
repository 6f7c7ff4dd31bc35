use Rattle.office_sessions.proofs.Runs.{seen-on}
use Rattle.office_sessions.proofs.look.Look.go_on.Goals as goal

pub returns-in-Further-clause-whole : goal.returns-in-Further-clause-whole
returns-in-Further-clause-whole c =
    seen-on c.args.self.now c.take_in.new.self c.in-Further.began c.in-Further.number
    c.in-Ok.told.posting c.take_in.ensures.meets c.take_in.ensures.gap

pub returns-in-All-clause-whole : goal.returns-in-All-clause-whole
returns-in-All-clause-whole c =
    let taken = c.take_in-in-All.new.self in
    seen-on c.args.self.now taken c.in-All.began taken.from c.in-Ok.told.posting
    c.take_in-in-All.ensures.meets c.take_in-in-All.ensures.gap
