use Rattle.office_day.proofs.spans.lent.Goals as goal

pub returns-clause-archived : goal.returns-clause-archived
returns-clause-archived g c =
    let left = g.D.Device.state c.args.clerk.journal.device in
    let recess = c.lend.new.borrower in
    record {
      is = g.met.P.Recess.keeps c.args.recess.now recess c.lend.ensures.changed;
      caught_up = λ honest.
          g.met.P.Recess.catches_up left.reads c.args.recess.now recess
          (c.lend.ensures.learned honest);
    }
