use Rattle.std.proofs.Common.{◌∙◌, ap}
use Rattle.turn_clerk.specs.Clerk.{ClerkState}
use Rattle.line_lock.proofs.locked.Locked.list_newest.Goals as goal

pub returns-clause-acknowledged : goal.returns-clause-acknowledged
returns-clause-acknowledged g c before turn last =
    let opened = c.self.invariant.opened in
    record {
      clerk = c.self.inside.clerk;
      opened = opened;
      legal = c.legal_history.ensures.legal;
      before = before;
      last = ap (λ (clerk : ClerkState g.row.D.Denot). clerk.history) c.self.view_is ∙ last;
      leaves = λ honest. c.durable_prefix.ensures.acknowledged (opened.stays_honest honest);
    }
