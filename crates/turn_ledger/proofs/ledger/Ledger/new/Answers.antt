-- Every account at zero, and none of them sealed.
use Rattle.turn_ledger.specs.StateLaws.{is_empty_ledger}
use Rattle.turn_ledger.proofs.ledger.Ledger.new.Goals as goal

pub returns : goal.returns
returns c = is_empty_ledger c.in_ok-zeros.field-0.items c.in_ok-clear_marks.field-0.items
    c.in_ok-zeros.ensures c.in_ok-clear_marks.ensures
