use Rattle.line_lock.proofs.lent.with_office.Given as goal

abbrev pub ghosts-lent-L-Ledger : goal.ghosts-lent-L-Ledger
ghosts-lent-L-Ledger g a = record { name = a.blank.name; parts = a.blank.parts }

abbrev pub ghosts-lent-L-OpenedOn : goal.ghosts-lent-L-OpenedOn
ghosts-lent-L-OpenedOn g a =
    record { device = g.D.Device.state a.device; line = a.line; begins = λ _. Unit {0} }
