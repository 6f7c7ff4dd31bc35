use Rattle.office_day.proofs.office_run.run_office.Given as goal

abbrev pub ghosts-named_run-L-Ledger : goal.ghosts-named_run-L-Ledger
ghosts-named_run-L-Ledger g a = record { name = a.blank.name; parts = a.blank.parts }

abbrev pub ghosts-named_run-L-OpenedOn : goal.ghosts-named_run-L-OpenedOn
ghosts-named_run-L-OpenedOn g a =
    record { device = g.D.Device.state a.device; line = a.line; begins = λ _. Unit {0} }
