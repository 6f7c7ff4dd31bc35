use Rattle.std.proofs.Common.{◌≡◌}
use Rattle.turn_clerk.specs.Clerk.{present_state}
use Rattle.office_day.proofs.office_run.run_over.Given as goal

abbrev pub ghosts-named_over-L-Ledger : goal.ghosts-named_over-L-Ledger
ghosts-named_over-L-Ledger g a = record { name = a.blank.name; parts = a.blank.parts }

abbrev pub ghosts-named_over-L-OpenedOn : goal.ghosts-named_over-L-OpenedOn
ghosts-named_over-L-OpenedOn g a =
    record {
      device = g.D.Device.state a.clerk.journal.device;
      line = a.clerk.line;
      begins = λ found. found ≡ present_state a.clerk;
    }
