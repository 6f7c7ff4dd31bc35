use Rattle.ledger_counters.proofs.roster.Roster.station_of.Goals as goal

pub returns-clause-its_own : goal.returns-clause-its_own
returns-clause-its_own c =
    rw (← c.self.view_is, ← c.as_slice.ensures.value) c.station_in.ensures.its_own
