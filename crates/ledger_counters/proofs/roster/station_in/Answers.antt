use Rattle.ledger_counters.proofs.Named.{named_at, lacks}
use Rattle.ledger_counters.proofs.roster.station_in.Goals as goal

pub returns-in-Some-clause-its_own : goal.returns-in-Some-clause-its_own
returns-in-Some-clause-its_own c =
    named_at c.args.names.now c.args.name.now c.in-Some.place c.in-Some.ensures.within
    c.in-Some.ensures.some

pub returns-in-None-clause-none : goal.returns-in-None-clause-none
returns-in-None-clause-none c =
    λ none. lacks c.args.names.now c.args.name.now (c.in-None.ensures.none none)
