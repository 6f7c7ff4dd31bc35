use Rattle.std.proofs.Common.{inr, refl}
use Rattle.journal_recovery.proofs.OneRecovery.{no_spare, still_sealed}
use Rattle.journal_recovery.proofs.laws.seals_are_recovered.Goals as goal

pub returns-clause-no_spare : goal.returns-clause-no_spare
returns-clause-no_spare c = no_spare c.one_reading.ensures.contents c.one_reading.ensures.refused

pub returns-clause-sealed : goal.returns-clause-sealed
returns-clause-sealed c = still_sealed c.one_reading.ensures.contents c.one_reading.ensures.refused

pub returns-clause-damaged : goal.returns-clause-damaged
returns-clause-damaged c image slots live contents reads wrong =
    inr (record {
      slots = slots;
      live = live;
      contents = contents;
      reads = reads;
      is = refl;
      wrong = wrong;
    })
