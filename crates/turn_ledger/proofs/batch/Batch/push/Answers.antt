-- The new entry takes the first unused place.
use Rattle.std.proofs.Common.{ap, length, arith}
use Rattle.turn_ledger.specs.declared.batch.TheConstants.{UNUSED}
use Rattle.turn_ledger.specs.InPlace.{IsFilled-push, filled-take}
use Rattle.turn_ledger.proofs.batch.Batch.push.Goals as goal

pub invariant_of-self : goal.invariant_of-self
invariant_of-self c =
    IsFilled-push UNUSED c.args.entry c.self.inside.entries c.self.inside.count c.self.invariant
    (omega (
      arith,
      c.requires,
      ap length c.self.view_is,
      (filled-take UNUSED c.self.inside.entries c.self.inside.count c.self.invariant).1,
    ))
