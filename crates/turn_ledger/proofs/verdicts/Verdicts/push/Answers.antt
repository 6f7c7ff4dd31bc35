-- The new verdict takes the first unused place.
use Rattle.std.proofs.Common.{ap, length, arith}
use Rattle.turn_ledger.specs.declared.verdicts.TheConstants.{UNUSED}
use Rattle.turn_ledger.specs.InPlace.{IsFilled-push, filled-take}
use Rattle.turn_ledger.proofs.verdicts.Verdicts.push.Goals as goal

pub invariant_of-self : goal.invariant_of-self
invariant_of-self c =
    IsFilled-push UNUSED c.args.verdict c.self.inside.verdicts c.self.inside.count c.self.invariant
    (omega (
      arith,
      c.requires,
      ap length c.self.view_is,
      (filled-take UNUSED c.self.inside.verdicts c.self.inside.count c.self.invariant).1,
    ))
