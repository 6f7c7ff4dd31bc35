use Rattle.turn_clerk.proofs.KeptFields.{keeps_lent}
use Rattle.turn_clerk.proofs.clerk.Clerk.lend.Goals as goal

pub invariant_of-result : goal.invariant_of-result
invariant_of-result g c =
    let lent = c.lend in
    keeps_lent g.D.Device.state g.met.D.Device.sound c.self.inside c.self.invariant
    lent.result.device lent.ensures.looked lent.result lent.ensures.kept lent.ensures.contents
