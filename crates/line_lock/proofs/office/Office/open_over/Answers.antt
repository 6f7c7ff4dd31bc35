use Rattle.std.proofs.Common.{◌∙◌, sym}
use Rattle.line_lock.proofs.Openings.{opened_over}
use Rattle.line_lock.proofs.office.Office.open_over.Goals as goal

pub seated-requires-clause-opened : goal.seated-requires-clause-opened
seated-requires-clause-opened g c =
    let begun = c.in-Ok.ensures in
    opened_over g.D.Device.state g.L.OpenedOn.device g.L.OpenedOn.line g.met.D.Device.sound
    c.args.clerk c.in-Ok.clerk c.line-line.result c.requires.named.device
    (c.requires.named.line ∙ sym c.line-line.ensures) begun.anew begun.settled begun.recovers
