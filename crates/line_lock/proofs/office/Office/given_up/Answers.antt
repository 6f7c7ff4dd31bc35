use Rattle.line_lock.proofs.LeftDevice.{left_by}
use Rattle.line_lock.proofs.office.Office.given_up.Goals as goal

pub returns : goal.returns
returns g c =
    let clerk = c.into_clerk in
    left_by g.D.Device.state g.L.OpenedOn.device g.L.OpenedOn.line clerk.result c.into_device.result
    c.into_device.ensures clerk.ensures.opened clerk.ensures.legal clerk.ensures.acknowledged
    clerk.ensures.at_any_moment
