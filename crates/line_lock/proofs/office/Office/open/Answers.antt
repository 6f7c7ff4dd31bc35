use Rattle.line_lock.proofs.Openings.{opened_on}
use Rattle.line_lock.proofs.office.Office.open.Goals as goal

pub seated-requires-clause-opened : goal.seated-requires-clause-opened
seated-requires-clause-opened g c =
    let found = c.in_ok-clerk in
    opened_on g.D.Device.state g.L.OpenedOn.device g.L.OpenedOn.line c.args.device c.args.line
    found.clerk _ c.requires.named.device c.requires.named.line
    found.ensures.opened found.ensures.looks.call (λ fault. fault) found.ensures.looks.only
    (λ honest. found.ensures.settled honest (λ fault. fault)) found.ensures.recovers
