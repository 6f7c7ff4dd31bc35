use Rattle.ledger_reading.proofs.OneSight.{is_in_sight}
use Rattle.ledger_reading.proofs.laws.listed_is_in_sight.Goals as goal

pub returns : goal.returns
returns g c journal listed seen whole contents sight holds only is_at in_sight =
    is_in_sight g.D.Device.state c.one_reading.ensures.contents c.one_reading.ensures.earlier
    journal listed seen whole contents sight holds only is_at in_sight
