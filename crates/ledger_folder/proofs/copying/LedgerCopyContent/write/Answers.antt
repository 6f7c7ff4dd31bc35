use Rattle.std.proofs.lemmas.Result.{on_ok_weaker}
use Rattle.ledger_folder.proofs.copying.LedgerCopyContent.write.Goals as goal

pub returns-clause-written : goal.returns-clause-written
returns-clause-written g c honest =
    let state = g.D.Device.state in
    let sound = g.met.D.Device.sound c.write.new.new (c.write.ensures.call.stays_honest honest) in
    on_ok_weaker c.write.result
    (λ made. record {
      has = made.recovers (state c.write.new.new).reads sound.nothing_lost;
      durable = made.durable;
    })
    (c.write.ensures.made honest)
