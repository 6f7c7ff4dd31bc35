use Rattle.std.proofs.Common.{◌≡◌, ◌≢◌, ◌∙◌, ap, subst}
use Rattle.sector_device.specs.Image.{Image}
use Rattle.gate_journal.specs.OldLayouts.{OldRefuses}
use Rattle.gate_journal.specs.declared.refusals.JournalRefusal.TheVariants.{Device}
use Rattle.journal_recovery.specs.Journal.{refusal_of}
use Rattle.journal_recovery.specs.Recovered.{old_state}
use Rattle.journal_recovery.specs.Older.{OldRecoversTo}
use Rattle.ledger_reading.proofs.Wholes.{next_is, old_whole}
use Rattle.ledger_reading.proofs.sound.look_at_old.Goals as goal

pub returns-in-Ok-open-clause-recovers : goal.returns-in-Ok-open-clause-recovers
returns-in-Ok-open-clause-recovers g c honest =
    let image = (g.D.Device.state c.args.device).reads in
    let recovers : OldRecoversTo (old_state c.in-Ok.found) image =
    rw c.in-Ok.is at (c.read_old-device.ensures.recovers honest) in
    let still : (g.D.Device.state c.read_old-device.result.0).honest =
    c.read_old-device.ensures.looks.call.stays_honest honest in
    let same : (g.D.Device.state c.in-Ok-open.journal.device).reads ≡ image =
    (c.in-Ok-open.ensures.looks.only still).reads
    ∙ (c.read_old-device.ensures.looks.only honest).reads in
    let some = c.in-Ok-open.ensures.found still in
    let next = next_is g.D.Device.state c.in-Ok-open.journal (old_state c.in-Ok.found) image
    c.one_old_reading.ensures.contents recovers some same in
    subst (λ next. OldRecoversTo (record { ledger = c.in-Ok.found.ledger; next = next }) image) next
    recovers

pub returns-in-Ok-open-clause-holds : goal.returns-in-Ok-open-clause-holds
returns-in-Ok-open-clause-holds g c honest =
    let image = (g.D.Device.state c.args.device).reads in
    let recovers : OldRecoversTo (old_state c.in-Ok.found) image =
    rw c.in-Ok.is at (c.read_old-device.ensures.recovers honest) in
    let still : (g.D.Device.state c.read_old-device.result.0).honest =
    c.read_old-device.ensures.looks.call.stays_honest honest in
    let same : (g.D.Device.state c.in-Ok-open.journal.device).reads ≡ image =
    (c.in-Ok-open.ensures.looks.only still).reads
    ∙ (c.read_old-device.ensures.looks.only honest).reads in
    let some = c.in-Ok-open.ensures.found still in
    old_whole g.D.Device.state c.in-Ok-open.journal (old_state c.in-Ok.found) image
    c.one_old_reading.ensures.contents recovers some same

-- what recovers is opened
pub returns-in-Err-open-clause-refused : goal.returns-in-Err-open-clause-refused
returns-in-Err-open-clause-refused g c honest no_memory other =
    let image = (g.D.Device.state c.args.device).reads in
    let recovers : OldRecoversTo (old_state c.in-Ok.found) image =
    rw c.in-Ok.is at (c.read_old-device.ensures.recovers honest) in
    let still : (g.D.Device.state c.read_old-device.result.0).honest =
    c.read_old-device.ensures.looks.call.stays_honest honest in
    let not_device : c.in-Err-open.refusal ≢ Device =
    λ is. other (c.from.ensures ∙ ap refusal_of is) in
    let refuses : OldRefuses image c.in-Err-open.refusal =
    subst (λ (sectors : Image). OldRefuses sectors c.in-Err-open.refusal)
    (c.read_old-device.ensures.looks.only honest).reads
    (c.in-Err-open.ensures.refused still not_device) in
    absurd (c.one_old_reading.ensures.refused image recovers.slots recovers.bank recovers.contents
    c.in-Err-open.refusal recovers.reads refuses)
