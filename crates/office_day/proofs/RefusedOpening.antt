-- A day whose office wasn't opened.
use Rattle.std.specs.Prelude.{◌≢◌}
use Rattle.sector_device.specs.Device.{DeviceState}
use Rattle.journal_recovery.specs.declared.refusals.OpenRefusal.TheVariants as opening
use Rattle.journal_recovery.specs.Refused.{RecoveryRefuses}
use Rattle.line_lock.specs.Lent.{IsRefused}
use Rattle.line_lock.specs.Lent as lent
use Rattle.line_lock.specs.declared.lent.OfficeRefusal.{OfficeRefusal}
use Rattle.line_lock.specs.declared.lent.OfficeRefusal.TheVariants as office
use Rattle.office_day.specs.Refusal.{IfOpening, day_refusal}

-- what the day tells is recovery's refusal, where it isn't the device's failure
pub refused_day : {D F : Type 0} (state : D → DeviceState) (before after : D)
    (refusal : OfficeRefusal F) → (state before).honest
    → lent.IfOpening refusal (IsRefused state before after)
    → IfOpening (day_refusal refusal)
    (λ told. told ≢ opening.Device → RecoveryRefuses (state before).reads told)
refused_day state before after (office.Opening opening.Memory) honest is = tt
refused_day state before after (office.Opening opening.Unformatted) honest is =
    is.refused honest (λ e. absurd (cc))
refused_day state before after (office.Opening (opening.Version version)) honest is =
    is.refused honest (λ e. absurd (cc))
refused_day state before after (office.Opening opening.Size) honest is =
    is.refused honest (λ e. absurd (cc))
refused_day state before after (office.Opening (opening.Damaged slot cause)) honest is =
    is.refused honest (λ e. absurd (cc))
refused_day state before after (office.Opening opening.Device) honest is =
    is.refused honest (λ e. absurd (cc))
refused_day state before after (office.Work failure) honest is = tt
refused_day state before after (office.Closing refusal) honest is = tt
