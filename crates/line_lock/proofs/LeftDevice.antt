-- A device that comes back from an office that nobody closed.
use Rattle.std.proofs.Common.{◌≡◌, sym}
use Rattle.sector_device.specs.Device.{DeviceState}
use Rattle.four_state.specs.Configuration.{Configuration}
use Rattle.turn_clerk.specs.Clerk.{ClerkState, KeepsHistory, LeavesAcknowledged, LeftPrefixEver}
use Rattle.line_lock.specs.OpenedOn.{WasOpenedOn, WasLeftByClerk}

-- a device that comes from its clerk
pub left_by : {D : Type 0} (state : D → DeviceState) (device : DeviceState) (from : Configuration)
    (clerk : ClerkState D) (after : D)
    → after ≡ clerk.journal.device → WasOpenedOn state device from clerk → KeepsHistory clerk
    → ((state clerk.journal.device).honest → LeavesAcknowledged state clerk)
    → ((state clerk.journal.device).honest → LeftPrefixEver state clerk)
    → WasLeftByClerk state device from after
left_by state device from clerk after has opened legal acknowledged ever = record {
  clerk = clerk;
  has = sym has;
  opened = opened;
  legal = legal;
  acknowledged = λ honest. acknowledged (opened.stays_honest honest);
  at_any_moment = λ honest. ever (opened.stays_honest honest);
}
