-- What contracts see of a clerk's fields, and what these keep.
use Rattle.std.specs.Prelude.{◌≡◌}
use Rattle.sector_device.specs.Device.{DeviceState}
use Rattle.journal_recovery.specs.LookBack.{LooksBack}
use Rattle.turn_clerk.specs.declared.clerk.Clerk.TheInside.{Inside}
use Rattle.turn_clerk.specs.Past.{values_of}
use Rattle.turn_clerk.specs.History.{moves_of}
use Rattle.turn_clerk.specs.Clerk.{ClerkState, accepted_batches, accepted_stations, IsClerk}
use Rattle.turn_clerk.specs.FarBack.{SeesAsFar}

abbrev pub view_of : {D : Type 0} → Inside D → ClerkState D
view_of k = record {
  journal = k.journal;
  ledger = k.ledger;
  line = k.line;
  history = k.history.items;
  acknowledged = values_of k.acknowledged;
  in_flight = k.in_flight;
  in_flight_by = k.in_flight_station;
  opening = record {
    journal = k.opening_journal.value;
    ledger = k.opening_ledger;
    line = k.opening_line;
  };
}

pub record KeepsFields {D : Type 0} (state : D → DeviceState) (k : Inside D) : Type 0 where
  pub is_clerk : IsClerk state (view_of k)
  pub moves : k.moves.items ≡ moves_of k.history.items
  pub opening_next : k.opening_next ≡ k.opening_journal.value.next
  pub looks_back : LooksBack state k.journal k.back k.back_ledger
  pub sees_as_far : SeesAsFar state k.opening_journal.value k.journal (accepted_batches (view_of k))
      (accepted_stations (view_of k))
