-- The archive of an office, and what keeping it adds to it.
use Rattle.std.specs.Prelude.{◌≡◌, ◌+◌, ◌<◌, ◌≤◌, ℕ, Bool, true, false, List, [], ◌++◌, length}
use Rattle.sector_device.specs.Image.{Image}
use Rattle.sector_device.specs.Device.{DeviceState}
use Rattle.turn_ledger.specs.declared.entry.Entry.{Entry}
use Rattle.journal_recovery.specs.Places.{Spells}
use Rattle.journal_recovery.specs.Recovery.{RecoversTo, batch_at}
use Rattle.journal_recovery.specs.Sight.{Sight, numbered}
use Rattle.journal_recovery.specs.State.{State}
use Rattle.turn_clerk.specs.Clerk.{Extends}
use Rattle.turn_clerk.specs.FarBack.{HasInSight, end_of}

-- What is to be known of an archive at one moment.
pub record Archive : Type 0 where
  -- the number of the first batch in it
  pub first : ℕ
  -- the batches in it, in order
  pub batches : List (List Entry)
  -- it couldn't be kept, once or more often
  pub failed : Bool
  -- there is one, it has these batches, and nobody else writes it
  pub honest : Bool

-- what stands for an archive where there is none, or nothing is known of it
abbrev pub no_archive : Archive
no_archive = record { first = 0; batches = []; failed = false; honest = false }

-- the number of the first batch that it lacks
abbrev pub next_of : Archive → ℕ
next_of archive = archive.first + length archive.batches

-- it ends where the ledger in the image does, whose next batch has that number
abbrev pub EndsWith : Archive → Image → Type 0
EndsWith archive image = (found : State) → RecoversTo found image → found.next ≡ next_of archive

-- From that number on the image has these batches and no more: they are in sight, and each is
-- spelled by the record of its number.
pub record HasFrom (number : ℕ) (batches : List (List Entry)) (image : Image) : Type 0 where
  pub sight : Sight
  pub is : HasInSight image sight
  pub from : sight.base ≤ number
  pub ends : end_of sight ≡ number + length batches
  pub spelled : (k : ℕ) → k < length batches
      → Spells (numbered sight (number + k)) (batch_at batches k)

-- The archive has what it lacked of the ledger in the image, behind what it had, and ends where
-- that does.
pub record HasCaughtUp (image : Image) (old new : Archive) : Type 0 where
  pub more : List (List Entry)
  pub longer : new.batches ≡ old.batches ++ more
  pub lacked : HasFrom (next_of old) more image
  pub ends : EndsWith new image

-- An archive was kept: nothing in it is lost, and it begins where it did. Once it failed it has
-- failed.
pub record IsKept (old new : Archive) : Type 0 where
  pub first : new.first ≡ old.first
  pub honest : new.honest ≡ old.honest
  pub keeps : Extends old.batches new.batches
  pub failed : old.failed ≡ true → new.failed ≡ true

-- unless it failed, an honest one has caught up with the ledger in the image
abbrev pub CatchesUp : Image → Archive → Archive → Type 0
CatchesUp image old new = old.honest ≡ true → new.failed ≡ false → HasCaughtUp image old new

-- An archive was kept of the ledger on that device. If the device is honest, it has caught up with
-- that.
pub record WasKept (device : DeviceState) (old new : Archive) : Type 0 where
  pub is : IsKept old new
  pub caught_up : device.honest → CatchesUp device.reads old new
