-- What a clerk's fields keep while its device is only looked at.
use Rattle.std.proofs.Common.{◌≡◌, refl, subst, sym}
use Rattle.sector_device.specs.Image.{Image}
use Rattle.sector_device.specs.Device.{DeviceState, IsSound}
use Rattle.sector_device.specs.Crash.{LooksOnly, WasLookedAt}
use Rattle.gate_journal.specs.Reading.{ReadsAs}
use Rattle.gate_journal.specs.Journal.{JournalState, HoldsContents, KeepsContents, after_reads}
use Rattle.turn_ledger.specs.State.{LedgerState}
use Rattle.journal_recovery.specs.declared.looking_back.LookBack.{LookBack}
use Rattle.journal_recovery.specs.LookBack.{LooksBack, IsSo}
use Rattle.turn_clerk.specs.declared.clerk.Clerk.TheInside.{Inside}
use Rattle.turn_clerk.specs.Clerk.{accepted_batches, accepted_stations}
use Rattle.turn_clerk.specs.View.{view_of, KeepsFields}
use Rattle.turn_clerk.proofs.AfterLooks.{looked}
use Rattle.turn_clerk.proofs.FarBack.{far_behind_looks}

module _ {D : Type 0} (state : D → DeviceState)
    (sound : (device : D) → (state device).honest → IsSound (state device)) (k : Inside D)
    (is : KeepsFields state k) where
  -- which may tell more of the bank that isn't live
  pub keeps_looking : (journal : JournalState D) (back : LookBack) (back_ledger : LedgerState)
      → journal ≡ after_reads k.journal journal.device
      → ((state journal.device).honest → (state k.journal.device).honest)
      → LooksOnly (state k.journal.device) (state journal.device)
      → KeepsContents state k.journal journal
      → LooksBack state journal back back_ledger
      → KeepsFields state
      (record k { journal = journal; back = back; back_ledger = back_ledger })
  keeps_looking journal back back_ledger kept was_honest looks stays looks_back = record {
    is_clerk = looked state (view_of k) is.is_clerk journal kept was_honest looks stays;
    moves = is.moves;
    opening_next = is.opening_next;
    looks_back = looks_back;
    sees_as_far =
        far_behind_looks state sound k.opening_journal.value k.journal journal
        (accepted_batches (view_of k)) (accepted_stations (view_of k)) was_honest kept looks
        is.sees_as_far;
  }

  -- or else knows as much of it as before
  module _ (device : D) (was : WasLookedAt (state k.journal.device) (state device)) where
    still_looks_back : LooksBack state (after_reads k.journal device) k.back k.back_ledger
    still_looks_back = record {
      fits = is.looks_back.fits;
      is_so = λ contents now spare.
          let honest = was.was_honest now.honest in
          let same = (was.looks honest).reads in
          let held = (is.is_clerk.at_rest honest).holds now.works in
          let before : HoldsContents state k.journal contents = record {
            honest = honest;
            works = now.works;
            reads = subst (λ (image : Image). ReadsAs image k.journal.slots k.journal.live contents)
                same now.reads;
            next = now.next;
            durable = held.is_at.durable;
          } in
          subst (λ (image : Image).
          IsSo image k.journal.slots k.journal.live contents k.back k.back_ledger) (sym same)
          (is.looks_back.is_so contents before spare);
    }

    pub keeps_lent : (journal : JournalState D) → journal ≡ after_reads k.journal device
        → KeepsContents state k.journal journal → KeepsFields state (record k { journal = journal })
    keeps_lent journal kept stays =
        subst (λ (j : JournalState D). KeepsContents state k.journal j
        → KeepsFields state (record k { journal = j })) (sym kept)
        (λ contents. keeps_looking (after_reads k.journal device) k.back k.back_ledger refl
        was.was_honest was.looks contents still_looks_back) stays
