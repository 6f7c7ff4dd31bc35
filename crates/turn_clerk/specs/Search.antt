-- What one step of a search tells of the records that are in sight.
use Rattle.std.specs.Prelude.{◌≡◌, ◌≢◌, ◌+◌, ◌<◌, ◌≤◌, ℕ, max, min, Option, Some, None, IfSome}
use Rattle.sector_device.specs.Device.{DeviceState}
use Rattle.gate_journal.specs.Record.{RecordData}
use Rattle.gate_journal.specs.Reading.{BankContents}
use Rattle.gate_journal.specs.Journal.{JournalState}
use Rattle.gate_journal.specs.declared.earlier.EarlierBank.{EarlierBank}
use Rattle.gate_journal.specs.declared.refusals.ReadRefusal.{ReadRefusal}
use Rattle.gate_journal.specs.declared.refusals.ReadRefusal.TheVariants as read
use Rattle.turn_ledger.specs.declared.entry.Entry.{Entry}
use Rattle.journal_recovery.specs.Places.{IsEntryAt}
use Rattle.journal_recovery.specs.LookBack.{GoesOn}
use Rattle.journal_recovery.specs.declared.looking_back.LookBack.{LookBack}
use Rattle.journal_recovery.specs.declared.looking_back.LookBack.TheVariants.{Known}
use Rattle.journal_recovery.specs.Sight.{Sight, IsInSight, numbered}
use Rattle.turn_clerk.specs.Sought.{Fits, IsOf, IsOver, IsPicked}
use Rattle.turn_clerk.specs.declared.refusals.FindRefusal.{FindRefusal}
use Rattle.turn_clerk.specs.declared.refusals.FindRefusal.TheVariants.{Changed, Device}
use Rattle.turn_clerk.specs.declared.searching.Reached.{Reached}
use Rattle.turn_clerk.specs.declared.searching.Reached.TheVariants.{Further, All, LookingBack}
use Rattle.turn_clerk.specs.declared.searching.SearchStep.{SearchStep}
use Rattle.turn_clerk.specs.declared.search_target.Posting.{Posting}
use Rattle.turn_clerk.specs.declared.search_target.SearchTarget.{SearchTarget}
use Rattle.turn_clerk.specs.declared.search_target.SearchTarget.TheVariants.{Reference}

-- The entry stands at a place of a record of that number.
pub record IsIn (r : RecordData) (of number place : ℕ) (entry : Entry) : Type 0 where
  pub numbered : number ≡ of
  pub used : place < r.count
  pub there : IsEntryAt r place entry

-- The entry stands at a place of one of the records from one number up to another, which may have
-- what is sought.
pub record IsInRecords (sight : Sight) (sought : SearchTarget) (first end number place : ℕ)
    (entry : Entry) : Type 0 where
  pub from : first ≤ number
  pub before : number < end
  pub of_station : IsOf sought (numbered sight number).station
  pub used : place < (numbered sight number).count
  pub there : IsEntryAt (numbered sight number) place entry

-- One of the record's used places holds no entry.
pub record LacksEntry (r : RecordData) : Type 0 where
  pub place : ℕ
  pub used : place < r.count
  pub none : (entry : Entry) → IsEntryAt r place entry → ⊥

-- One of these records does so.
pub record LackEntry (sight : Sight) (sought : SearchTarget) (first end : ℕ) : Type 0 where
  pub number : ℕ
  pub from : first ≤ number
  pub before : number < end
  pub of_station : IsOf sought (numbered sight number).station
  pub lacks : LacksEntry (numbered sight number)

-- The posting has a number from one up to another, and an entry that is sought.
pub record IsWithin (sought : SearchTarget) (first end : ℕ) (posting : Posting) : Type 0 where
  pub from : first ≤ posting.number
  pub before : posting.number < end
  pub fits : Fits sought posting.entry

-- Where a run over the records up to a number stops: behind the one that has the reference, or else
-- at their end.
abbrev pub StopsAt : SearchTarget → Option Posting → ℕ → ℕ → Type 0
StopsAt (Reference reference) (Some posting) end stop = (stop ≡ posting.number + 1) × (stop ≤ end)
StopsAt _ _ end stop = stop ≡ end

-- Where a step ends that the search goes on behind, and that began with one record and may look up
-- to another: as above, or behind 256 records, if there are more.
abbrev pub EndsBehind : SearchTarget → Option Posting → ℕ → ℕ → ℕ → Type 0
EndsBehind (Reference reference) (Some posting) began end number =
    (number ≡ posting.number + 1) × (number ≤ end) × (number ≤ began + 256)
EndsBehind _ _ began end number = (number ≡ began + 256) × (number < end)

-- How far a step comes, where the first record in sight and the one behind the last of the search
-- have these numbers. It begins with the record of the number that was asked for, or with the first
-- in sight if that is later, and tells which. It looks at 256 records, at all that there are from
-- there on, or at those up to the first one that has the reference. As long as the search isn't
-- over it tells its end too.
abbrev pub IsReached : ℕ → ℕ → ℕ → SearchTarget → Option Posting → Reached → Type 0
IsReached base end from sought posting (Further began number told) =
    (began ≡ max from base) × EndsBehind sought posting began end number × (told ≡ end)
IsReached base end from sought posting (All began since) =
    (began ≡ max from base) × (since ≡ base) × (end ≤ began + 256) × (IsOver sought posting → ⊥)
IsReached base end from sought posting LookingBack = ⊥

-- the number behind the last record that was looked at
abbrev pub end_of_step : ℕ → Reached → ℕ
end_of_step end (Further began number told) = number
end_of_step end (All began since) = end
end_of_step end LookingBack = 0

-- With some first record, which is the live bank's or at most as many before it as a bank has
-- slots. The search ends before the record of the number that was asked for, or where no more were
-- posted.
pub record IsStepFromSome {D : Type 0} (journal : JournalState D) (sought : SearchTarget)
    (from end : ℕ)
    (step : SearchStep) : Type 0 where
  pub base : ℕ
  pub at_most : base ≤ journal.live.base
  pub at_least : journal.live.base ≤ base + journal.slots
  pub reached : IsReached base (min end journal.next) from sought step.posting step.reached
  pub posting : IfSome step.posting
      (IsWithin sought (max from base) (end_of_step (min end journal.next) step.reached))

-- A step that only looks back picks nothing: it looks at 256 more slots of the bank that isn't
-- live, and some are left.
pub record HasLookedBack (slots : ℕ) (old new : LookBack) (step : SearchStep) : Type 0 where
  pub none : step.posting ≡ None
  pub goes_on : GoesOn slots old new
  pub unknown : (found : Option EarlierBank) → new ≢ Known found

-- Of the records that are in sight of a journal with these contents, what is told is so of those
-- that were looked at.
pub record IsPickedInSight {D : Type 0} (state : D → DeviceState) (journal : JournalState D)
    (contents : BankContents) (sought : SearchTarget) (from end : ℕ)
    (step : SearchStep) : Type 0 where
  pub earlier : Option EarlierBank
  pub sight : Sight
  pub in_sight : IsInSight (state journal.device).reads journal.slots journal.live contents earlier
      sight
  pub reached : IsReached sight.base (min end journal.next) from sought step.posting step.reached
  pub told : IsPicked
      (IsInRecords sight sought (max from sight.base)
      (end_of_step (min end journal.next) step.reached)) sought step.posting

-- one of the records that are looked at has a place without an entry
pub record LackEntryInSight {D : Type 0} (state : D → DeviceState) (journal : JournalState D)
    (contents : BankContents) (sought : SearchTarget) (from end : ℕ) : Type 0 where
  pub earlier : Option EarlierBank
  pub sight : Sight
  pub in_sight : IsInSight (state journal.device).reads journal.slots journal.live contents earlier
      sight
  pub lack : LackEntry sight sought (max from sight.base)
      (min (max from sight.base + 256) (min end journal.next))

-- a read's refusal, as that of a search
abbrev pub find_refusal_of : ReadRefusal → FindRefusal
find_refusal_of read.Changed = Changed
find_refusal_of read.Device = Device
