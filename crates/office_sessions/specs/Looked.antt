-- What a look at a counter's postings tells, from what each of its steps told.
use Rattle.std.specs.Prelude.{◌≡◌, ◌<◌, ◌≤◌, ℕ, zero, suc, min, Option, None, Some, Result, Ok, Err}
use Rattle.std.specs.Prelude.{IfSome, IsSomeAnd}
use Rattle.turn_ledger.specs.Entry.{reference_of}
use Rattle.turn_clerk.specs.Sought.{IsLater}
use Rattle.turn_clerk.specs.declared.searching.Reached.{Reached}
use Rattle.turn_clerk.specs.declared.searching.Reached.TheVariants as reached
use Rattle.turn_clerk.specs.declared.searching.SearchStep.{SearchStep}
use Rattle.turn_clerk.specs.declared.search_target.Posting.{Posting}
use Rattle.turn_clerk.specs.declared.refusals.FindRefusal.{FindRefusal}
use Rattle.office_sessions.specs.declared.look.Look.{Look}
use Rattle.office_sessions.specs.declared.look.LookAnswer.{LookAnswer}
use Rattle.office_sessions.specs.declared.session.Earlier.{Earlier}
use Rattle.office_sessions.specs.declared.session.Earlier.TheVariants as earlier

-- a look that has come to the last record: what it saw without a gap
abbrev pub seen_at : Look → Reached → Option (Result LookAnswer FindRefusal)
seen_at look (reached.All began since) =
    Some (Ok (record { posting = look.posting; since = look.since }))
seen_at look (reached.Further began number end) = None
seen_at look reached.LookingBack = None

-- what the whole look tells with this step, by what it saw so far, if the step ends it
abbrev pub seen_with : Look → Result SearchStep FindRefusal → Option (Result LookAnswer FindRefusal)
seen_with look (Ok step) = seen_at look step.reached
seen_with look (Err refusal) = Some (Err refusal)

-- The step began where the look had come to: what was seen before counts, and the later posting of
-- both.
abbrev pub Meets : Look → Option Posting → Look → Type 0
Meets old posting new = (new.since ≡ old.since) × IsLater old.posting posting new.posting

-- The step passed over records, and began with that one: nothing that was seen before counts.
abbrev pub BeginsAnew : ℕ → Option Posting → Look → Type 0
BeginsAnew began posting new = (new.since ≡ began) × (new.posting ≡ posting)

-- What counts after a step that began with that record and found that posting, and where the next
-- step begins.
abbrev pub IsTakenIn : Look → ℕ → Option Posting → ℕ → Look → Type 0
IsTakenIn old began posting next new =
    (began ≤ old.from → Meets old posting new) × (old.from < began → BeginsAnew began posting new)
    × (new.from ≡ next)

-- How a look goes on by a step: the next one begins where this one ended, or where it began if it
-- looked at no record.
abbrev pub GoesOnBy : Look → Option Posting → Reached → Look → Type 0
GoesOnBy old posting (reached.Further began number end) new = IsTakenIn old began posting number new
GoesOnBy old posting (reached.All began since) new = IsTakenIn old began posting old.from new
GoesOnBy old posting reached.LookingBack new = new ≡ old

-- One run of steps has seen the records from `since` on: each began no later than where the ones
-- before it had come to, and the posting is the latest of those that they found.
pub data HasSeen (since : ℕ) : ℕ → Option Posting → Type 0 where
  begins : HasSeen since since None
  goes_on : (from began next : ℕ) (before found after : Option Posting) → HasSeen since from before
      → began ≤ from → IsLater before found after → HasSeen since next after

-- its reference is above 0, if there is one
abbrev pub IsAbove : Option Posting → Type 0
IsAbove posting = IfSome posting (λ last. 0 < reference_of last.entry)

-- what a look tells that goes on in an archive, if that could be read
abbrev pub seen_farther : ℕ → Option LookAnswer → LookAnswer
seen_farther since None = record { posting = None; since = since }
seen_farther since (Some seen) = record { posting = seen.posting; since = min seen.since since }

-- there is a posting, with that reference
abbrev pub IsUnder : ℕ → Option Posting → Type 0
IsUnder reference posting = IsSomeAnd posting (λ found. reference_of found.entry ≡ reference)

-- All are known if one is in sight, or all batches are.
abbrev pub earlier_of : Option Posting → ℕ → Earlier
earlier_of (Some last) since = earlier.Known
earlier_of None zero = earlier.Known
earlier_of None (suc before) = earlier.OutOfSight (suc before)

-- what is known by a look of the references that were posted before
abbrev pub earlier_by : LookAnswer → Earlier
earlier_by seen = earlier_of seen.posting seen.since
