-- What a counter may be told, by the replies that came to its session.
use Rattle.std.specs.Prelude.{◌≡◌, ◌≢◌, ◌⊎◌, ◌+◌, ◌^◌, ◌-◌, ◌<◌, ◌≤◌, ℕ, List, [], ◌∷◌, ◌++◌, All}
use Rattle.std.specs.Prelude.{Contains, Option, Some, None, IfSome, Result, Ok, Err}
use Rattle.std.proofs.Common.{inl, inr}
use Rattle.turn_ledger.specs.declared.entry.Entry.{Entry}
use Rattle.turn_ledger.specs.Entry.{reference_of}
use Rattle.turn_clerk.specs.declared.searching.Reached.TheVariants as reached
use Rattle.turn_clerk.specs.declared.searching.SearchStep.{SearchStep}
use Rattle.turn_clerk.specs.declared.search_target.Posting.{Posting}
use Rattle.turn_clerk.specs.declared.search_target.SearchTarget.TheVariants as sought
use Rattle.turn_clerk.specs.declared.refusals.FindRefusal.{FindRefusal}
use Rattle.line_lock.specs.declared.told.Room.{Room}
use Rattle.station_desk.specs.declared.errand.Question.{Question}
use Rattle.station_desk.specs.declared.errand.Question.TheVariants as question
use Rattle.station_desk.specs.declared.errand.Report.TheVariants as report
use Rattle.office_sessions.specs.declared.look.OwnPostings.{OwnPostings}
use Rattle.office_sessions.specs.Conversation.{own_question, counted_by, MeetsAt}
use Rattle.office_sessions.specs.Conversation.{EndsAt, IsAll}
use Rattle.office_sessions.specs.Looked.{GoesOnBy, seen_at, seen_farther, earlier_by, IsUnder}
use Rattle.office_sessions.specs.declared.look.Look.{Look}
use Rattle.office_sessions.specs.declared.look.LookAnswer.{LookAnswer}
use Rattle.office_sessions.specs.declared.search.Search.{Search}
use Rattle.office_sessions.specs.declared.search.Step.{Step}
use Rattle.office_sessions.specs.declared.search.Step.TheVariants as stepped
use Rattle.office_sessions.specs.declared.session.Earlier.{Earlier}
use Rattle.office_sessions.specs.declared.session.Earlier.TheVariants as earlier
use Rattle.office_sessions.specs.declared.recess.ArchiveState.TheVariants as archive
use Rattle.office_sessions.specs.declared.recess.WishOutcome.TheVariants as wish
use Rattle.office_sessions.specs.declared.replies.Reply.{Reply}
use Rattle.office_sessions.specs.declared.replies.Reply.TheVariants as reply
use Rattle.office_sessions.specs.declared.responses.Judgement.{Judgement}
use Rattle.office_sessions.specs.declared.responses.Judgement.TheVariants as judgement
use Rattle.office_sessions.specs.declared.responses.Response.{Response}
use Rattle.office_sessions.specs.declared.responses.Response.TheVariants as response
use Rattle.office_sessions.specs.declared.status.OfficeStatus.{OfficeStatus}

-- it came last
pub record CameLast (reply : Reply) (heard : List Reply) : Type 0 where
  pub before : List Reply
  pub all : heard ≡ before ++ reply ∷ []

-- It held of what had come at some moment.
pub record HeldAtSomeMoment (P : List Reply → Type 0) (heard : List Reply) : Type 0 where
  pub before : List Reply
  pub later : List Reply
  pub all : heard ≡ before ++ later
  pub so : P before

-- the reply that reports this step to what the search asks next
abbrev pub step_of_search : Search → Result SearchStep FindRefusal → Reply
step_of_search search step =
    reply.Report (question.Search (sought.Reference search.reference) search.from search.end)
    (report.Searched step)

-- How a search goes on by a step.
pub record SearchesOn (before : Search) (step : SearchStep) (after : Search) : Type 0 where
  pub over : IsAll step.reached → after ≡ before
  pub reference : after.reference ≡ before.reference
  pub from : MeetsAt before.from step.reached after.from
  pub end : EndsAt before.end step.reached after.end
  pub count : after.count ≡ counted_by before.count step.posting step.reached

-- A search has come so far by steps that were reported, each from where the one before ended.
pub data HasSearched (heard : List Reply) : Search → Type 0 where
  search_begins : (reference : ℕ) → HasSearched heard
      (record { reference = reference; from = 0; end = 2 ^ 64 - 1; count = 0 })
  search_goes_on : (before after : Search) (step : SearchStep) → HasSearched heard before
      → Contains heard (step_of_search before (Ok step)) → SearchesOn before step after
      → HasSearched heard after

-- the step came to the last record of a search, for which all from that number on were looked at
abbrev pub IsLastStep : ℕ → SearchStep → Type 0
IsLastStep since step = (began : ℕ) × (step.reached ≡ reached.All began since)

-- A search ended with what was reported last, and had found so many records.
pub record HasFound (count since : ℕ) (heard : List Reply) : Type 0 where
  pub search : Search
  pub searched : ∥ HasSearched heard search ∥₁
  pub step : SearchStep
  pub came : CameLast (step_of_search search (Ok step)) heard
  pub last : IsLastStep since step
  pub counted : search.count ≡ count

-- A search came upon a record with what was reported last.
pub record HasMet (number reference : ℕ) (heard : List Reply) : Type 0 where
  pub search : Search
  pub searched : ∥ HasSearched heard search ∥₁
  pub named : search.reference ≡ reference
  pub step : SearchStep
  pub came : CameLast (step_of_search search (Ok step)) heard
  pub posting : Posting
  pub met : step.posting ≡ Some posting
  pub at : posting.number ≡ number

-- A step of a search, or of a look, failed last, for that reason.
pub record FailedLast (refusal : FindRefusal) (heard : List Reply) : Type 0 where
  pub asked : Question
  pub came : CameLast (reply.Report asked (report.Searched (Err refusal))) heard

-- a step of a look at what was posted at a station up to a reference
abbrev pub step_of_look : OwnPostings → ℕ → Look → Result SearchStep FindRefusal → Reply
step_of_look own limit look step =
    reply.Report (own_question own.station limit look.from) (report.Searched step)

-- A look has come so far by steps that were reported: the first from the first batch on that only
-- offices posted, and each other one from where the one before ended.
pub data HasLooked (own : OwnPostings) (limit : ℕ) (heard : List Reply) : Look → Type 0 where
  look_begins : HasLooked own limit heard
      (record { from = own.first; since = own.first; posting = None })
  look_goes_on : (before after : Look) (step : SearchStep) → HasLooked own limit heard before
      → Contains heard (step_of_look own limit before (Ok step))
      → GoesOnBy before step.posting step.reached after → HasLooked own limit heard after

-- A look ended with the last reply, and tells this.
pub record HasSeenLast (own : OwnPostings) (limit : ℕ) (seen : LookAnswer)
    (heard : List Reply) : Type 0 where
  pub look : Look
  pub looked : ∥ HasLooked own limit heard look ∥₁
  pub step : SearchStep
  pub came : CameLast (step_of_look own limit look (Ok step)) heard
  pub after : Look
  pub goes_on : GoesOnBy look step.posting step.reached after
  pub tells : seen_at after step.reached ≡ Some (Ok seen)

-- the reference of that posting, 0 if there is none
abbrev pub greatest_in : Option Posting → ℕ
greatest_in None = 0
greatest_in (Some last) = reference_of last.entry

-- what a look tells that saw nothing from that number on
abbrev pub nothing_since : ℕ → LookAnswer
nothing_since since = record { posting = None; since = since }

-- A look at what was posted at a station tells this in the end: by the records in sight, if they
-- are enough to know it, or by the archive, which was asked behind them if they weren't.
pub data HasSeenAll (own : OwnPostings) (seen : LookAnswer) (heard : List Reply) : Type 0 where
  in_sight : HasSeenLast own (2 ^ 64 - 1) seen heard → earlier_by seen ≡ earlier.Known
      → HasSeenAll own seen heard
  in_archive : (since : ℕ) (kept : Option LookAnswer) (before : List Reply)
      → HasSeenLast own (2 ^ 64 - 1) (nothing_since since) before
      → heard ≡ before ++ reply.Outcome (wish.Last kept) ∷ [] → seen ≡ seen_farther since kept
      → HasSeenAll own seen heard

-- the greatest reference that was seen, 0 if none was
abbrev pub greatest_of : LookAnswer → ℕ
greatest_of seen = greatest_in seen.posting

-- The reference is above the one that was seen, if there is one.
abbrev pub IsAboveSeen : LookAnswer → ℕ → Type 0
IsAboveSeen seen reference = IfSome seen.posting (λ last. reference_of last.entry < reference)

-- Neither this entry nor another one was seen under its reference, and batches are out of sight.
pub record IsUnknown (entry : Entry) (seen : LookAnswer) (since : ℕ) : Type 0 where
  pub there : 0 < since
  pub told : since ≡ seen.since
  pub none : IsUnder (reference_of entry) seen.posting → ⊥

-- The entry wasn't seen, and if batches are out of sight another one was, under its reference.
pub record IsUsed (entry : Entry) (seen : LookAnswer) : Type 0 where
  pub other : (number : ℕ) → seen.posting ≢ Some (record { number = number; entry = entry })
  pub under : 0 < seen.since → IsUnder (reference_of entry) seen.posting

-- With the last reply a look at the postings up to the entry's reference ended, and this holds of
-- what it saw.
pub record HasSeenUpTo (own : OwnPostings) (entry : Entry) (P : LookAnswer → Type 0)
    (heard : List Reply) : Type 0 where
  pub seen : LookAnswer
  pub last : HasSeenLast own (reference_of entry) seen heard
  pub so : P seen

-- A look at the station's postings, in sight and in the archive, saw none from that batch on,
-- before which there are others.
abbrev pub SawNothing : OwnPostings → ℕ → List Reply → Type 0
SawNothing own since heard =
    (0 < since) × HeldAtSomeMoment (HasSeenAll own (nothing_since since)) heard

-- The reference is more than 2^32 above the one that a look saw, or above 0 if it saw none.
pub record IsTooFar (own : OwnPostings) (reference : ℕ) (heard : List Reply) : Type 0 where
  pub seen : LookAnswer
  pub looked : HeldAtSomeMoment (HasSeenAll own seen) heard
  pub far : greatest_of seen + 2 ^ 32 < reference

-- What became of an entry that wasn't submitted: it is as the look at the postings up to its
-- reference told; or nothing of its station is in sight; or its reference is too far above any.
abbrev pub IsJudgedBy : OwnPostings → Entry → Judgement → List Reply → Type 0
IsJudgedBy own entry (judgement.Posted number) heard =
    HasSeenUpTo own entry
    (λ seen. seen.posting ≡ Some (record { number = number; entry = entry })) heard
IsJudgedBy own entry judgement.Reference heard =
    HasSeenUpTo own entry (IsUsed entry) heard ⊎ IsTooFar own (reference_of entry) heard
IsJudgedBy own entry (judgement.Unknown since) heard =
    HasSeenUpTo own entry (λ seen. IsUnknown entry seen since) heard ⊎ SawNothing own since heard
IsJudgedBy own entry (judgement.NotSeen refusal) heard = FailedLast refusal heard

-- A look at what was posted at the station saw no posting with this reference or a greater one.
pub record IsFirst (own : OwnPostings) (reference : ℕ) (heard : List Reply) : Type 0 where
  pub seen : LookAnswer
  pub looked : HeldAtSomeMoment (HasSeenAll own seen) heard
  pub above : IsAboveSeen seen reference

-- An office stands as its station told last.
pub record StandsAs (status : OfficeStatus) (heard : List Reply) : Type 0 where
  pub room : Room
  pub came : CameLast (reply.Report question.Room (report.Room room)) heard
  pub next : status.next ≡ room.next
  pub free : status.free ≡ room.free

-- The response is right by the replies, so far as it tells of the ledger, the archive or copies.
-- What is told of an entry that was submitted is its answer, which is no reply. That a first
-- reference is refused says no more than that a look was made.
abbrev pub IsToldBy : OwnPostings → Response → List Reply → Type 0
IsToldBy own (response.Balance account amount) heard =
    CameLast (reply.Report (question.Balance account) (report.Balance (Ok amount))) heard
IsToldBy own (response.NoBalance refusal) heard =
    (account : ℕ)
    × CameLast (reply.Report (question.Balance account) (report.Balance (Err refusal))) heard
IsToldBy own (response.Found number reference) heard = HasMet number reference heard
IsToldBy own (response.FoundInAll count since) heard = HasFound count since heard
IsToldBy own (response.NotFound refusal) heard = FailedLast refusal heard
IsToldBy own (response.Judged entry judged) heard = IsJudgedBy own entry judged heard
IsToldBy own (response.Last seen) heard = HasSeenAll own seen heard
IsToldBy own (response.First reference) heard = IsFirst own reference heard
IsToldBy own (response.Archived next) heard =
    CameLast (reply.Outcome (wish.Archive (archive.UpTo next))) heard
IsToldBy own response.NoArchive heard =
    CameLast (reply.Outcome (wish.Archive archive.NoArchive)) heard
IsToldBy own (response.Copied next) heard =
    CameLast (reply.Outcome (wish.Copy (Ok next))) heard
IsToldBy own (response.NoCopy refusal) heard =
    CameLast (reply.Outcome (wish.Copy (Err refusal))) heard
IsToldBy own (response.Status status) heard = StandsAs status heard
IsToldBy own (response.NotFirst reference) heard =
    (seen : LookAnswer) × HeldAtSomeMoment (HasSeenAll own seen) heard
IsToldBy own (response.Posted number reference) heard = Unit {0}
IsToldBy own (response.Refused refusal reference) heard = Unit {0}
IsToldBy own (response.Undecided reference) heard = Unit {0}
IsToldBy own (response.Hello number) heard = Unit {0}
IsToldBy own response.Name heard = Unit {0}
IsToldBy own response.Closed heard = Unit {0}
IsToldBy own (response.Wrong wrong) heard = Unit {0}
IsToldBy own response.Help heard = Unit {0}
IsToldBy own response.Closing heard = Unit {0}

-- What is told of a step of a search for a reference is right.
abbrev pub IsToldByStep : OwnPostings → ℕ → Step → List Reply → Type 0
IsToldByStep own reference stepped.UnderWay heard = Unit {0}
IsToldByStep own reference (stepped.Found number) heard =
    IsToldBy own (response.Found number reference) heard
IsToldByStep own reference (stepped.Last last) heard = IsToldBy own last heard

-- The response tells nothing of the ledger, the archive or copies.
abbrev pub IsPlain : Response → Type 0
IsPlain one = (own : OwnPostings) (heard : List Reply) → IsToldBy own one heard

-- Each response was right by what had come at some moment.
abbrev pub AreToldBy : OwnPostings → List Response → List Reply → Type 0
AreToldBy own told heard = All (λ one. ∥ HeldAtSomeMoment (IsToldBy own one) heard ∥₁) told

-- none of the entries has a reference
abbrev pub AreWithoutReference : List Entry → Type 0
AreWithoutReference asked = All (λ entry. reference_of entry ≡ 0) asked

-- each reference of the entries is above the one that was seen
abbrev pub AreAboveSeen : LookAnswer → List Entry → Type 0
AreAboveSeen seen asked =
    All (λ entry. 0 < reference_of entry → IsAboveSeen seen (reference_of entry)) asked

-- The client said with which reference its own begin, and no entry has one below.
pub record BeginsWith (told : List Response) (asked : List Entry) : Type 0 where
  pub reference : ℕ
  pub said : Contains told (response.First reference)
  pub from : All (λ entry. 0 < reference_of entry → reference ≤ reference_of entry) asked

-- What was posted before is known by what was seen; or nobody knows, and the client said where to
-- begin.
abbrev pub IsEnough : LookAnswer → List Response → List Entry → Type 0
IsEnough seen told asked = (earlier_by seen ≡ earlier.Known) ⊎ BeginsWith told asked

-- A look saw what was posted at a station before, which is enough to go by, and each reference of
-- these entries is above the one that it saw.
pub record AreAboveEarlier (own : OwnPostings) (heard : List Reply) (told : List Response)
    (asked : List Entry) : Type 0 where
  pub seen : LookAnswer
  pub looked : HeldAtSomeMoment (HasSeenAll own seen) heard
  pub enough : IsEnough seen told asked
  pub above : AreAboveSeen seen asked

-- References are used only above what some look at the station's postings saw.
abbrev pub RiseFromEarlier : OwnPostings → List Reply → List Response → List Entry → Type 0
RiseFromEarlier own heard told asked =
    AreWithoutReference asked ⊎ AreAboveEarlier own heard told asked

-- the reference that was seen is at most that one, if there is one
abbrev pub IsWithin : ℕ → LookAnswer → Type 0
IsWithin most seen = IfSome seen.posting (λ last. reference_of last.entry ≤ most)

-- if the client said where to begin, it is at most behind that one
abbrev pub IsFrom : (seen : LookAnswer) (told : List Response) (asked : List Entry) → ℕ
    → IsEnough seen told asked → Type 0
IsFrom seen told asked most (inl known) = Unit {0}
IsFrom seen told asked most (inr begins) = begins.reference ≤ most + 1

-- What a session knows of the references that were posted at its station before, none of which is
-- above `posted`.
abbrev pub IsLearned : OwnPostings → List Reply → List Response → List Entry → ℕ → Earlier → Type 0
IsLearned own heard told asked posted earlier.Unlooked = AreWithoutReference asked
IsLearned own heard told asked posted (earlier.OutOfSight since) =
    AreWithoutReference asked × SawNothing own since heard
IsLearned own heard told asked posted earlier.Known =
    (above : AreAboveEarlier own heard told asked) × IsWithin posted above.seen
    × IsFrom above.seen told asked posted above.enough
