-- What a counter says and is told, message by message and response by response.
use Rattle.std.specs.Prelude.{◌≡◌, ◌⊎◌, ◌+◌, ◌-◌, ◌^◌, ◌<◌, ℕ, Bool, true, false, min, List}
use Rattle.std.specs.Prelude.{[], ◌∷◌, ◌++◌, filter, length, Option, Some, None, IfSome}
use Rattle.std.specs.Prelude.{Result, Ok, Err}
use Rattle.std.specs.List.{flat_map}
use Rattle.turn_ledger.specs.declared.entry.Entry.{Entry}
use Rattle.turn_ledger.specs.Entry.{reference_of}
use Rattle.text_grammar.specs.declared.requests.Request.TheVariants as request
use Rattle.turn_clerk.specs.declared.searching.Reached.{Reached}
use Rattle.turn_clerk.specs.declared.searching.Reached.TheVariants as reached
use Rattle.turn_clerk.specs.declared.searching.SearchStep.{SearchStep}
use Rattle.turn_clerk.specs.declared.search_target.Posting.{Posting}
use Rattle.turn_clerk.specs.declared.search_target.SearchTarget.TheVariants as sought
use Rattle.turn_clerk.specs.declared.refusals.FindRefusal.{FindRefusal}
use Rattle.line_lock.specs.declared.refusals.BalanceRefusal.{BalanceRefusal}
use Rattle.station_desk.specs.declared.errand.Question.{Question}
use Rattle.station_desk.specs.declared.errand.Question.TheVariants as question
use Rattle.station_desk.specs.declared.messages.Answer.{Answer}
use Rattle.station_desk.specs.declared.messages.Outcome.{Outcome}
use Rattle.station_desk.specs.declared.messages.Outcome.TheVariants as outcome
use Rattle.office_sessions.specs.declared.messages.Message.{Message}
use Rattle.office_sessions.specs.declared.messages.Message.TheVariants.{Asked, Wrong, Ended}
use Rattle.office_sessions.specs.declared.look.OwnPostings.{OwnPostings}
use Rattle.office_sessions.specs.declared.search.Search.{Search}
use Rattle.office_sessions.specs.declared.search.Step.{Step}
use Rattle.office_sessions.specs.declared.search.Step.TheVariants as stepped
use Rattle.office_sessions.specs.declared.responses.Response.{Response}
use Rattle.office_sessions.specs.declared.responses.Response.TheVariants as response

-- what is told of an outcome of the entry with that reference
abbrev pub told_of : ℕ → Outcome → Response
told_of reference (outcome.Posted number) = response.Posted number reference
told_of reference (outcome.Refused refusal) = response.Refused refusal reference
told_of reference outcome.Undecided = response.Undecided reference

-- what is told of an answer
abbrev pub response_of : Answer → Response
response_of answer = told_of (reference_of answer.entry) answer.outcome

-- It tells of an entry that was submitted.
abbrev pub is_answer : Response → Bool
is_answer (response.Posted number reference) = true
is_answer (response.Refused refusal reference) = true
is_answer (response.Undecided reference) = true
is_answer (response.Found number reference) = false
is_answer (response.Balance account amount) = false
is_answer (response.NoBalance refusal) = false
is_answer (response.FoundInAll count since) = false
is_answer (response.NotFound refusal) = false
is_answer (response.Judged entry judgement) = false
is_answer (response.Last seen) = false
is_answer (response.First reference) = false
is_answer (response.NotFirst reference) = false
is_answer (response.Hello number) = false
is_answer (response.Archived next) = false
is_answer response.NoArchive = false
is_answer (response.Copied next) = false
is_answer (response.NoCopy refusal) = false
is_answer (response.Status status) = false
is_answer response.Name = false
is_answer response.Closed = false
is_answer (response.Wrong wrong) = false
is_answer response.Help = false
is_answer response.Closing = false

-- those of the responses that do, in order
abbrev pub answers_among : List Response → List Response
answers_among responses = filter is_answer responses

-- the entry that a message asks to post, if it does
abbrev pub posting_of : Message → List Entry
posting_of (Asked (request.Post entry)) = entry ∷ []
posting_of (Asked (request.Balance account)) = []
posting_of (Asked (request.Find reference)) = []
posting_of (Asked request.Last) = []
posting_of (Asked (request.First reference)) = []
posting_of (Asked (request.Hello number)) = []
posting_of (Asked request.Copy) = []
posting_of (Asked request.Archive) = []
posting_of (Asked request.Status) = []
posting_of (Asked request.Name) = []
posting_of (Asked request.Help) = []
posting_of (Asked request.Close) = []
posting_of (Wrong wrong) = []
posting_of Ended = []

-- the entries that the messages ask to post, in order
abbrev pub postings_among : List Message → List Entry
postings_among messages = flat_map posting_of messages

-- that of the message that is handled next, if there is one
abbrev pub pending : Option Message → List Entry
pending None = []
pending (Some message) = posting_of message

-- The response is the whole answer to that message, which is neither an entry nor a search.
abbrev pub IsResponseTo : Message → Response → Type 0
IsResponseTo (Asked request.Last) (response.Last seen) = Unit {0}
IsResponseTo (Asked request.Last) (response.NotFound refusal) = Unit {0}
IsResponseTo (Asked (request.First reference)) (response.First named) = named ≡ reference
IsResponseTo (Asked (request.First reference)) (response.NotFirst named) = named ≡ reference
IsResponseTo (Asked (request.First reference)) (response.NotFound refusal) = Unit {0}
IsResponseTo (Asked (request.Balance account)) (response.Balance named amount) = named ≡ account
IsResponseTo (Asked (request.Balance account)) (response.NoBalance refusal) = Unit {0}
IsResponseTo (Asked (request.Hello number)) (response.Hello told) = told ≡ number
IsResponseTo (Asked request.Copy) (response.Copied next) = Unit {0}
IsResponseTo (Asked request.Copy) (response.NoCopy refusal) = Unit {0}
IsResponseTo (Asked request.Archive) (response.Archived next) = Unit {0}
IsResponseTo (Asked request.Archive) response.NoArchive = Unit {0}
IsResponseTo (Asked request.Status) (response.Status status) = Unit {0}
IsResponseTo (Asked request.Name) response.Name = Unit {0}
IsResponseTo (Asked request.Help) response.Help = Unit {0}
IsResponseTo (Asked request.Close) response.Closing = Unit {0}
IsResponseTo (Wrong wrong) (response.Wrong told) = told ≡ wrong
IsResponseTo _ _ = ⊥

-- what a counter is told of an account
abbrev pub told_of_balance : ℕ → Result ℕ BalanceRefusal → Response
told_of_balance account (Ok amount) = response.Balance account amount
told_of_balance account (Err refusal) = response.NoBalance refusal

-- what comes of a record that its search found, if it found one
abbrev pub step_of_posting : Option Posting → Step
step_of_posting None = stepped.UnderWay
step_of_posting (Some posting) = stepped.Found posting.number

-- what comes of a step of its search, which found that many records before
abbrev pub step_by : ℕ → Option Posting → Reached → Step
step_by before posting (reached.Further began number end) = step_of_posting posting
step_by before posting (reached.All began since) = stepped.Last (response.FoundInAll before since)
step_by before posting reached.LookingBack = stepped.UnderWay

abbrev pub step_of : ℕ → Result SearchStep FindRefusal → Step
step_of before (Ok told) = step_by before told.posting told.reached
step_of before (Err refusal) = stepped.Last (response.NotFound refusal)

-- A search that counted so many records ends by how many they are, or by why it didn't come to its
-- end.
abbrev pub EndsCount : ℕ → Response → Type 0
EndsCount counted last =
    ((since : ℕ) × (last ≡ response.FoundInAll counted since))
    ⊎ ((refusal : FindRefusal) × (last ≡ response.NotFound refusal))

-- A search begins: with the first record, up to the last one, and has found none.
abbrev pub IsFresh : Search → Type 0
IsFresh search =
    search ≡ record { reference = search.reference; from = 0; end = 2 ^ 64 - 1; count = 0 }

-- A search looks for the same reference as before, and counts each record that it tells of; at last
-- it tells how many it counted.
abbrev pub IsCountedBy : Search → Step → Search → Type 0
IsCountedBy before stepped.UnderWay after =
    (after.reference ≡ before.reference) × (after.count ≡ before.count)
IsCountedBy before (stepped.Found number) after =
    (after.reference ≡ before.reference) × (after.count ≡ min (before.count + 1) (2 ^ 64 - 1))
IsCountedBy before (stepped.Last last) after = EndsCount before.count last

-- how many it found with that record, and with that step
abbrev pub counted_with : ℕ → Option Posting → ℕ
counted_with before None = before
counted_with before (Some posting) = min (before + 1) (2 ^ 64 - 1)

abbrev pub counted_by : ℕ → Option Posting → Reached → ℕ
counted_by before posting (reached.Further began number end) = counted_with before posting
counted_by before posting (reached.All began since) = before
counted_by before posting reached.LookingBack = before

-- what is asked for the own postings of a station up to a reference, where the look at them has
-- come to that record
abbrev pub own_question : ℕ → ℕ → ℕ → Question
own_question station limit own = question.Search (sought.OfStation station limit) own (2 ^ 64 - 1)

-- The question is the one that the message asks at that station, whose search has come so far, or
-- whose look at the counter's own postings has come to that record. An entry asks for its own
-- reference, or for any.
abbrev pub IsQuestionOf : Message → Search → ℕ → ℕ → Question → Type 0
IsQuestionOf (Asked (request.Balance account)) search station own (question.Balance named) =
    named ≡ account
IsQuestionOf (Asked (request.Find reference)) search station own asked =
    asked ≡ question.Search (sought.Reference reference) search.from search.end
IsQuestionOf (Asked (request.Post entry)) search station own asked =
    (asked ≡ own_question station (reference_of entry) own)
    ⊎ (asked ≡ own_question station (2 ^ 64 - 1) own)
IsQuestionOf (Asked request.Last) search station own asked =
    asked ≡ own_question station (2 ^ 64 - 1) own
IsQuestionOf (Asked (request.First reference)) search station own asked =
    asked ≡ own_question station (2 ^ 64 - 1) own
IsQuestionOf (Asked request.Status) search station own question.Room = Unit {0}
IsQuestionOf _ search station own _ = ⊥

-- the same of the message that is handled next, if there is one
abbrev pub IsAskedBy : Option Message → Search → ℕ → ℕ → Question → Type 0
IsAskedBy next search station own asked =
    IfSome next (λ message. IsQuestionOf message search station own asked)

-- Its response may depend on the own postings of its station up to that reference.
abbrev pub MayLook : Option Message → ℕ → ℕ → Type 0
MayLook next station limit =
    (search : Search) (own : ℕ) → IsAskedBy next search station own (own_question station limit own)

-- Where the next step of a search begins: where this step ended, or where it began if it looked at
-- no record.
abbrev pub MeetsAt : ℕ → Reached → ℕ → Type 0
MeetsAt from (reached.Further began number end) next = next ≡ number
MeetsAt from (reached.All began since) next = Unit {0}
MeetsAt from reached.LookingBack next = next ≡ from

-- Where a search ends: before the record of the number that this step told, or where it ended
-- before if the step looked at no records.
abbrev pub EndsAt : ℕ → Reached → ℕ → Type 0
EndsAt before (reached.Further began number told) end = end ≡ told
EndsAt before (reached.All began since) end = Unit {0}
EndsAt before reached.LookingBack end = end ≡ before

-- the step came to the last record of the search
abbrev pub IsAll : Reached → Type 0
IsAll (reached.Further began number end) = ⊥
IsAll (reached.All began since) = Unit {0}
IsAll reached.LookingBack = ⊥

-- A conversation at one moment, with the counter of a station: every message that was taken from
-- its reader and every response that was handed to its writer, each in order; the entries that it
-- asked to post and that nobody submitted; and whether no question is answered any more.
pub record ConversationState : Type 0 where
  pub own : OwnPostings
  pub said : List Message
  pub told : List Response
  pub unheard : List Entry
  pub is_silent : Bool

-- Nothing is answered any more: a question was left without an answer, or an entry is unheard.
abbrev pub IsSilent : ConversationState → Type 0
IsSilent conversation = (conversation.is_silent ≡ true) ⊎ (0 < length conversation.unheard)

-- A counter is told nothing more, but at most that the office closes.
abbrev pub IsToldNoMore : List Response → List Response → Type 0
IsToldNoMore before told = (told ≡ before) ⊎ (told ≡ before ++ response.Closing ∷ [])
