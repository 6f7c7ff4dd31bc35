-- What a counter's session keeps while the counter is told something, or nothing.
use Rattle.std.specs.Prelude.{◌≡◌, ◌<◌, ℕ, zero, suc, List, [], ◌∷◌, ◌++◌, map, All}
use Rattle.rtrb.specs.Ring.{known_free}
use Rattle.office_sessions.specs.declared.look.OwnPostings.{OwnPostings}
use Rattle.office_sessions.specs.declared.session.Session.{Session}
use Rattle.station_desk.specs.Rings.{FeedState, StandsAt, AllStandAt}
use Rattle.station_desk.specs.declared.errand.Question.{Question}
use Rattle.station_desk.specs.declared.errand.Report.{Report}
use Rattle.office_sessions.specs.Conversation.{ConversationState}
use Rattle.office_sessions.specs.Over.{IsOver}
use Rattle.office_sessions.specs.Right.{IsRight}

-- There is a place for one response more than those to the entries that are under way.
abbrev pub HasPlace : {L : Type 0} → Session L → Type 0
HasPlace session = session.postings.unanswered < known_free session.responses

-- The counter was told at most something else than an answer: nothing was submitted or collected.
pub record OnlyTells {L : Type 0} (old new : Session L) : Type 0 where
  pub own : new.own ≡ old.own
  pub feed : new.postings.feed ≡ old.postings.feed
  pub unanswered : new.postings.unanswered ≡ old.postings.unanswered

-- It was told nothing at all.
pub record TellsNothing {L : Type 0} (old new : Session L) : Type 0 where
  pub own : new.own ≡ old.own
  pub feed : new.postings.feed ≡ old.postings.feed
  pub next : new.next ≡ old.next
  pub unanswered : new.postings.unanswered ≡ old.postings.unanswered
  pub room : new.responses ≡ old.responses

-- What it knows of earlier references stays.
pub record KeepsLearned {L : Type 0} (old new : Session L) : Type 0 where
  pub own : new.own ≡ old.own
  pub earlier : new.earlier ≡ old.earlier
  pub posted : new.postings.posted ≡ old.postings.posted

-- What it is looking for stays too.
pub record KeepsLooking {L : Type 0} (old new : Session L) : Type 0 where
  pub learned : KeepsLearned old new
  pub search : new.search ≡ old.search
  pub look : new.look ≡ old.look
  pub limit : new.limit ≡ old.limit

-- It looks at the same postings as before, and its feed stands at the same rings.
pub record StaysAt {L : Type 0} (old new : Session L) : Type 0 where
  pub own : new.own ≡ old.own
  pub rings : StandsAt old.postings.feed new.postings.feed

abbrev pub own_of : {L : Type 0} → Session L → OwnPostings
own_of session = session.own

abbrev pub feed_of : {L : Type 0} → Session L → FeedState
feed_of session = session.postings.feed

-- There are as many sessions as before, in the same order, and each stays so.
pub record AllStayAt {L : Type 0} (old new : List (Session L)) : Type 0 where
  pub own : map own_of new ≡ map own_of old
  pub rings : AllStandAt (map feed_of old) (map feed_of new)

-- what the sessions of so many stations look at, station 0 first
abbrev pub own_of_all : ℕ → ℕ → List OwnPostings
own_of_all first zero = []
own_of_all first (suc stations) =
    own_of_all first stations ++ record { station = stations; first = first } ∷ []

-- The session ended in that conversation, by the replies that it heard, of which each report is one
-- of these.
pub record EndsIn {L : Type 0} (reports : Question → Report → Type 0) (session : Session L)
    (conversation : ConversationState) : Type 0 where
  pub own : conversation.own ≡ session.own
  pub right : All (IsRight reports) session.replies
  pub over : IsOver session.postings.feed session.replies conversation
