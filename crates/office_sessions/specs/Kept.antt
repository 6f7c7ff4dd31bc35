-- What became of an office that was kept open for its counters, and what one leaves that wasn't, or
-- isn't told of.
use Rattle.std.specs.Prelude.{◌≡◌, ◌<◌, ℕ, List, length, map}
use Rattle.std.specs.List.{slice_index_or}
use Rattle.sector_device.specs.Device.{DeviceState}
use Rattle.four_state.specs.Configuration.{stations}
use Rattle.line_lock.specs.OpenedOn.{WasLeftByClerk}
use Rattle.station_desk.specs.Rings.{FeedState, AreTogether}
use Rattle.station_desk.specs.declared.messages.Answer.{Answer}
use Rattle.office_day.specs.declared.seated.StationRemains.{StationRemains}
use Rattle.office_day.specs.declared.reconciled.StationDay.{StationDay}
use Rattle.office_day.specs.Archive.{Archive}
use Rattle.office_day.specs.Spans.{AreSpans, Rest, Span, WasKeptOpen, WasAbandoned}
use Rattle.office_sessions.specs.Conversation.{ConversationState}
use Rattle.office_sessions.specs.Over.{IsHeard}
use Rattle.office_sessions.specs.Right.{WasReported}
use Rattle.office_sessions.specs.Session.{own_of_all}
use Rattle.office_sessions.specs.declared.counter.Unserved.{Unserved}
use Rattle.office_sessions.specs.declared.counter.Unserved.TheVariants as unserved
use Rattle.office_sessions.specs.declared.open_office.LiveRefusal.{LiveRefusal}
use Rattle.office_sessions.specs.declared.open_office.LiveRefusal.TheVariants.{Memory, Threads}
use Rattle.office_sessions.specs.declared.open_office.LiveRefusal.TheVariants.{Office, Unsettled}

-- the feed stands at the rings of the desk that its station left
abbrev pub stands_with : FeedState → StationRemains → Type 0
stands_with feed part = AreTogether feed part.desk

-- An office was kept open from there on, of whose spans this is the last, for counters with whom it
-- had these conversations: each was told the answers that were collected for it, and what it asked
-- for was heard. A look at a station's own postings begins with that batch: its caller says that
-- only offices posted from there on. What was reported to a session is an answer of an office that
-- was opened behind spans that could follow from there. Its archive was kept behind each of the
-- earlier ones.
pub record WasKeptFor {D : Type 0} (state : D → DeviceState) (moves first : ℕ) (from : Rest D)
    (last : Span D) (days : List StationDay)
    (conversations : List ConversationState) (old new : Archive) : Type 0 where
  pub collected : List (List Answer)
  pub kept : WasKeptOpen state moves from last collected days old new
  pub as_many : length conversations ≡ stations from.line
  pub own : map (λ (c : ConversationState). c.own) conversations
      ≡ own_of_all first (stations from.line)
  pub heard : (i : ℕ) (conversation : ConversationState) (answers : List Answer) (day : StationDay)
      → i < stations from.line
      → IsHeard (WasReported state moves from) (slice_index_or conversations i conversation)
      (slice_index_or collected i answers) (slice_index_or days i day)

-- why an office isn't kept open, one of whose counters can't be served
abbrev pub live_refusal : Unserved → LiveRefusal
live_refusal unserved.Memory = Memory
live_refusal unserved.Threads = Threads

-- The device comes from an office that was kept open from there on, for some spans in a row and one
-- more: a clerk took turns on it.
pub record WasLeftOpen {D : Type 0} (state : D → DeviceState) (moves : ℕ) (from : Rest D)
    (after : D) : Type 0 where
  pub earlier : List (Span D)
  pub between : Rest D
  pub joined : AreSpans state moves from earlier between
  pub left : WasLeftByClerk state (state between.device) between.line after

-- What the device is that comes back: the clerk's, where nothing was done; what an office left that
-- was broken off; or what a clerk left.
abbrev pub HandsBack : {D : Type 0} → (D → DeviceState) → ℕ → Rest D → D → LiveRefusal → Type 0
HandsBack state moves from after Memory = after ≡ from.device
HandsBack state moves from after Threads = after ≡ from.device
HandsBack state moves from after (Office refusal) = WasAbandoned state moves from after refusal
HandsBack state moves from after Unsettled = WasLeftOpen state moves from after
