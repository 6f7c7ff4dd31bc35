-- What a conversation with a counter was when it is over.
use Rattle.std.specs.Prelude.{◌≡◌, false, List, [], ◌++◌, map, All}
use Rattle.station_desk.specs.Messages.{entries_of, asks_of}
use Rattle.station_desk.specs.declared.errand.Question.{Question}
use Rattle.station_desk.specs.declared.errand.Report.{Report}
use Rattle.station_desk.specs.Rings.{FeedState}
use Rattle.station_desk.specs.declared.messages.Answer.{Answer}
use Rattle.office_day.specs.declared.reconciled.StationDay.{StationDay}
use Rattle.turn_ledger.specs.declared.entry.Entry.{Entry}
use Rattle.office_sessions.specs.declared.look.OwnPostings.{OwnPostings}
use Rattle.office_sessions.specs.Rising.{AreAbove, PostsRising}
use Rattle.office_sessions.specs.Conversation.{ConversationState}
use Rattle.office_sessions.specs.Conversation.{answers_among, response_of}
use Rattle.office_sessions.specs.Exchange.{WereAnswered}
use Rattle.office_sessions.specs.Replies.{AreToldBy, RiseFromEarlier}
use Rattle.office_sessions.specs.Right.{IsRight}
use Rattle.office_sessions.specs.declared.messages.Message.{Message}
use Rattle.office_sessions.specs.declared.replies.Reply.{Reply}
use Rattle.office_sessions.specs.declared.responses.Response.{Response}

-- What was told of the ledger, of the archive or of copies is right by the replies; and references
-- were used only above what some look at the station's postings saw.
pub record FollowsReplies (own : OwnPostings) (told : List Response) (heard : List Reply)
    (asked : List Entry) : Type 0 where
  pub right : AreToldBy own told heard
  pub rise : ∥ RiseFromEarlier own heard told asked ∥₁

-- The conversation with a counter is over, whose requests went by this feed: its messages were
-- answered, in order; the answers among its responses are those that were collected, each once; the
-- references of the entries that were submitted are above; and what else was told follows from the
-- replies that its session heard.
pub record IsOver (feed : FeedState) (heard : List Reply)
    (conversation : ConversationState) : Type 0 where
  pub told : answers_among conversation.told ≡ map response_of feed.collected
  pub answered : ∥ WereAnswered conversation.said conversation.told (entries_of feed.asked)
      conversation.unheard ∥₁
  pub above : AreAbove feed.asked feed.collected
  pub follows : FollowsReplies conversation.own conversation.told heard (entries_of feed.asked)

-- The counter may be told something more: no question is left without an answer, and no entry is
-- unheard.
abbrev pub IsOpen : ConversationState → Type 0
IsOpen conversation = (conversation.is_silent ≡ false) × (conversation.unheard ≡ [])

-- The messages were answered, but for these, which are looked at next if the counter may be told
-- something more. It wasn't told at last that the office closes.
pub record AreAnsweredUpTo (next : List Message) (conversation : ConversationState)
    (asked : List Entry) : Type 0 where
  pub were : WereAnswered conversation.said conversation.told asked conversation.unheard
  pub not_closed : were.closing ≡ []
  pub rest : IsOpen conversation → were.rest ≡ next
  pub waiting : IsOpen conversation → were.waiting ≡ []

-- The conversation ends: these messages are looked at next, and then the counter is told that the
-- office closes.
pub record IsEnding (next : List Message) (feed : FeedState) (heard : List Reply)
    (conversation : ConversationState) : Type 0 where
  pub told : answers_among conversation.told ≡ map response_of feed.collected
  pub answered : ∥ AreAnsweredUpTo next conversation (entries_of feed.asked) ∥₁
  pub above : AreAbove feed.asked feed.collected
  pub follows : FollowsReplies conversation.own conversation.told heard (entries_of feed.asked)

-- A conversation that ends with the first of these messages still to be looked at goes on, whatever
-- its feed, to end with the second ones still to be looked at.
abbrev pub EndsOn : List Message → List Message → ConversationState → ConversationState → Type 0
EndsOn before after old new =
    (feed : FeedState) (heard : List Reply) → IsEnding before feed heard old
    → IsEnding after feed heard new

-- the entries of what became of a station's requests: those whose answers were collected, those
-- whose answers weren't, and those without an answer
abbrev pub entries_asked : List Answer → StationDay → List Entry
entries_asked collected day =
    entries_of (asks_of collected ++ asks_of day.answers.items ++ day.unanswered.items)

-- The conversation is over, and so the counter's requests were answered: these answers were
-- collected, and the rest is in what its station left. So the first entry that was submitted has
-- the first of these answers, and so on. The references above 0 of those that were posted rise.
-- What else was told follows from some replies, of which each report is one of these.
pub record IsHeard (reports : Question → Report → Type 0) (conversation : ConversationState)
    (collected : List Answer) (day : StationDay) : Type 0 where
  pub told : answers_among conversation.told ≡ map response_of collected
  pub answered : ∥ WereAnswered conversation.said conversation.told (entries_asked collected day)
      conversation.unheard ∥₁
  pub rising : PostsRising (collected ++ day.answers.items)
  pub replies : List Reply
  pub reported : All (IsRight reports) replies
  pub follows : FollowsReplies conversation.own conversation.told replies
      (entries_asked collected day)
