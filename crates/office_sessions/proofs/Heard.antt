-- What was said at the counters of an office, from their feeds and from what their stations left.
use Rattle.std.specs.Prelude.{◌<◌, ◌≡◌, ℕ, List, [], ◌∷◌, length, map, All, refl}
use Rattle.std.specs.List.{AllZip, slice_index_or}
use Rattle.std.proofs.Common.{sym, ◌∙◌, ap, subst, arith}
use Rattle.std.proofs.lemmas.List.{get_or-map, length-map}
use Rattle.std.proofs.lemmas.List.Elements.{All-weaker}
use Rattle.std.proofs.lemmas.Slice.Zip.{AllZip-long}
use Rattle.sector_device.specs.Device.{DeviceState}
use Rattle.four_state.specs.Configuration.{stations}
use Rattle.station_desk.specs.declared.errand.Question.{Question}
use Rattle.station_desk.specs.declared.errand.Report.{Report}
use Rattle.station_desk.specs.declared.messages.Ask.{Ask}
use Rattle.station_desk.specs.declared.messages.Answer.{Answer}
use Rattle.station_desk.specs.declared.end.End.TheVariants.{NotStarted}
use Rattle.station_desk.specs.Messages.{entries_of}
use Rattle.station_desk.specs.Rings.{FeedState, DeskState}
use Rattle.office_day.specs.declared.seated.StationRemains.{StationRemains}
use Rattle.office_day.specs.declared.reconciled.StationDay.{StationDay}
use Rattle.office_day.specs.Day.{IsReconciled, AreReconciled}
use Rattle.office_day.specs.Archive.{Archive}
use Rattle.office_day.specs.Spans.{Span, Rest, HasLived, WasKeptOpen}
use Rattle.office_day.proofs.Lists.{first, AllZip-at}
use Rattle.office_sessions.specs.Conversation.{ConversationState}
use Rattle.office_sessions.specs.Exchange.{WereAnswered}
use Rattle.office_sessions.specs.Over.{IsOver, IsHeard, FollowsReplies}
use Rattle.office_sessions.specs.Right.{IsRight, WasReported}
use Rattle.office_sessions.specs.Session.{EndsIn, own_of, own_of_all, feed_of}
use Rattle.office_sessions.specs.declared.replies.Reply.{Reply}
use Rattle.office_sessions.specs.declared.replies.Reply.TheVariants as reply
use Rattle.office_sessions.specs.declared.session.Session.{Session}
use Rattle.office_sessions.specs.Kept.{WasKeptFor, WasLeftOpen}
use Rattle.office_sessions.proofs.Rising.{posts-rising}

-- one conversation that is over, whose feed is reconciled
heard : (reports : Question → Report → Type 0) (feed : FeedState) (replies : List Reply)
    (conversation : ConversationState) (part : StationRemains) (day : StationDay)
    → IsOver feed replies conversation → All (IsRight reports) replies
    → IsReconciled feed part day → IsHeard reports conversation feed.collected day
heard reports feed replies conversation part day over right done = record {
  told = over.told;
  answered = subst (λ (asked : List Ask).
      ∥ WereAnswered conversation.said conversation.told (entries_of asked) conversation.unheard ∥₁)
      done.asked over.answered;
  replies = replies;
  reported = right;
  follows = subst
      (λ (asked : List Ask). FollowsReplies conversation.own conversation.told replies
      (entries_of asked)) done.asked over.follows;
  rising = posts-rising feed.asked feed.collected day.answers.items day.unanswered.items done.asked
      over.above;
}

-- what the conversations of sessions say of whose postings they looked at
own-of-all : {L : Type 0} (reports : Question → Report → Type 0) (sessions : List (Session L))
    (conversations : List ConversationState) → AllZip (EndsIn reports) sessions conversations
    → map (λ (c : ConversationState). c.own) conversations ≡ map own_of sessions
own-of-all reports [] [] end = refl
own-of-all reports [] (c ∷ conversations) end = absurd end
own-of-all reports (s ∷ sessions) [] end = absurd end
own-of-all reports (s ∷ sessions) (c ∷ conversations) end =
    λ i. end.0.own i ∷ own-of-all reports sessions conversations end.1 i

-- what is right of one office is right of another, if its answers are
right-one : (some all : Question → Report → Type 0)
    → ((question : Question) (report : Report) → some question report → all question report)
    → (one : Reply) → IsRight some one → IsRight all one
right-one some all are (reply.Report question report) right = are question report right
right-one some all are (reply.Outcome came) right = tt

right-by : (some all : Question → Report → Type 0)
    → ((question : Question) (report : Report) → some question report → all question report)
    → (replies : List Reply) → All (IsRight some) replies → All (IsRight all) replies
right-by some all are =
    All-weaker (IsRight some) (IsRight all) (λ reply right. right-one some all are reply right)

-- all of them
module _ {D L : Type 0} (state : D → DeviceState) (moves since : ℕ) (from : Rest D) (last : Span D)
    (reports : Question → Report → Type 0) (desks : List DeskState) (left : List StationRemains)
    (sessions : List (Session L)) (feeds : List FeedState) (days : List StationDay)
    (conversations : List ConversationState) (old new : Archive) where
  pub kept_for : WasKeptOpen state moves from last
      (map (λ (feed : FeedState). feed.collected) feeds) days old new
      → ((question : Question) (report : Report) → reports question report
      → WasReported state moves from question report)
      → length desks ≡ stations from.line → feeds ≡ map feed_of sessions
      → length feeds ≡ stations from.line
      → AllZip (EndsIn reports) sessions conversations → AreReconciled feeds left days
      → map own_of sessions ≡ own_of_all since (stations from.line)
      → WasKeptFor state moves since from last days conversations old new
  kept_for kept named many are fed end done own = record {
    collected = map (λ (feed : FeedState). feed.collected) feeds;
    kept = kept;
    own = own-of-all reports sessions conversations end ∙ own;
    as_many = AllZip-long (EndsIn reports) sessions conversations end
        ∙ sym (length-map sessions feed_of) ∙ sym (ap length are) ∙ fed;
    heard = λ i conversation collected day low.
        let there : i < length feeds = subst (λ n. i < n) (sym fed) low in
        let in_sessions : i < length sessions =
        subst (λ n. i < n) (ap length are ∙ length-map sessions feed_of) there in
        let session = first sessions (omega (arith, in_sessions)) in
        let one = slice_index_or sessions i session in
        let feed = feed_of session in
        let in_desks : i < length desks = subst (λ n. i < n) (sym many) low in
        let part : StationRemains = record {
          desk = first desks (omega (arith, in_desks));
          end = NotStarted;
        } in
        let at : slice_index_or feeds i feed ≡ feed_of one =
        ap (λ (l : List FeedState). slice_index_or l i feed) are
        ∙ get_or-map feed_of sessions i session feed in_sessions in
        let ends = AllZip-at (EndsIn reports) sessions conversations i session conversation end
        in_sessions in
        subst (λ (all : List Answer).
        IsHeard (WasReported state moves from) (slice_index_or conversations i conversation) all
        (slice_index_or days i day))
        (sym (get_or-map (λ (feed : FeedState). feed.collected) feeds i feed collected there))
        (heard (WasReported state moves from) (slice_index_or feeds i feed) one.replies
        (slice_index_or conversations i conversation) (slice_index_or left i part)
        (slice_index_or days i day)
        (subst (λ (f : FeedState).
        IsOver f one.replies (slice_index_or conversations i conversation)) (sym at) ends.over)
        (right-by reports (WasReported state moves from) named one.replies ends.right)
        (done.each i feed part day there));
  }

-- an office that has lived, and isn't told of
pub left_open : {D : Type 0} (state : D → DeviceState) (moves : ℕ) (closes : Type 0) (from : Rest D)
    (desks : List DeskState) (last : Span D) (left : List StationRemains) (after : D)
    (old new : Archive)
    → HasLived state moves closes (record { rest = from; desks = desks }) last left old new
    → last.clerk.journal.device ≡ after → WasLeftOpen state moves from after
left_open state moves closes from desks last left after old new lived has = record {
  earlier = lived.earlier.spans;
  between = lived.before.rest;
  joined = lived.earlier.joined;
  left = record {
    clerk = last.clerk;
    has = has;
    opened = lived.closed.closed.opened;
    legal = lived.closed.closed.legal;
    acknowledged = λ honest.
        lived.closed.closed.acknowledged (lived.closed.closed.opened.stays_honest honest);
    at_any_moment =
        λ honest. lived.closed.closed.at_any_moment
        (lived.closed.closed.opened.stays_honest honest);
  };
}
