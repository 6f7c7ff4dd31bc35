-- Spans of a live office, one after another.
use Rattle.std.specs.Prelude.{◌≡◌, ◌≢◌, ◌<◌, ◌≤◌, ℕ, List, [], ◌∷◌, ◌++◌, length, map, All, refl}
use Rattle.std.specs.List.{AllZip, slice_index_or}
use Rattle.std.proofs.Common.{sym, ◌∙◌, ap, subst, arith, inl, inr}
use Rattle.std.proofs.lemmas.List.{append-nil, length-map, get_or-map}
use Rattle.std.proofs.lemmas.Grind.{flat_map-append}
use Rattle.std.proofs.lemmas.Slice.Zip.{AllZip-long}
use Rattle.sector_device.specs.Device.{DeviceState}
use Rattle.four_state.specs.Configuration.{Configuration, stations}
use Rattle.turn_clerk.specs.declared.turns.Turn.{Turn}
use Rattle.turn_clerk.specs.Clerk.{ClerkState, KeepsHistory, opening_state}
use Rattle.sweep_auditor.specs.declared.moves.Audit.{Audit}
use Rattle.turn_clerk.specs.declared.refusals.TurnRefusal.TheVariants.{Device}
use Rattle.line_lock.specs.Account.{turns_of, IsBorneOut}
use Rattle.line_lock.specs.Lent.{new_seats}
use Rattle.line_lock.specs.Seat.{SeatState, WasAcknowledged, new_seat}
use Rattle.station_desk.specs.declared.messages.Ask.{Ask}
use Rattle.station_desk.specs.declared.end.End.TheVariants.{NotStarted, Refused}
use Rattle.station_desk.specs.declared.messages.Answer.{Answer}
use Rattle.station_desk.specs.Messages.{entries_of, asks_of, outcomes_in, AreNumberedFrom}
use Rattle.station_desk.specs.Rings.{FeedState, DeskState, AreTogether, AllStandAt}
use Rattle.station_desk.specs.Served.{HasServed}
use Rattle.station_desk.specs.ServedLaws.{served-nothing}
use Rattle.station_desk.specs.WorkedLaws.{served-joined}
use Rattle.station_desk.specs.Worked.{HasWorked}
use Rattle.office_day.specs.declared.seated.StationRemains.{StationRemains}
use Rattle.line_lock.specs.declared.lent.OfficeRefusal.{OfficeRefusal}
use Rattle.office_day.specs.declared.reconciled.StationDay.{StationDay}
use Rattle.office_day.specs.HandedIn.{IsFresh}
use Rattle.office_day.specs.Day.{HaveServed, IsReconciled, AreReconciled}
use Rattle.station_desk.specs.declared.end.End.{End}
use Rattle.office_day.specs.Ended.{HasEnded}
use Rattle.office_day.proofs.Ended.{has_ended, ended_anyhow}
use Rattle.office_day.specs.Spans.{Span, Rest, span_of, turns_in, IsSpan, IsLeftBy, AreSpans}
use Rattle.office_day.specs.Spans.{IsGoodEnd, LeftAfter, HaveLeft, Adjournment, HasComeTo}
use Rattle.office_day.specs.Archive.{Archive}
use Rattle.office_day.specs.Spans.{WereArchived, HasLived, WasBrokenOff, WasServed, WasKeptOpen}
use Rattle.office_day.specs.Spans.{WasAbandoned}
use Rattle.office_day.proofs.Days.{length-new_seats, new_seat_at}
use Rattle.office_day.proofs.Lists.{first, AllZip-at, AllZip-each}
use Rattle.office_day.proofs.Pairing.{stands_with}
use Rattle.office_day.proofs.Limits.{IsBelow, all_below, short}

-- In an office whose clerk bears out what its seats hold, a station's own turns are those of the
-- history.
module _ {D : Type 0} {state : D → DeviceState} {device : DeviceState} {from : Configuration}
    {moves : ℕ} {closes : Type 0} (count : ℕ) (clerk : ClerkState D)
    {desks : List DeskState} {after : List SeatState}
    {left : List StationRemains}
    (served : HaveServed state device from (new_seats count) desks after left moves closes)
    (out : All (IsBorneOut clerk) after) where
  in_seats : (i : ℕ) → i < count → i < length (new_seats count)
  in_seats i low = subst (λ n. i < n) (sym (length-new_seats count)) low

  in_after : (i : ℕ) → i < count → i < length after
  in_after i low = subst (λ n. i < n) (sym served.seats_as_many) (in_seats i low)

  abbrev worked : (i : ℕ) (desk : DeskState) (part : StationRemains) (low : i < count) → let seat =
      new_seat 0 in
      HasWorked (WasAcknowledged state device from) (slice_index_or (new_seats count) i seat)
      (slice_index_or after i seat) (slice_index_or desks i desk)
      (slice_index_or left i part).desk moves
      ((slice_index_or left i part).end ≡ Refused Device)
  worked i desk part low = (served.each i (new_seat 0) desk part (in_seats i low)).worked

  own_turns : (i : ℕ) (desk : DeskState) (part : StationRemains) (low : i < count)
      → (worked i desk part low).turns ≡ turns_of i clerk.history
  own_turns i desk part low =
      let seat = new_seat 0 in
      let old = slice_index_or (new_seats count) i seat in
      let new = slice_index_or after i seat in
      let did = worked i desk part low in
      let sat : old ≡ new_seat i = new_seat_at count i seat low in
      let borne = out i seat (in_after i low) in
      let station : new.station ≡ i = did.station ∙ ap (λ (s : SeatState). s.station) sat in
      let none : old.turns ≡ [] = ap (λ (s : SeatState). s.turns) sat in
      sym (did.listed ∙ ap (λ (l : List Turn). l ++ did.turns) none) ∙ borne.turns
      ∙ ap (λ s. turns_of s clerk.history) station

  own_within : (part : StationRemains) (desk : DeskState) → (s : ℕ) → s < count
      → All (IsBelow moves) (turns_of s clerk.history)
  own_within part desk s low =
      subst (All (IsBelow moves)) (own_turns s desk part low) (worked s desk part low).within

  -- and so the history has no more than were wanted
  pub is-span : All (λ turn. turn.station < count) clerk.history → KeepsHistory clerk
      → length clerk.history ≤ moves
  is-span there keeps =
      short clerk.opening.line (opening_state clerk) clerk.history moves keeps.legal
      (all_below moves count clerk.history there (λ s low.
      let some : 0 < length left =
      omega (arith, low, served.left_as_many, length-new_seats count) in
      let part = first left some in
      own_within part part.desk s low))

  pub own_served : (audit : Audit) (i : ℕ) (desk : DeskState) (part : StationRemains)
      (low : i < count)
      → LeftAfter moves closes i [] (span_of clerk audit) (slice_index_or desks i desk)
      (slice_index_or left i part)
  own_served audit i desk part low =
      let did = worked i desk part low in
      let seat = new_seat 0 in
      let turns : did.turns ≡ turns_in i (span_of clerk audit ∷ []) =
      own_turns i desk part low ∙ sym (append-nil (turns_of i clerk.history)) in
      record {
        given_up = did.given_up;
        served = subst (λ (l : List Turn).
            HasServed (slice_index_or desks i desk) (slice_index_or left i part).desk l
            did.given_up) turns did.served;
        ended = has_ended clerk i (slice_index_or (new_seats count) i seat)
            (slice_index_or after i seat) (slice_index_or desks i desk)
            (slice_index_or left i part).desk
            (slice_index_or left i part).end
            (new_seat_at count i seat low) (served.each i seat desk part (in_seats i low))
            (out i seat (in_after i low));
      }

-- the turns of one more span
turns-more : {D : Type 0} (i : ℕ) (spans : List (Span D)) (span : Span D)
    → turns_in i spans ++ turns_in i (span ∷ []) ≡ turns_in i (spans ++ span ∷ [])
turns-more i spans span =
    sym (flat_map-append (λ (s : Span _). turns_of i s.clerk.history) spans (span ∷ []))

pub not_refused : (end : End) → IsGoodEnd end → end ≢ Refused Device
not_refused end (inl reached) failed = absurd (cc)
not_refused end (inr closed) failed = absurd (cc)

module _ {D : Type 0} (state : D → DeviceState) (moves : ℕ) where
  -- one more span in a row
  pub spans-more : (at : Rest D) (spans : List (Span D)) (mid : Rest D) (span : Span D)
      (next : Rest D)
      → AreSpans state moves at spans mid → IsSpan state moves mid span → IsLeftBy state span next
      → AreSpans state moves at (spans ++ span ∷ []) next
  spans-more at [] mid span next row is left =
      (subst (λ (r : Rest D). IsSpan state moves r span) row is, (next, left, refl))
  spans-more at (before ∷ spans) mid span next row is left =
      let (then, was, more) = row.1 in
      (row.0, (then, was, spans-more then spans mid span next more is left))

  unfoldable pub nothing_lived : (from : Adjournment D) → HasComeTo state moves from from
  nothing_lived from = record {
    spans = [];
    joined = refl;
    given = record {
      as_many = refl;
      each = λ i desk low. served-nothing (slice_index_or from.desks i desk);
    };
  }

  -- each station left, after one span more, what it gave in all
  pub left-more : (closes : Type 0) (from mid : Adjournment D)
      (earlier : HasComeTo state moves from mid) (span : Span D) (parts : List StationRemains)
      → HaveLeft moves closes [] span mid.desks parts
      → HaveLeft moves closes earlier.spans span from.desks parts
  left-more closes from mid earlier span parts left = record {
    as_many = left.as_many ∙ earlier.given.as_many;
    each = λ i desk part low.
        let last = left.each i desk part (subst (λ n. i < n) (sym earlier.given.as_many) low) in
        let far = earlier.given.each i desk low in
        record {
          given_up = last.given_up;
          served = subst (λ (l : List Turn).
              HasServed (slice_index_or from.desks i desk) (slice_index_or parts i part).desk l
              last.given_up) (turns-more i earlier.spans span)
              (served-joined (slice_index_or from.desks i desk) (slice_index_or mid.desks i desk)
              (slice_index_or parts i part).desk (turns_in i earlier.spans)
              (turns_in i (span ∷ []))
              last.given_up far last.served);
          ended = last.ended;
        };
  }

  pub lived : (closes : Type 0) (from before : Adjournment D)
      → (earlier : HasComeTo state moves from before)
      → (clerk : Span D) (parts : List StationRemains) (old new : Archive)
      → IsSpan state moves before.rest clerk → HaveLeft moves closes [] clerk before.desks parts
      → WereArchived state from.rest.device earlier.spans before.rest.device old new
      → HasLived state moves closes from clerk parts old new
  lived closes from before earlier span parts old new closed left archived = record {
    before = before;
    earlier = earlier;
    closed = closed;
    left = left-more closes from before earlier span parts left;
    archived = archived;
  }

  -- where all turns were taken, or the stations were sent home, the office comes to the next span
  unfoldable pub come-further : (closes : Type 0) (from before after : Adjournment D)
      (earlier : HasComeTo state moves from before) (span : Span D) (parts : List StationRemains)
      → IsSpan state moves before.rest span → HaveLeft moves closes [] span before.desks parts
      → All (λ (part : StationRemains). IsGoodEnd part.end) parts
      → IsLeftBy state span after.rest
      → after.desks ≡ map (λ (part : StationRemains). part.desk) parts
      → HasComeTo state moves from after
  come-further closes from before after earlier span parts closed left well rests desks =
      let far = left-more closes from before earlier span parts left in
      let desk_of : StationRemains → DeskState = λ part. part.desk in
      record {
        spans = earlier.spans ++ span ∷ [];
        joined = spans-more from.rest earlier.spans before.rest span after.rest earlier.joined
            closed rests;
        given = record {
          as_many = ap length desks ∙ length-map parts desk_of ∙ far.as_many;
          each = λ i desk low.
              let there : i < length parts = subst (λ n. i < n) (sym far.as_many) low in
              let part = first parts (omega (arith, there)) in
              let gave = far.each i desk part low in
              let ended = well i part there in
              let none : gave.given_up ≡ [] =
              gave.ended.none_else (not_refused (slice_index_or parts i part).end ended) in
              let at : desk_of (slice_index_or parts i part) ≡ slice_index_or after.desks i desk =
              sym (get_or-map desk_of parts i part desk there)
              ∙ ap (λ (l : List DeskState). slice_index_or l i desk) (sym desks) in
              subst (λ (d : DeskState).
              HasServed (slice_index_or from.desks i desk) d
              (turns_in i (earlier.spans ++ span ∷ [])) []) at
              (subst (λ (asks : List Ask).
              HasServed (slice_index_or from.desks i desk) (slice_index_or parts i part).desk
              (turns_in i (earlier.spans ++ span ∷ [])) asks) none gave.served);
        };
      }

  -- there is a desk for each station of the line
  pub desks_enough : (closes : Type 0) (before after : Adjournment D) (span : Span D)
      (parts : List StationRemains) → length before.desks ≡ stations before.rest.line
      → IsSpan state moves before.rest span → HaveLeft moves closes [] span before.desks parts
      → after.rest.line ≡ span.clerk.line
      → after.desks ≡ map (λ (part : StationRemains). part.desk) parts
      → length after.desks ≡ stations after.rest.line
  desks_enough closes before after span parts many closed left line desks =
      ap length desks ∙ length-map parts (λ (part : StationRemains). part.desk) ∙ left.as_many
      ∙ many
      ∙ sym closed.closed.stations ∙ ap stations (sym line)

-- what a station's client was told, from what its feed and its desk have in the end
was_served : {D : Type 0} (moves : ℕ) (closes : Type 0) (station : ℕ) (earlier : List (Span D))
    (last : Span D) (before : DeskState) (feed : FeedState) (part : StationRemains)
    (day : StationDay)
    → IsFresh before
    → LeftAfter moves closes station earlier last before part → IsReconciled feed part day
    → WasServed moves station earlier last feed.collected day
was_served moves closes station earlier last before feed part day fresh left done =
    let served = left.served in
    let more : feed.collected ++ day.answers.items ≡ served.more =
    sym done.given ∙ served.given ∙ ap (λ (l : List Answer). l ++ served.more) fresh in
    record {
      given_up = left.given_up;
      tickets = subst (AreNumberedFrom 0) done.asked done.tickets;
      answered = ap (λ (l : List Answer). entries_of (asks_of l)) more ∙ served.entries;
      outcomes = ap outcomes_in more ∙ served.outcomes;
      ended = subst (λ (end : End). HasEnded last.clerk moves station (Unit {0}) end left.given_up)
          (sym done.end)
          (ended_anyhow last.clerk moves station closes part.end left.given_up left.ended);
    }

module _ {D : Type 0} (state : D → DeviceState) (moves : ℕ) where
  pub kept_open : (closes : Type 0) (from : Rest D) (desks : List DeskState) (last : Span D)
      (left : List StationRemains) (feeds : List FeedState) (days : List StationDay)
      → (old new : Archive)
      → HasLived state moves closes (record { rest = from; desks = desks }) last left old new
      → All IsFresh desks → length desks ≡ stations from.line
      → length feeds ≡ stations from.line → AreReconciled feeds left days
      → WasKeptOpen state moves from last (map (λ (feed : FeedState). feed.collected) feeds)
      days old new
  kept_open closes from desks last left feeds days old new lived fresh many fed done = record {
    earlier = lived.earlier.spans;
    between = lived.before.rest;
    joined = lived.earlier.joined;
    closed = lived.closed;
    archived = lived.archived;
    served = record {
      as_many = done.as_many ∙ fed;
      collected_as_many = length-map feeds (λ (feed : FeedState). feed.collected) ∙ fed;
      each = λ i answers day low.
          let in_desks : i < length desks = subst (λ n. i < n) (sym many) low in
          let in_feeds : i < length feeds = subst (λ n. i < n) (sym fed) low in
          let desk = first desks (omega (arith, in_desks)) in
          let feed = first feeds (omega (arith, in_feeds)) in
          let part : StationRemains = record { desk = desk; end = NotStarted } in
          subst (λ (collected : List Answer).
          WasServed moves i lived.earlier.spans last collected (slice_index_or days i day))
          (sym (get_or-map (λ (feed : FeedState). feed.collected) feeds i feed answers in_feeds))
          (was_served moves closes i lived.earlier.spans last (slice_index_or desks i desk)
          (slice_index_or feeds i feed) (slice_index_or left i part) (slice_index_or days i day)
          (fresh i desk in_desks) (lived.left.each i desk part in_desks)
          (done.each i feed part day in_feeds));
    };
  }

  pub abandoned : {F : Type 0} (from : Rest D) (desks : List DeskState) (after : D)
      (refusal : OfficeRefusal F)
      → WasBrokenOff state moves (record { rest = from; desks = desks }) after refusal
      → WasAbandoned state moves from after refusal
  abandoned from desks after refusal broken = record {
    earlier = broken.earlier.spans;
    between = broken.before.rest;
    joined = broken.earlier.joined;
    opening = broken.opening;
    left = broken.left;
  }

-- feeds that were together with fresh desks are together with what their stations left
pub left_together : {D : Type 0} {moves : ℕ} {closes : Type 0} (earlier : List (Span D))
    (last : Span D) (feeds new : List FeedState) (desks : List DeskState)
    (left : List StationRemains)
    → AllZip AreTogether feeds desks → AllStandAt feeds new
    → HaveLeft moves closes earlier last desks left → AllZip stands_with new left
left_together earlier last feeds new desks left together stand gave =
    let as_many : length desks ≡ length feeds = AllZip-long AreTogether feeds desks together in
    AllZip-each stands_with new left (gave.as_many ∙ as_many ∙ sym stand.as_many)
    (λ i feed part low.
    let in_feeds : i < length feeds = subst (λ n. i < n) stand.as_many low in
    let in_desks : i < length desks = subst (λ n. i < n) (sym as_many) in_feeds in
    let stands = stand.each i feed in_feeds in
    let before = AllZip-at AreTogether feeds desks i feed part.desk together in_feeds in
    let served = (gave.each i part.desk part in_desks).served in
    record {
      asks = stands.0 ∙ before.asks ∙ sym served.asks;
      answers = stands.1 ∙ before.answers ∙ sym served.answers;
    })
