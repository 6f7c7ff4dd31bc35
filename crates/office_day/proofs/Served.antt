-- Stations that were put together, have run, and were taken apart.
use Rattle.std.specs.Prelude.{◌≡◌, ◌<◌, ℕ, List, ◌++◌, length, map, take, drop, Result, Ok, Err}
use Rattle.std.specs.Prelude.{IfOk}
use Rattle.std.specs.List.{AllZip, slice_index_or}
use Rattle.std.proofs.Common.{sym, ◌∙◌, ap, subst, arith}
use Rattle.std.proofs.Math.Seq.{take-append_seam}
use Rattle.std.proofs.lemmas.List.{length-map, get_or-map}
use Rattle.sector_device.specs.Device.{DeviceState}
use Rattle.four_state.specs.Configuration.{Configuration}
use Rattle.line_lock.specs.Seat.{SeatState, new_seat}
use Rattle.station_desk.specs.declared.stations.Station.{Station}
use Rattle.station_desk.specs.declared.end.End.TheVariants.{NotStarted}
use Rattle.station_desk.specs.Rings.{FeedState, DeskState, AreTogether}
use Rattle.station_desk.specs.Run.{HasRun, HaveRun}
use Rattle.office_day.specs.declared.seated.StationRemains.{StationRemains}
use Rattle.office_day.specs.Left.{left_of}
use Rattle.office_day.specs.Day.{HaveServed}
use Rattle.office_day.proofs.Lists.{AllZip-at, AllZip-each}
use Rattle.office_day.proofs.Pairing.{stands_with}
use Rattle.std.proofs.lemmas.Slice.Zip.{AllZip-long}

pub have_served : {D X : Type 0} {state : D → DeviceState} {device : DeviceState}
    {from : Configuration}
    (seats : List SeatState) (desks : List DeskState) (old new : List (Station X)) (moves : ℕ)
    (closes : Type 0)
    → map (λ (station : Station X). station.seat) old ≡ seats
    → map (λ (station : Station X). station.desk) old ≡ desks
    → HaveRun state device from old new moves closes
    → HaveServed state device from seats desks (map (λ (station : Station X). station.seat) new)
    (map left_of new) moves closes
have_served {X = X} {state = state} {device = device} {from = from} seats desks old new moves closes
    sat stood ran =
    let seat_of : Station X → SeatState = λ station. station.seat in
    let desk_of : Station X → DeskState = λ station. station.desk in
    let as_many : length seats ≡ length old = sym (ap length sat) ∙ length-map old seat_of in
    record {
      seats_as_many = length-map new seat_of ∙ ran.as_many ∙ sym as_many;
      left_as_many = length-map new left_of ∙ ran.as_many ∙ sym as_many;
      each = λ i seat desk part low.
          let before : i < length old = subst (λ n. i < n) as_many low in
          let after : i < length new = subst (λ n. i < n) (sym ran.as_many) before in
          let there : Station X = record { seat = seat; desk = desk; end = NotStarted } in
          let old_seat = sym (get_or-map seat_of old i there seat before)
          ∙ ap (λ (l : List SeatState). slice_index_or l i seat) sat in
          let old_desk = sym (get_or-map desk_of old i there desk before)
          ∙ ap (λ (l : List DeskState). slice_index_or l i desk) stood in
          let new_seat = sym (get_or-map seat_of new i there seat after) in
          let new_part = sym (get_or-map left_of new i there part after) in
          let was = slice_index_or old i there in
          let is = slice_index_or new i there in
          subst (λ (s : SeatState).
          HasRun state device from s (slice_index_or (map seat_of new) i seat)
          (slice_index_or desks i desk) (slice_index_or (map left_of new) i part).desk
          (slice_index_or (map left_of new) i part).end moves closes) old_seat
          (subst (λ (s : SeatState).
          HasRun state device from was.seat s (slice_index_or desks i desk)
          (slice_index_or (map left_of new) i part).desk
          (slice_index_or (map left_of new) i part).end moves closes) new_seat
          (subst (λ (d : DeskState).
          HasRun state device from was.seat is.seat d
          (slice_index_or (map left_of new) i part).desk
          (slice_index_or (map left_of new) i part).end moves closes) old_desk
          (subst (λ (p : StationRemains).
          HasRun state device from was.seat is.seat was.desk p.desk p.end moves closes) new_part
          (ran.each i there before))));
    }

-- where the lists are these, what holds of these holds of them
pub of_both : {V W E : Type 0} {A B : Type 0} (f : V → List A) (h : W → List B)
    (r : Result (V × W) E) (xs : List A) (ys : List B) (P : List A → List B → Type 0)
    → IfOk r (λ both. f both.0 ≡ xs) → IfOk r (λ both. h both.1 ≡ ys) → P xs ys
    → IfOk r (λ both. P (f both.0) (h both.1))
of_both f h (Err e) xs ys P these those it = tt
of_both {A = A} {B = B} f h (Ok both) xs ys P these those it =
    subst (λ (l : List A). P l (h both.1)) (sym these)
    (subst (λ (l : List B). P xs l) (sym those) it)

-- a list that was lent whole is what it was made, where it is as long
pub lent_back : {A : Type 0} (n : ℕ) (new old : List A) → length new ≡ n
    → take n (new ++ drop (length new) old) ≡ new
lent_back n new old long =
    ap (λ m. take m (new ++ drop (length new) old)) (sym long)
    ∙ take-append_seam new (drop (length new) old)

-- each feed is still that of the desk that its station left
pub stay_together : {D : Type 0} {state : D → DeviceState} {device : DeviceState}
    {from : Configuration}
    (feeds : List FeedState) (seats : List SeatState) (desks : List DeskState)
    (after : List SeatState) (left : List StationRemains)
    (moves : ℕ) (closes : Type 0)
    → AllZip AreTogether feeds desks → length desks ≡ length seats
    → HaveServed state device from seats desks after left moves closes
    → AllZip stands_with feeds left
stay_together feeds seats desks after left moves closes together alike served =
    let as_many : length desks ≡ length feeds = AllZip-long AreTogether feeds desks together in
    AllZip-each stands_with feeds left (served.left_as_many ∙ sym alike ∙ as_many)
    (λ i feed part low.
    let in_desks : i < length desks = omega (arith, low, as_many) in
    let in_seats : i < length seats = omega (arith, in_desks, alike) in
    let before = AllZip-at AreTogether feeds desks i feed part.desk together low in
    let ran = (served.each i (new_seat 0) part.desk part in_seats).worked.served in
    record {
      asks = before.asks ∙ sym ran.asks;
      answers = before.answers ∙ sym ran.answers;
    })
