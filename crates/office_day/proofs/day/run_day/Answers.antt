use Rattle.std.specs.Prelude.{◌≢◌}
use Rattle.std.specs.List.{AllZip}
use Rattle.std.proofs.Common.{inr, ◌≡◌, ◌<◌, ◌∙◌, ℕ, List, All, length, sym, subst}
use Rattle.std.proofs.lemmas.Slice.Zip.{AllZip-long}
use Rattle.turn_ledger.specs.declared.entry.Entry.{Entry}
use Rattle.four_state.specs.Configuration.{stations}
use Rattle.journal_recovery.specs.Refused.{RecoveryRefuses}
use Rattle.journal_recovery.specs.declared.refusals.OpenRefusal.TheVariants.{Device}
use Rattle.line_lock.specs.Lent.{new_seats}
use Rattle.station_desk.specs.Rings.{FeedState, DeskState, AreTogether}
use Rattle.office_day.specs.HandedIn.{HasHandedIn}
use Rattle.office_day.specs.Day.{HaveServed}
use Rattle.office_day.specs.Refusal.{IfOpening}
use Rattle.office_day.specs.declared.refusals.DayRefusal.{DayRefusal}
use Rattle.office_day.proofs.RefusedOpening.{refused_day}
use Rattle.office_day.proofs.Served.{stay_together}
use Rattle.office_day.proofs.Days.{Parts, Went, had_their_day, length-new_seats}
use Rattle.office_day.proofs.Limits.{no_more, failures_counted}
use Rattle.office_day.proofs.day.run_day.Given as given
use Rattle.office_day.proofs.day.run_day.Goals as goal

-- there is a desk for each station
desk_for_each : (held : List (List Entry)) (feeds : List FeedState) (desks : List DeskState) (n : ℕ)
    → AllZip HasHandedIn held feeds → AllZip AreTogether feeds desks → length held ≡ n
    → length desks ≡ n
desk_for_each held feeds desks n handed together many =
    AllZip-long AreTogether feeds desks together ∙ AllZip-long HasHandedIn held feeds handed ∙ many

pub run_office-run-requires-clause-as_many : goal.run_office-run-requires-clause-as_many
run_office-run-requires-clause-as_many g c = λ κs within.
    desk_for_each c.args.held.now c.in-Ok.feeds.items c.in-Ok.desks.items (stations c.args.line)
    c.in-Ok.ensures.handed_in c.in-Ok.ensures.together c.requires.held

pub returns-in-Err-clause-refused : goal.returns-in-Err-clause-refused
returns-in-Err-clause-refused g c honest =
    let told = refused_day g.D.Device.state c.args.device c.in-Err.device c.in-Err.refusal honest
    c.in-Err.ensures.opening in
    subst (λ (told : DayRefusal).
    IfOpening told (λ refusal. refusal ≢ Device
    → RecoveryRefuses (g.D.Device.state c.args.device).reads refusal)) (sym c.of_office.ensures)
    told

pub all_reconciled-requires : goal.all_reconciled-requires
all_reconciled-requires g c =
    let ran = c.in-Ok-run.ensures.ran in
    let count = stations c.args.line in
    let alike = desk_for_each c.args.held.now c.in-Ok.feeds.items c.in-Ok.desks.items count
    c.in-Ok.ensures.handed_in c.in-Ok.ensures.together c.requires.held in
    stay_together c.in-Ok.feeds.items (new_seats count) c.in-Ok.desks.items ran.0
    c.in-Ok-run.run'.1.items c.args.moves ⊥
    c.in-Ok.ensures.together (alike ∙ sym (length-new_seats count)) ran.1

-- the lists of the day
abbrev parts : (g : given.Over) → goal.In-Ok-all_reconciled g → Parts
parts g c = record {
  held = c.args.held.now;
  feeds = c.in-Ok.feeds.items;
  desks = c.in-Ok.desks.items;
  after = c.in-Ok-run.ensures.ran.0;
  left = c.in-Ok-run.run'.1.items;
  days = c.in-Ok-all_reconciled.stations.items;
}

went : (g : given.Over) (c : goal.In-Ok-all_reconciled g) → let clerk = c.in-Ok-run.run'.0.clerk in
    Went g.D.Device.state (g.D.Device.state c.args.device) c.args.line clerk c.args.moves
    (parts g c)
went g c =
    let ran = c.in-Ok-run.ensures.ran in
    record {
      handed = c.in-Ok.ensures.handed_in;
      together = c.in-Ok.ensures.together;
      fresh = c.in-Ok.ensures.fresh;
      served = subst (λ (count : ℕ).
          HaveServed g.D.Device.state (g.D.Device.state c.args.device) c.args.line (new_seats count)
          c.in-Ok.desks.items ran.0 c.in-Ok-run.run'.1.items c.args.moves ⊥)
          (sym c.requires.held) ran.1;
      borne_out = ran.2.borne_out;
      reconciled = c.in-Ok-all_reconciled.ensures;
    }

pub returns-in-Ok-all_reconciled-clause-days : goal.returns-in-Ok-all_reconciled-clause-days
returns-in-Ok-all_reconciled-clause-days g c = had_their_day (went g c)

pub returns-in-Ok-all_reconciled-clause-within : goal.returns-in-Ok-all_reconciled-clause-within
returns-in-Ok-all_reconciled-clause-within g c =
    let clerk = c.in-Ok-run.run'.0.clerk in
    no_more clerk c.args.moves c.args.held.now c.in-Ok-all_reconciled.stations.items
    (had_their_day (went g c))
    (subst (λ (n : ℕ). All (λ turn. turn.station < n) clerk.history) (sym c.requires.held)
    c.in-Ok-run.ensures.ran.2.there)
    c.in-Ok-run.ensures.closed.legal

pub returns-in-Ok-all_reconciled-clause-failed : goal.returns-in-Ok-all_reconciled-clause-failed
returns-in-Ok-all_reconciled-clause-failed g c =
    sym (failures_counted (went g c)) ∙ c.in-Ok-run.ensures.ran.2.failed

pub returns-in-Err-all_reconciled-clause-left : goal.returns-in-Err-all_reconciled-clause-left
returns-in-Err-all_reconciled-clause-left g c =
    let closed = c.in-Ok-run.ensures.closed in
    inr (record {
      clerk = c.in-Ok-run.run'.0.clerk;
      has = sym c.into_device.ensures;
      opened = closed.opened;
      legal = closed.legal;
      acknowledged = λ honest. closed.acknowledged (closed.opened.stays_honest honest);
      at_any_moment = λ honest. closed.at_any_moment (closed.opened.stays_honest honest);
    })
