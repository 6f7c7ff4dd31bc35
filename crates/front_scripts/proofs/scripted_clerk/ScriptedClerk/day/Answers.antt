use Rattle.std.proofs.Common.{rules, ◌≡◌, ◌≢◌, ◌<◌, ◌≤◌, ◌∙◌, List, length, inr, sym, subst}
use Rattle.std.specs.List.{slice_index_or}
use Rattle.turn_ledger.specs.declared.entry.Entry.{Entry}
use Rattle.journal_recovery.specs.declared.refusals.OpenRefusal.TheVariants.{Device}
use Rattle.journal_recovery.specs.Refused.{RecoveryRefuses}
use Rattle.line_lock.specs.OpenedOn.{WasOpenedOn}
use Rattle.office_day.specs.Refusal.{IfOpening}
use Rattle.office_day.specs.declared.reconciled.StationDay.{StationDay}
use Rattle.front_scripts.specs.Clerk.{held_for}
use Rattle.front_scripts.proofs.DayEnds.{no_more_unanswered}
use Rattle.front_scripts.proofs.scripted_clerk.ScriptedClerk.day.Goals as goal

pub hold_again-requires-clause-no_more : goal.hold_again-requires-clause-no_more
hold_again-requires-clause-no_more g c =
    let same = c.as_mut_slice.ensures.value ∙ sym c.as_slice-entries.ensures.value in
    λ i told low. subst
    (λ (days : List StationDay). length (slice_index_or days i told).unanswered.items
    ≤ length (held_for c.as_mut_slice.result.now i)) (sym c.as_slice.ensures.value)
    (subst (λ (held : List (List Entry)).
    length (slice_index_or c.in-Ok.day.stations.items i told).unanswered.items
    ≤ length (held_for held i)) (sym same)
    (no_more_unanswered c.in-Ok.day.clerk c.args.moves c.as_slice-entries.result.now
    c.in-Ok.day.stations.items c.in-Ok.ensures.days i told
    (subst (λ (held : List (List Entry)). i < length held) same low)))

-- the clerk of the day was left without its place on the heap
pub returns-in-Err-new-clause-left : goal.returns-in-Err-new-clause-left
returns-in-Err-new-clause-left g c =
    let state = g.D.Device.state in
    let clerk = c.in-Ok.day.clerk in
    let day = c.in-Ok.ensures in
    let opened : WasOpenedOn state (state c.args.self.clerk.journal.device) c.args.self.clerk.line
    clerk = search rules in
    let has : clerk.journal.device ≡ c.into_device.result = search rules in
    inr (record {
      clerk = clerk;
      has = has;
      opened = opened;
      legal = day.legal;
      acknowledged = λ honest. day.acknowledged (opened.stays_honest honest);
      at_any_moment = λ honest. day.at_any_moment (opened.stays_honest honest);
    })

pub returns-in-Err-clause-refused : goal.returns-in-Err-clause-refused
returns-in-Err-clause-refused g c =
    let same : c.into_device-device.result ≡ c.args.self.clerk.journal.device = search rules in
    λ honest. subst (λ device. (g.D.Device.state device).honest
    → IfOpening c.in-Err.refusal (λ refusal. refusal ≢ Device
    → RecoveryRefuses (g.D.Device.state device).reads refusal))
    {x = c.into_device-device.result} same c.in-Err.ensures.refused honest
