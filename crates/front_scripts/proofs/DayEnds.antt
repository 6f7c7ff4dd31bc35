-- What a day leaves without an answer.
use Rattle.std.proofs.Common.{◌≡◌, ◌<◌, ◌≤◌, ◌++◌, ◌∙◌, ℕ, List, [], length, arith, ap, sym}
use Rattle.std.specs.List.{slice_index_or}
use Rattle.std.proofs.lemmas.List.{length-map, length-append}
use Rattle.turn_ledger.specs.declared.entry.Entry.{Entry}
use Rattle.turn_clerk.specs.declared.turns.Turn.{Turn}
use Rattle.turn_clerk.specs.Clerk.{ClerkState}
use Rattle.station_desk.specs.declared.messages.Ask.{Ask}
use Rattle.station_desk.specs.Messages.{asks_of}
use Rattle.office_day.specs.declared.reconciled.StationDay.{StationDay}
use Rattle.office_day.specs.Day.{IsAccountedFor, HadTheirDay}
use Rattle.front_scripts.specs.Clerk.{held_for}

-- a station has no more requests without an answer than it held entries
fewer_unanswered : (entries : List Entry) (turns : List Turn) (told : StationDay)
    → IsAccountedFor entries turns told → length told.unanswered.items ≤ length entries
fewer_unanswered entries turns told accounted =
    let answered = asks_of told.answers.items in
    let all = answered ++ told.unanswered.items in
    let many : length all ≡ length entries =
    sym (length-map all (λ (ask : Ask). ask.entry)) ∙ ap length accounted.in_order in
    omega (arith, many, length-append answered told.unanswered.items)

-- and so it is of each
pub no_more_unanswered : {D : Type 0} (clerk : ClerkState D) (moves : ℕ) (held : List (List Entry))
    (days : List StationDay) → HadTheirDay clerk moves held days
    → (i : ℕ) (told : StationDay) → i < length held
    → length (slice_index_or days i told).unanswered.items ≤ length (held_for held i)
no_more_unanswered clerk moves held days had i told low =
    fewer_unanswered (slice_index_or held i []) _ (slice_index_or days i told)
    (had.each i [] told low).account
