-- The screening of a list of entries.
use Rattle.std.specs.Prelude.{◌≡◌, if◌then◌else◌, List, [], ◌∷◌, Ok, is_ok}
use Rattle.turn_ledger.specs.declared.entry.Entry.{Entry}
use Rattle.turn_ledger.specs.State.{LedgerState}
use Rattle.turn_ledger.specs.Entry.{Verdict, verdict, posted}

-- the state after an entry: a refused one changes nothing
abbrev pub after_entry : LedgerState → Entry → LedgerState
after_entry state entry = if is_ok (verdict state entry) then posted state entry else state

-- the verdicts of a list of entries, each judged after the accepted ones before it
abbrev pub screened : LedgerState → List Entry → List Verdict
screened state [] = []
screened state (entry ∷ entries) = verdict state entry ∷ screened (after_entry state entry) entries

-- the accepted entries
abbrev pub with_yes : List Entry → List Verdict → List Entry
with_yes [] verdicts = []
with_yes (entry ∷ entries) [] = []
with_yes (entry ∷ entries) (answer ∷ verdicts) =
    if is_ok answer then entry ∷ with_yes entries verdicts else with_yes entries verdicts

-- the accepted entries of a list, in order
abbrev pub accepted : LedgerState → List Entry → List Entry
accepted state entries = with_yes entries (screened state entries)

-- each entry of the list is accepted, judged in order after those before it
abbrev pub AreAccepted : LedgerState → List Entry → Type 0
AreAccepted state [] = Unit {0}
AreAccepted state (entry ∷ entries) =
    (verdict state entry ≡ Ok tt) × AreAccepted (posted state entry) entries

-- the state after the entries were posted one after another
abbrev pub posted_in_order : LedgerState → List Entry → LedgerState
posted_in_order state [] = state
posted_in_order state (entry ∷ entries) = posted_in_order (posted state entry) entries
