-- The references of a counter rise: what that says of what it asked to post, and of what was
-- posted.
use Rattle.std.specs.Prelude.{◌≡◌, ◌<◌, ◌≤◌, ℕ, List, length, slice_get, Some}
use Rattle.turn_ledger.specs.Entry.{reference_of}
use Rattle.station_desk.specs.declared.messages.Ask.{Ask}
use Rattle.station_desk.specs.declared.messages.Answer.{Answer}
use Rattle.station_desk.specs.declared.messages.Outcome.TheVariants as outcome

-- what the answer tells of is posted only under a reference that is below
abbrev pub IsFreeFrom : ℕ → Answer → Type 0
IsFreeFrom reference answer =
    (number : ℕ) → answer.outcome ≡ outcome.Posted number → reference_of answer.entry < reference

-- each of the entries that are answered as posted has a reference of at most that much
abbrev pub AreWithin : ℕ → List Answer → Type 0
AreWithin most answers =
    (i : ℕ) (answer : Answer) → slice_get answers i ≡ Some answer → (number : ℕ)
    → answer.outcome ≡ outcome.Posted number → reference_of answer.entry ≤ most

-- each of the requests behind those that are answered has one of at most that much
abbrev pub AreUnderWay : ℕ → List Ask → List Answer → Type 0
AreUnderWay most asked answers =
    (i : ℕ) (ask : Ask) → slice_get asked i ≡ Some ask → length answers ≤ i
    → reference_of ask.entry ≤ most

-- A request whose reference is above 0, and isn't above that of an earlier one, came only once that
-- one was answered, and not as posted under such a reference.
abbrev pub AreAbove : List Ask → List Answer → Type 0
AreAbove asked answers =
    (i j : ℕ) (earlier later : Ask) → i < j → slice_get asked i ≡ Some earlier
    → slice_get asked j ≡ Some later
    → 0 < reference_of later.entry → reference_of later.entry ≤ reference_of earlier.entry
    → (i < length answers)
    × ((answer : Answer) → slice_get answers i ≡ Some answer
    → IsFreeFrom (reference_of later.entry) answer)

-- Of two entries that were posted the later one has the greater reference, unless its reference is
-- 0: no reference above 0 was posted twice.
abbrev pub PostsRising : List Answer → Type 0
PostsRising answers =
    (i j : ℕ) (earlier later : Answer) → i < j → slice_get answers i ≡ Some earlier
    → slice_get answers j ≡ Some later
    → (m n : ℕ) → earlier.outcome ≡ outcome.Posted m → later.outcome ≡ outcome.Posted n
    → 0 < reference_of later.entry
    → reference_of earlier.entry < reference_of later.entry
