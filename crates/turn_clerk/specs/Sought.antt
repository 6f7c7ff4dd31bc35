-- Which posting a search picks.
use Rattle.std.specs.Prelude.{◌≡◌, ◌⊎◌, ◌<◌, ◌≤◌, ℕ, Option, Some, None}
use Rattle.turn_ledger.specs.Entry.{reference_of}
use Rattle.turn_ledger.specs.declared.entry.Entry.{Entry}
use Rattle.turn_clerk.specs.declared.search_target.Posting.{Posting}
use Rattle.turn_clerk.specs.declared.search_target.SearchTarget.{SearchTarget}
use Rattle.turn_clerk.specs.declared.search_target.SearchTarget.TheVariants.{Reference, OfStation}

-- a record of that station may have what is sought
abbrev pub IsOf : SearchTarget → ℕ → Type 0
IsOf (Reference reference) station = Unit {0}
IsOf (OfStation own limit) station = station ≡ own

-- An entry of such a record is one of those that are sought: it has the reference, or one above 0
-- and at most the limit.
abbrev pub Fits : SearchTarget → Entry → Type 0
Fits (Reference reference) entry = reference_of entry ≡ reference
Fits (OfStation own limit) entry = (0 < reference_of entry) × (reference_of entry ≤ limit)

-- a place of a record is another one, or comes before it
abbrev pub IsNoLater : ℕ → ℕ → ℕ → ℕ → Type 0
IsNoLater number place than than_place = (number < than) ⊎ ((number ≡ than) × (place ≤ than_place))

-- The entry at that place of a record is picked rather than another one that is sought: of those
-- with one reference it stands first; of a station's it has the greater reference, or the same and
-- stands later.
abbrev pub IsPickedOver : SearchTarget → ℕ → ℕ → Entry → ℕ → ℕ → Entry → Type 0
IsPickedOver (Reference reference) number place entry than than_place other =
    IsNoLater number place than than_place
IsPickedOver (OfStation own limit) number place entry than than_place other =
    (reference_of other < reference_of entry)
    ⊎ ((reference_of other ≡ reference_of entry) × IsNoLater than than_place number place)

-- Entries that stand at places of records, by the record's number and the place.
abbrev pub Entries : Type 1
Entries = ℕ → ℕ → Entry → Type 0

-- Of these entries the posting is one that is sought, and is picked rather than each other one of
-- those.
pub record IsBest (among : Entries) (sought : SearchTarget) (posting : Posting) : Type 0 where
  pub place : ℕ
  pub is : among posting.number place posting.entry
  pub fits : Fits sought posting.entry
  pub best : (number other : ℕ) (entry : Entry) → among number other entry → Fits sought entry
      → IsPickedOver sought posting.number place posting.entry number other entry

-- the one that is picked of these entries, or none, if none of them is sought
abbrev pub IsPicked : Entries → SearchTarget → Option Posting → Type 0
IsPicked among sought None =
    (number place : ℕ) (entry : Entry) → among number place entry → Fits sought entry → ⊥
IsPicked among sought (Some posting) = IsBest among sought posting

-- What is told of one entry: it, if it is sought.
abbrev pub IsTold : SearchTarget → ℕ → Entry → Option Posting → Type 0
IsTold sought number entry None = Fits sought entry → ⊥
IsTold sought number entry (Some posting) =
    Fits sought entry × (posting ≡ record { number = number; entry = entry })

-- Of two postings the one with the greater reference, or the second, where both have the same.
abbrev pub IsLater : Option Posting → Option Posting → Option Posting → Type 0
IsLater None second result = result ≡ second
IsLater (Some before) None result = result ≡ Some before
IsLater (Some before) (Some here) result =
    ((reference_of here.entry < reference_of before.entry) × (result ≡ Some before))
    ⊎ ((reference_of before.entry ≤ reference_of here.entry) × (result ≡ Some here))

-- Of two postings, of which the second stands later, the one that is picked.
abbrev pub IsBetter : SearchTarget → Option Posting → Option Posting → Option Posting → Type 0
IsBetter (Reference reference) None second result = result ≡ second
IsBetter (Reference reference) (Some before) second result = result ≡ Some before
IsBetter (OfStation own limit) first second result = IsLater first second result

-- nothing that stands behind the posting would be picked rather than it
abbrev pub IsOver : SearchTarget → Option Posting → Type 0
IsOver (Reference reference) (Some posting) = Unit {0}
IsOver (Reference reference) None = ⊥
IsOver (OfStation own limit) posting = ⊥
