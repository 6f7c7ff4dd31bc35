-- What becomes of a file that is opened as a ledger, by its first sector and its length.
use Rattle.std.specs.Prelude.{◌≡◌, ◌≢◌, ◌+◌, ◌*◌, ◌<◌, ◌≤◌, ℕ, List, take, codes}
use Rattle.gate_journal.specs.Layout.{IsOfVersion, IsSuperblock, in_use}
use Rattle.ledger_file.specs.declared.refusal.LedgerRefusal.{LedgerRefusal}
use Rattle.ledger_file.specs.declared.refusal.LedgerRefusal.TheVariants.{OtherVersion, Unsound}
use Rattle.ledger_file.specs.declared.refusal.LedgerRefusal.TheVariants.{Short, HasLedger, HasOther}

-- the first sector is that of a ledger in use with so many slots in each bank
pub record TellsSlots (first : List ℕ) (slots : ℕ) : Type 0 where
  pub superblock : IsSuperblock first in_use.version slots
  pub some : 1 ≤ slots
  pub most : slots ≤ 1000000

-- The file begins as a ledger does, and isn't a whole one, for this reason: it is of another
-- version, its superblock isn't sound, or it has fewer sectors than the 39 + 4·slots that its
-- superblock needs.
abbrev pub IsPart : List ℕ → ℕ → LedgerRefusal → Type 0
IsPart first sectors (OtherVersion version) = IsOfVersion first version × (version ≢ in_use.version)
IsPart first sectors Unsound =
    IsOfVersion first in_use.version × ((slots : ℕ) → TellsSlots first slots → ⊥)
IsPart first sectors (Short slots found needed) =
    TellsSlots first slots × (needed ≡ 39 + 4 * slots) × (found ≡ sectors) × (sectors < needed)
IsPart first sectors _ = ⊥

-- it begins as a ledger does, and is a whole one
abbrev pub IsWhole : List ℕ → ℕ → Type 0
IsWhole first sectors = (slots : ℕ) × TellsSlots first slots × (39 + 4 * slots ≤ sectors)

-- it doesn't begin as a ledger does
abbrev pub IsForeign : List ℕ → Type 0
IsForeign first = take 4 first ≡ codes "TLDG" → ⊥

-- why a file isn't formatted that isn't blank, by what it holds: each is one of these alone
abbrev pub IsHeld : List ℕ → ℕ → LedgerRefusal → Type 0
IsHeld first sectors HasLedger = IsWhole first sectors
IsHeld first sectors HasOther = IsForeign first
IsHeld first sectors refusal = IsPart first sectors refusal
