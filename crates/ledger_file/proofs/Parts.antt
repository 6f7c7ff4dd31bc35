-- What a first sector says decides whether its file is a part of a ledger, and why.
use Rattle.std.proofs.Common.{◌≡◌, ◌≢◌, ◌≤◌, ◌<◌, ◌+◌, ◌*◌, ℕ, List, inr, refl, sym, ◌∙◌, ap, subst}
use Rattle.std.proofs.Common.{arith}
use Rattle.std.specs.Prelude.{◌↔◌, ◌⊎◌, Option, None, Some, IfSome, IfNone}
use Rattle.gate_journal.specs.Layout.{IsOfVersion, IsSuperblock, in_use}
use Rattle.gate_journal.specs.declared.first_sector.FirstSector.{FirstSector}
use Rattle.gate_journal.specs.declared.first_sector.FirstSector.TheVariants as says
use Rattle.ledger_file.specs.declared.refusal.LedgerRefusal.{LedgerRefusal}
use Rattle.ledger_file.specs.declared.refusal.LedgerRefusal.TheVariants.{OtherVersion, Unsound}
use Rattle.ledger_file.specs.declared.refusal.LedgerRefusal.TheVariants.{Short}
use Rattle.ledger_file.specs.Plan.{TellsSlots, IsPart, IsForeign, IsWhole, IsHeld}

-- what is said of a first sector, both ways
pub record IsSaid (bytes : List ℕ) (said : FirstSector) : Type 0 where
  pub no_journal : (said ≡ says.NoJournal) ↔ IsForeign bytes
  pub other_version : (version : ℕ)
      → (said ≡ says.OtherVersion version)
      ↔ (IsOfVersion bytes version × (version ≢ in_use.version))
  pub unsound : (said ≡ says.Unsound)
      ↔ (IsOfVersion bytes in_use.version
      × ((slots : ℕ) → IsSuperblock bytes in_use.version slots → 1 ≤ slots → slots ≤ 1000000 → ⊥))
  pub journal : (slots : ℕ)
      → (said ≡ says.Journal slots)
      ↔ (IsSuperblock bytes in_use.version slots × (1 ≤ slots) × (slots ≤ 1000000))

-- which said sector makes a file a part of a ledger, and why
abbrev pub IsCause : FirstSector → ℕ → LedgerRefusal → Type 0
IsCause said found (OtherVersion version) = said ≡ says.OtherVersion version
IsCause said found Unsound = said ≡ says.Unsound
IsCause said found (Short slots sectors needed) =
    (said ≡ says.Journal slots) × (needed ≡ 39 + 4 * slots) × (sectors ≡ found) × (found < needed)
IsCause said found _ = ⊥

module _ (bytes : List ℕ) (said : FirstSector) (is : IsSaid bytes said) (found : ℕ) where
  pub tells : (slots : ℕ) → said ≡ says.Journal slots → TellsSlots bytes slots
  tells slots same = let told = (is.journal slots).0 same in
      record { superblock = told.0; some = told.1; most = told.2 }

  pub cause_of : (fault : LedgerRefusal) → IsPart bytes found fault → IsCause said found fault
  cause_of (OtherVersion version) part = (is.other_version version).1 part
  cause_of Unsound part =
      is.unsound.1 (
        part.0,
        λ slots block some most.
            part.1 slots (record { superblock = block; some = some; most = most }),
      )
  cause_of (Short slots sectors needed) part =
      ((is.journal slots).1 (part.0.superblock, part.0.some, part.0.most), part.1, part.2, part.3)
  cause_of _ part = absurd part

  pub part_of : (fault : LedgerRefusal) → IsCause said found fault → IsPart bytes found fault
  part_of (OtherVersion version) cause = (is.other_version version).0 cause
  part_of Unsound cause = let told = is.unsound.0 cause in
      (told.0, λ slots it. told.1 slots it.superblock it.some it.most)
  part_of (Short slots sectors needed) cause = (tells slots cause.0, cause.1, cause.2, cause.3)
  part_of _ cause = absurd cause

-- a sector that says so has no other cause
pub foreign_none : (said : FirstSector) (found : ℕ) (fault : LedgerRefusal) → said ≡ says.NoJournal
    → IsCause said found fault → ⊥
foreign_none said found (OtherVersion version) is cause = cc (is, cause)
foreign_none said found Unsound is cause = cc (is, cause)
foreign_none said found (Short slots sectors needed) is cause = cc (is, cause.0)
foreign_none said found _ is cause = cause

pub other_one : (said : FirstSector) (found version : ℕ) (fault : LedgerRefusal)
    → said ≡ says.OtherVersion version → IsCause said found fault → OtherVersion version ≡ fault
other_one said found version (OtherVersion w) is cause = cc (is, cause)
other_one said found version Unsound is cause = absurd (cc (is, cause))
other_one said found version (Short slots sectors needed) is cause = absurd (cc (is, cause.0))
other_one said found version _ is cause = absurd cause

pub unsound_one : (said : FirstSector) (found : ℕ) (fault : LedgerRefusal) → said ≡ says.Unsound
    → IsCause said found fault → Unsound ≡ fault
unsound_one said found (OtherVersion w) is cause = absurd (cc (is, cause))
unsound_one said found Unsound is cause = refl
unsound_one said found (Short slots sectors needed) is cause = absurd (cc (is, cause.0))
unsound_one said found _ is cause = absurd cause

abbrev slots_of : FirstSector → ℕ
slots_of says.NoJournal = 0
slots_of (says.OtherVersion version) = 0
slots_of says.Unsound = 0
slots_of (says.Journal slots) = slots

pub same_slots : (a b : ℕ) → says.Journal a ≡ says.Journal b → a ≡ b
same_slots a b is = ap slots_of is

pub short_one : (said : FirstSector) (found slots : ℕ) (fault : LedgerRefusal)
    → said ≡ says.Journal slots → IsCause said found fault
    → (found < 39 + 4 * slots) × (Short slots found (39 + 4 * slots) ≡ fault)
short_one said found slots (OtherVersion w) is cause = absurd (cc (is, cause))
short_one said found slots Unsound is cause = absurd (cc (is, cause))
short_one said found slots (Short other sectors needed) is cause =
    let same = same_slots slots other (sym is ∙ cause.0) in
    (omega (arith, same, cause.1, cause.3), cc (same, cause.1, cause.2))
short_one said found slots _ is cause = absurd cause

-- what makes a file a part of a ledger is what it holds
pub held_of : (bytes : List ℕ) (found : ℕ) (refusal : LedgerRefusal) → IsPart bytes found refusal
    → IsHeld bytes found refusal
held_of bytes found (OtherVersion version) part = part
held_of bytes found Unsound part = part
held_of bytes found (Short slots sectors needed) part = part
held_of bytes found _ part = absurd part

abbrev fault_in : Option LedgerRefusal → LedgerRefusal
fault_in None = Unsound
fault_in (Some fault) = fault

pub same_fault : (a b : LedgerRefusal) → Some a ≡ Some b → a ≡ b
same_fault a b is = ap fault_in is

-- a superblock's file is a part where it has fewer sectors than that needs, and else a whole one
module _ (bytes : List ℕ) (slots found : ℕ) (is : IsSaid bytes (says.Journal slots)) where
  pub short_both : (result : Option LedgerRefusal)
      → IfSome result (λ fault. fault ≡ Short slots found (39 + 4 * slots))
      → IfSome result (λ _. found < 39 + 4 * slots)
      → IfNone result (39 + 4 * slots ≤ found) → (fault : LedgerRefusal)
      → (result ≡ Some fault) ↔ IsPart bytes found fault
  short_both None some short whole fault = (
    λ e. absurd (cc e),
    λ part. let one =
        short_one (says.Journal slots) found slots fault refl
        (cause_of bytes (says.Journal slots) is found fault part) in
        absurd (omega (arith, one.0, whole)),
  )
  short_both (Some told) some short whole fault = (
    λ e.
        subst (IsPart bytes found) (sym some ∙ same_fault told fault e)
        (part_of bytes (says.Journal slots) is found (Short slots found (39 + 4 * slots))
        (refl, refl, refl, short)),
    λ part. ap Some
        (some ∙ (short_one (says.Journal slots) found slots fault refl
        (cause_of bytes (says.Journal slots) is found fault part)).1),
  )

  pub whole_none : (result : Option LedgerRefusal) → IfNone result (39 + 4 * slots ≤ found)
      → IfNone result (IsForeign bytes ⊎ IsWhole bytes found)
  whole_none None whole = inr (slots, tells bytes (says.Journal slots) is found slots refl, whole)
  whole_none (Some told) whole = tt
