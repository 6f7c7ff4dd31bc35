-- What a copy in a folder is, and what is told of it.
use Rattle.std.specs.Prelude.{◌≡◌, ◌⊎◌, ◌-◌, ◌++◌, ℕ, None, length, replicate, codes, IsSome}
use Rattle.std.specs.Fmt.{decimal}
use Rattle.sector_device.specs.Image.{Image}
use Rattle.journal_recovery.specs.State.{State}
use Rattle.journal_recovery.specs.Recovery.{RecoversTo}
use Rattle.device_folder.specs.Folder.{Name, Left, FolderState}
use Rattle.device_folder.specs.Put.{IsBefore, IsAfter, StandsFor}
use Rattle.ledger_folder.specs.declared.faults.ArchiveFault.{ArchiveFault}
use Rattle.ledger_folder.specs.declared.faults.ArchiveFault.TheVariants as fault

-- it says why there is no copy, and nothing of an archive
abbrev pub IsOfCopy : ArchiveFault → Type 0
IsOfCopy fault.Memory = Unit {0}
IsOfCopy (fault.NoLedger part refusal) = Unit {0}
IsOfCopy (fault.Occupied volume) = Unit {0}
IsOfCopy (fault.Unwritten folder) = Unit {0}
IsOfCopy _ = ⊥

-- something has the copy's name
abbrev pub IsOccupied : ArchiveFault → Type 0
IsOccupied (fault.Occupied volume) = Unit {0}
IsOccupied _ = ⊥

-- the number is that of the next batch of the ledger in the image
abbrev pub IsNumberOf : ℕ → Image → Type 0
IsNumberOf number image = (held : State) × RecoversTo held image × (number ≡ held.next)

-- the name of a copy that isn't finished
abbrev pub unfinished : Name
unfinished = codes "unfinished"

-- the number in twenty digits
abbrev pub name_of : ℕ → Name
name_of number = replicate (20 - length (decimal number)) 48 ++ decimal number

-- the number of the ledger's next batch is the name of a file
pub record HasNameOfNext (original : Image) (folder : FolderState) : Type 0 where
  pub held : State
  pub recovers : RecoversTo held original
  pub taken : IsSome (folder.names (name_of held.next))

-- A crash left a copy: under the number of the ledger's next batch stands what recovers to the
-- ledger's state, and each other name but the unfinished one is as before.
pub record IsCopied (original : Image) (folder : FolderState) (left : Left) : Type 0 where
  pub held : State
  pub recovers : RecoversTo held original
  pub copy : IsAfter unfinished (name_of held.next) (RecoversTo held) folder left

-- Each name but the unfinished one is as before, or there is the copy too.
abbrev pub IsCopiedOrNot : Image → FolderState → Left → Type 0
IsCopiedOrNot original folder left =
    IsBefore unfinished folder left ⊎ IsCopied original folder left

-- The folder has a copy of that number, which is the one of the ledger's next batch, under a name
-- that was free. It recovers to the ledger's state, now and after every crash.
pub record HasCopy (number : ℕ) (original : Image) (old new : FolderState) : Type 0 where
  pub held : State
  pub recovers : RecoversTo held original
  pub number_is : number ≡ held.next
  pub free : old.names (name_of held.next) ≡ None
  pub stands : StandsFor unfinished (name_of held.next) (RecoversTo held) old new
