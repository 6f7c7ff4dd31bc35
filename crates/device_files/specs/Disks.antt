-- Which disks are taken, and what a refusal is to whoever asks for a file.
use Rattle.std.specs.Prelude.{◌≡◌, ℕ, List, take, codes}
use Rattle.std.specs.List.{All}
use Rattle.device_files.specs.declared.refusal.FileFault.{FileFault}
use Rattle.device_files.specs.declared.refusal.FileFault.TheVariants as fault
use Rattle.device_files.specs.declared.refusal.FileRefusal.{FileRefusal}
use Rattle.device_files.specs.declared.refusal.FileRefusal.TheVariants as file

-- the sectors begin as those of a ledger do, of whatever layout
abbrev pub BeginsAsLedger : List ℕ → Type 0
BeginsAsLedger bytes = take 4 bytes ≡ codes "TLDG"

-- every byte is zero
abbrev pub IsZero : List ℕ → Type 0
IsZero bytes = All (λ byte. byte ≡ 0) bytes

-- out of memory is reported as such, and every other fault as the file's
abbrev pub as_file : FileFault → FileRefusal
as_file fault.Memory = file.Memory
as_file _ = file.File
