-- What contracts know of an archive in a folder.
use Rattle.std.specs.Prelude.{Bool, true, false, Option, None, Some}
use Rattle.office_day.specs.Archive.{Archive, no_archive}
use Rattle.office_service.specs.declared.faults.OfficeFault.{OfficeFault}

-- it couldn't be kept, if there is a fault
abbrev pub has_failed : Option OfficeFault → Bool
has_failed None = false
has_failed (Some fault) = true

-- That it couldn't be kept once, if that is so, and nothing of what the files in it hold: no fact
-- about honest archives holds of it. This is the one place that says what is trusted of a folder,
-- as of a file `unknown_sectors` does: it has the batches that were written into it, and nobody
-- else changes it.
abbrev pub folder_archive : Option OfficeFault → Archive
folder_archive fault = record no_archive { failed = has_failed fault }
