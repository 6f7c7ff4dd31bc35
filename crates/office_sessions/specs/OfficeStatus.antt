-- How an office stands, as its counters are told.
use Rattle.std.specs.Prelude.{ℕ, Option, None, Some}
use Rattle.office_sessions.specs.declared.recess.ArchiveState.{ArchiveState}
use Rattle.office_sessions.specs.declared.recess.ArchiveState.TheVariants as kept

-- below which number all batches are in the archive, if there is one
abbrev pub archived_of : ArchiveState → Option ℕ
archived_of (kept.UpTo next) = Some next
archived_of kept.NoArchive = None
archived_of kept.Failed = None
