use Rattle.std.proofs.Common.{◌≡◌, []}
use Rattle.device_folder.proofs.Losses.{LostUpTo}
use Rattle.device_folder.proofs.memory.MemoryFolder.lose_files.Given as goal

-- the files so far have lost what is pending
abbrev pub invariant-loop-file : goal.invariant-loop-file
invariant-loop-file l = record {
  lost : LostUpTo l.choices l.file l.fn.self.parts.files.items l.slot-items;
  none : l.none.list.items ≡ [];
}
