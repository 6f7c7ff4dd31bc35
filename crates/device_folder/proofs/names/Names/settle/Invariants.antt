use Rattle.device_folder.proofs.Settled.{SettledUpTo}
use Rattle.device_folder.proofs.names.Names.settle.Given as goal

-- the entries so far are settled
abbrev pub invariant-loop-entry : goal.invariant-loop-entry
invariant-loop-entry l = SettledUpTo l.choices l.entry-index l.fn.self.entries.items l.entry-items
