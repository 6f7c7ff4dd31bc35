use Rattle.device_folder.proofs.Steps.{one_past}
use Rattle.device_folder.proofs.memory.MemoryFolder.note.Goals as goal

pub returns-clause-noted : goal.returns-clause-noted
returns-clause-noted c = record {
  was = c.of-now.result;
  is = c.of-now.ensures;
  past = one_past _ _ _ c.in_ok-push.ensures.items;
}
