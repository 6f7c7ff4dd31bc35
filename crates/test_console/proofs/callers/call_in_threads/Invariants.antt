use Rattle.sector_device.specs.MemoryDevice.{memory_device_state}
use Rattle.test_words.specs.Bench.{foreign_state}
use Rattle.test_console.proofs.callers.call_in_threads.Given as goal

abbrev pub ghosts-call_in-L-Ledger : goal.ghosts-call_in-L-Ledger
ghosts-call_in-L-Ledger g a = record { name = a.blank.name; parts = a.blank.parts }

abbrev pub ghosts-call_in-L-OpenedOn : goal.ghosts-call_in-L-OpenedOn
ghosts-call_in-L-OpenedOn g a = record {
  device = foreign_state (memory_device_state a.device.inner) a.device.failures;
  line = a.line;
  begins = λ _. Unit {0};
}
