-- What contracts know of a folder of the system's.
use Rattle.std.specs.Prelude.{ℕ, [], None}
use Rattle.device_folder.specs.Folder.{FolderState}

-- Nothing but how many calls have failed: no fact about honest folders holds of it.
abbrev pub unknown_folder : ℕ → FolderState
unknown_folder failures = record {
  names = λ _. None;
  may_name = λ _ _. Unit {0};
  reads = λ _. [];
  may_hold = λ _ _. Unit {0};
  lent = λ _. Unit {0};
  moment = 0;
  left_since = λ _ _. Unit {0};
  honest = ⊥;
  faults = failures;
}
