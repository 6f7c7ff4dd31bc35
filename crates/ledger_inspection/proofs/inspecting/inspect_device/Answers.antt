use Rattle.ledger_inspection.proofs.RefusalLemmas.{not_of_device, not_of_memory}
use Rattle.ledger_inspection.proofs.inspecting.inspect_device.Goals as goal

pub returns-in-Ok-print_sound-clause-sound : goal.returns-in-Ok-print_sound-clause-sound
returns-in-Ok-print_sound-clause-sound g c = λ honest.
    (c.in-Ok.sound.journal, c.in-Ok.sound.ledger, c.in-Ok.ensures.recovers honest)

pub returns-in-Err-clause-refused : goal.returns-in-Err-clause-refused
returns-in-Err-clause-refused g c = λ honest told.
    let denied = c.print_unsound.ensures.refused told in (
      c.in-Err.refusal,
      c.in-Err.ensures.refused honest (not_of_memory c.in-Err.refusal denied)
          (not_of_device c.in-Err.refusal denied),
    )
