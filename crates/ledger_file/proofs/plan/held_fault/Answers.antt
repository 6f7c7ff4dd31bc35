use Rattle.std.proofs.Common.{refl}
use Rattle.ledger_file.proofs.Parts.{held_of}
use Rattle.ledger_file.proofs.plan.held_fault.Goals as goal

pub returns-in-Some : goal.returns-in-Some
returns-in-Some c =
    held_of c.args.first.now c.args.found c.in-Some.refusal
    ((c.in-Some.ensures.some c.in-Some.refusal).0 refl)
