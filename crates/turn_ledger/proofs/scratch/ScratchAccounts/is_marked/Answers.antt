-- The marks below the changes are those of all accounts.
use Rattle.std.proofs.Common.{◌∙◌, sym}
use Rattle.turn_ledger.proofs.Changes.{length-marked}
use Rattle.turn_ledger.proofs.scratch.ScratchAccounts.is_marked.Goals as goal

pub has_mark-requires-clause-marks : goal.has_mark-requires-clause-marks
has_mark-requires-clause-marks c =
    sym (length-marked c.args.self.now.ledger.now.sealed c.args.self.now.seals.items)
    ∙ c.args.self.now.kept.is_ledger.marks
