-- The balances below the changes are those of all accounts.
use Rattle.std.proofs.Common.{◌∙◌, sym}
use Rattle.turn_ledger.proofs.Changes.{length-changed}
use Rattle.turn_ledger.proofs.scratch.ScratchAccounts.held_by.Goals as goal

pub latest-requires-clause-balances : goal.latest-requires-clause-balances
latest-requires-clause-balances c =
    sym (length-changed c.args.self.now.ledger.now.balances c.args.self.now.changes.items)
    ∙ c.args.self.now.kept.is_ledger.accounts
