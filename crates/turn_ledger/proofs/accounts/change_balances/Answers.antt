-- What an entry's yes says is what its changes need.
use Rattle.std.proofs.Common.{◌∙◌, ap, sym, arith}
use Rattle.turn_ledger.specs.State.{LedgerState, total_of, credited}
use Rattle.turn_ledger.specs.StateLaws.{total_of-debited}
use Rattle.turn_ledger.specs.EntryLaws.{passes_as, posted-deposit, posted-withdraw, posted-transfer}
use Rattle.turn_ledger.specs.EntryLaws.{posted-seal}
use Rattle.turn_ledger.proofs.accounts.change_balances.Goals as goal

pub credit-requires-clause-account : goal.credit-requires-clause-account
credit-requires-clause-account g c = (passes_as _ _ _ c.in-Deposit.is c.requires.accepted).1

pub credit-requires-clause-within_limit : goal.credit-requires-clause-within_limit
credit-requires-clause-within_limit g c = (passes_as _ _ _ c.in-Deposit.is c.requires.accepted).2

pub debit-requires-clause-account : goal.debit-requires-clause-account
debit-requires-clause-account g c = (passes_as _ _ _ c.in-Withdraw.is c.requires.accepted).1

pub debit-requires-clause-held : goal.debit-requires-clause-held
debit-requires-clause-held g c = (passes_as _ _ _ c.in-Withdraw.is c.requires.accepted).2

pub debit-requires-in-Transfer-clause-account : goal.debit-requires-in-Transfer-clause-account
debit-requires-in-Transfer-clause-account g c =
    (passes_as _ _ _ c.in-Transfer.is c.requires.accepted).1

pub debit-requires-in-Transfer-clause-held : goal.debit-requires-in-Transfer-clause-held
debit-requires-in-Transfer-clause-held g c =
    (passes_as _ _ _ c.in-Transfer.is c.requires.accepted).4

pub credit-requires-in-Transfer-clause-account : goal.credit-requires-in-Transfer-clause-account
credit-requires-in-Transfer-clause-account g c =
    (passes_as _ _ _ c.in-Transfer.is c.requires.accepted).2

pub credit-requires-in-Transfer-clause-within_limit
    : goal.credit-requires-in-Transfer-clause-within_limit
credit-requires-in-Transfer-clause-within_limit g c =
    let p = passes_as _ _ _ c.in-Transfer.is c.requires.accepted in
    omega (
      arith,
      c.requires.ledger.within_limit,
      ap total_of c.debit-in-Transfer.ensures.state,
      total_of-debited (g.A.Accounts.state c.args.accounts.now) c.in-Transfer.from
          c.in-Transfer.amount c.requires.ledger.accounts p.1 p.4,
    )

pub returns-in-Deposit-clause-state : goal.returns-in-Deposit-clause-state
returns-in-Deposit-clause-state g c =
    c.credit.ensures.state ∙ sym (posted-deposit _ _ _ _ _ c.in-Deposit.is)

pub returns-in-Withdraw-clause-state : goal.returns-in-Withdraw-clause-state
returns-in-Withdraw-clause-state g c =
    c.debit.ensures.state ∙ sym (posted-withdraw _ _ _ _ _ c.in-Withdraw.is)

pub returns-in-Transfer-clause-state : goal.returns-in-Transfer-clause-state
returns-in-Transfer-clause-state g c =
    c.credit-in-Transfer.ensures.state
    ∙ ap (λ (state : LedgerState). credited state c.in-Transfer.to c.in-Transfer.amount)
    c.debit-in-Transfer.ensures.state
    ∙ sym (posted-transfer _ _ _ _ _ _ c.in-Transfer.is)

pub mark-requires-clause-account : goal.mark-requires-clause-account
mark-requires-clause-account g c = (passes_as _ _ _ c.in-Seal.is c.requires.accepted).0

pub returns-in-Seal-clause-state : goal.returns-in-Seal-clause-state
returns-in-Seal-clause-state g c = c.mark.ensures.state ∙ sym (posted-seal _ _ _ _ c.in-Seal.is)
