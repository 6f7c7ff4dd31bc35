-- The verdict is that of the entry's own checks where they refuse, and else that of the others.
use Rattle.std.proofs.Common.{◌∙◌, sym}
use Rattle.std.proofs.lemmas.Result.{err_from_is_err_and}
use Rattle.turn_ledger.specs.EntryLaws.{verdict-own_ok, verdict-own_err}
use Rattle.turn_ledger.proofs.accounts.post.Goals as goal

pub returns-in_err-check_alone-clause-answer : goal.returns-in_err-check_alone-clause-answer
returns-in_err-check_alone-clause-answer g c =
    let p = err_from_is_err_and c.from_residual.result c.from_residual.ensures.1 in
    rw (p.1, p.2) (sym (verdict-own_err _ _ _ (sym c.in_err-check_alone.ensures)))

pub returns-in_err-check_on-clause-answer : goal.returns-in_err-check_on-clause-answer
returns-in_err-check_on-clause-answer g c =
    let p = err_from_is_err_and c.from_residual-in_err-check_on.result
    c.from_residual-in_err-check_on.ensures.1 in
    rw (p.1, p.2) (c.in_err-check_on.ensures.answer
    ∙ sym (verdict-own_ok _ _ (sym c.in_ok-check_alone.ensures)))

pub change_balances-requires-clause-accepted : goal.change_balances-requires-clause-accepted
change_balances-requires-clause-accepted g c =
    verdict-own_ok _ _ (sym c.in_ok-check_alone.ensures) ∙ sym c.in_ok-check_on.ensures.answer

pub returns-clause-answer : goal.returns-clause-answer
returns-clause-answer g c =
    c.in_ok-check_on.ensures.answer ∙ sym (verdict-own_ok _ _ (sym c.in_ok-check_alone.ensures))
