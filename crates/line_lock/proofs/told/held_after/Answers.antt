use Rattle.std.proofs.Common.{◌∙◌, List, sym, ap, subst, take}
use Rattle.std.proofs.lemmas.List.{take_all}
use Rattle.turn_ledger.specs.declared.entry.Entry.{Entry}
use Rattle.turn_ledger.specs.State.{LedgerState, balance_of}
use Rattle.turn_ledger.specs.Screen.{AreAccepted, with_yes, posted_in_order}
use Rattle.turn_ledger.specs.Ledger.{entries_of}
use Rattle.turn_ledger.specs.LedgerLaws.{posted_in_order-is-ledger_after}
use Rattle.turn_clerk.specs.declared.turns.Turn.{Turn}
use Rattle.turn_clerk.specs.Turn.{accepted_of}
use Rattle.turn_clerk.specs.History.{batches_of}
use Rattle.turn_clerk.specs.Clerk.{in_flight_batch}
use Rattle.line_lock.proofs.Balances.{accepted_front, accepted_up_to, held_one_more}
use Rattle.line_lock.proofs.told.held_after.Goals as goal

pub loop-turn-preserved : goal.loop-turn-preserved
loop-turn-preserved g c =
    let clerk = c.args.clerk.now in
    let turn = c.turn-item.result in
    let accepted =
    subst (λ (turns : List Turn). AreAccepted clerk.opening.ledger (entries_of (batches_of turns)))
    (sym c.history.ensures.value)
    (accepted_front clerk.opening.ledger clerk.history (in_flight_batch clerk.in_flight)
    c.durable_prefix.ensures.in_order) in
    held_one_more clerk.opening.ledger (take c.args.turns c.history.result.now)
    c.loop-turn.turn-index turn c.loop-turn-test.true
    c.args.account c.loop-turn.balance c.after_entries-balance.result
    c.as_slice-in-loop-turn.result.now
    (c.as_slice-in-loop-turn.ensures.value ∙ c.of_accepted-accepted.ensures
    ∙ ap (λ (entries : List Entry). with_yes entries turn.verdicts) c.as_slice.ensures.value
    ∙ ap accepted_of c.turn-item.is)
    c.durable_prefix.ensures.ledger
    (accepted_up_to clerk.opening.ledger c.history.result.now c.args.turns accepted)
    c.loop-turn.invariant
    (λ state sound own is.
    c.after_entries-balance.ensures state sound own c.in_ok-balance.ensures.0 is)

pub returns : goal.returns
returns g c =
    let clerk = c.args.clerk.now in
    let items = take c.args.turns c.history.result.now in
    let accepted =
    accepted_up_to clerk.opening.ledger clerk.history c.args.turns
    (accepted_front clerk.opening.ledger clerk.history (in_flight_batch clerk.in_flight)
    c.durable_prefix.ensures.in_order) in (
      c.in_ok-balance.ensures.0,
      c.loop-turn.invariant
          ∙ ap (λ (turns : List Turn).
          balance_of (posted_in_order clerk.opening.ledger (entries_of (batches_of turns)))
          c.args.account)
          (take_all c.loop-turn.turn-index items c.loop-turn-test.false
          ∙ ap (take c.args.turns) c.history.ensures.value)
          ∙ ap (λ (state : LedgerState). balance_of state c.args.account)
          (posted_in_order-is-ledger_after clerk.opening.ledger
          (batches_of (take c.args.turns clerk.history)) c.durable_prefix.ensures.ledger
          accepted),
    )
