use Rattle.std.proofs.Common.{◌≡◌, ◌∙◌, List, length, Some, sym, ap}
use Rattle.std.specs.Bool.{Decides}
use Rattle.std.proofs.lemmas.Bool.Decides.{Decides-at, Decides-like}
use Rattle.turn_ledger.specs.declared.entry.Entry.{Entry}
use Rattle.turn_ledger.specs.Equality.{Batch-decides}
use Rattle.turn_ledger.specs.Screen.{accepted, with_yes}
use Rattle.turn_ledger.specs.ScreenLaws.{length-screened}
use Rattle.line_lock.proofs.told.are_in_flight.Goals as goal

pub of_accepted-accepted-requires-clause-each : goal.of_accepted-accepted-requires-clause-each
of_accepted-accepted-requires-clause-each g c =
    ap length c.screen.ensures.verdicts
    ∙ length-screened c.ledger.result.now c.as_slice-asked.result.now

pub returns-in-Some : goal.returns-in-Some
returns-in-Some g c =
    let clerk = c.args.clerk.now in
    let batch : List Entry = c.in-Some.batch in
    let taken : List Entry = c.of_accepted-accepted.result in
    let same : taken ≡ accepted clerk.ledger c.args.entries.now =
    c.of_accepted-accepted.ensures
    ∙ ap (with_yes c.as_slice-asked.result.now) c.screen.ensures.verdicts
    ∙ (λ i. accepted (c.ledger.ensures i) (c.as_slice-asked.ensures.value i)) in
    let flies : clerk.in_flight ≡ Some batch = sym c.in_flight.ensures.value ∙ c.in-Some.is in
    let decides : Decides c.eq.result (batch ≡ taken) =
    Decides-at c.eq.result _ c.eq.ensures (Batch-decides batch taken) in
    Decides-like c.eq.result
    (λ yes. flies ∙ ap (λ (entries : List Entry). Some entries) (yes ∙ same))
    (λ there. let is : Some batch ≡ Some (accepted clerk.ledger c.args.entries.now) =
    sym flies ∙ there in let one : batch ≡ accepted clerk.ledger c.args.entries.now = cc in
    one ∙ sym same)
    decides
