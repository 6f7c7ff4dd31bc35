use Rattle.std.proofs.Common.{◌+◌, ◌++◌, List, length, drop, get_or, arith, sym, ◌∙◌, ap}
use Rattle.std.proofs.lemmas.List.{length_push}
use Rattle.turn_ledger.specs.declared.entry.Entry.{Entry}
use Rattle.turn_ledger.specs.declared.entry.Entry.TheVariants.{Deposit}
use Rattle.turn_ledger.specs.Screen.{with_yes}
use Rattle.turn_ledger.specs.ScreenLaws.{gathered_yes, gathered_no}
use Rattle.turn_ledger.proofs.batch.Batch.of_accepted.Goals as goal
use Rattle.turn_ledger.proofs.batch.Batch.of_accepted.Goals.{then-is_ok, else-is_ok}

pub loop-place-preserved : goal.loop-place-preserved
loop-place-preserved c =
    let entries = c.args.entries.now in
    let verdicts = c.args.verdicts.now in
    let i = c.loop-place.place in
    let here = sym c.get.ensures.value ∙ c.unwrap-verdict.ensures in
    elim c.if-is_ok.branch [
      | then-is_ok w ↦
          let pushed = w.batch-is ∙ w.push.ensures in
          let accepted = sym c.is_ok.ensures.value ∙ w.if-is_ok.true in
          record {
            told = ap (λ (batch : List Entry). batch
                ++ with_yes (drop (i + 1) entries) (drop (i + 1) verdicts)) pushed
                ∙ gathered_yes c.loop-place.batch entries verdicts i (Deposit 0 0 0)
                c.unwrap-verdict.result c.loop-place-test.true here accepted
                ∙ c.loop-place.invariant.told;
            count = omega (
              arith,
              ap length pushed,
              length_push c.loop-place.batch (get_or entries i (Deposit 0 0 0)),
              c.loop-place.invariant.count,
            );
          }
      | else-is_ok w ↦
          let refused = sym c.is_ok.ensures.value ∙ w.if-is_ok.false in
          record {
            told = ap (λ (batch : List Entry). batch
                ++ with_yes (drop (i + 1) entries) (drop (i + 1) verdicts)) w.batch-is
                ∙ gathered_no c.loop-place.batch entries (with_yes entries verdicts) verdicts i
                c.unwrap-verdict.result here refused c.loop-place.invariant.told;
            count = omega (arith, ap length w.batch-is, c.loop-place.invariant.count);
          }
    ]
