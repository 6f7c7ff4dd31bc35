use Rattle.line_lock.proofs.Balances.{posted_one_more}
use Rattle.line_lock.proofs.told.after_entries.Goals as goal

pub loop-entry-preserved : goal.loop-entry-preserved
loop-entry-preserved c = λ state sound accepted there is.
    posted_one_more state c.args.entries.now c.loop-entry.entry-index _ c.args.account
    c.loop-entry-test.true sound accepted there
    c.loop-entry.balance c.brought.result c.taken.result c.saturating_add.result
    c.saturating_sub-balance.result
    c.brought.ensures c.taken.ensures c.saturating_add.ensures c.saturating_sub-balance.ensures
    (c.loop-entry.invariant state sound accepted there is)
