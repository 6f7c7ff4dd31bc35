-- The screening of a list and of more.
use Rattle.turn_ledger.specs.ScreenLaws.{screened-append}
use Rattle.turn_ledger.proofs.laws.later_entries_see_the_accepted.Goals as goal

pub returns : goal.returns
returns c = screened-append
