-- Both ways.
use Rattle.turn_ledger.specs.EntryLaws.{passes-from_yes, yes-from_passes}
use Rattle.turn_ledger.proofs.laws.a_yes_means_all_rules.Goals as goal

pub returns : goal.returns
returns c = λ state entry. (passes-from_yes state entry, yes-from_passes state entry)
