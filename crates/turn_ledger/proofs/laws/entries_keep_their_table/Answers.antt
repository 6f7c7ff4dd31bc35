use Rattle.turn_ledger.proofs.PlaceTables.{entry_keeps}
use Rattle.turn_ledger.proofs.KeptPlaces.{kept_place}
use Rattle.turn_ledger.proofs.laws.entries_keep_their_table.Goals as goal

pub returns-clause-keep : goal.returns-clause-keep
returns-clause-keep c = entry_keeps

pub returns-clause-kept : goal.returns-clause-kept
returns-clause-kept c seals bytes long values keeps = kept_place bytes long values seals keeps
