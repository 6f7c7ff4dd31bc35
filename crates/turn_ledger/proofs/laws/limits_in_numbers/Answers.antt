use Rattle.turn_ledger.specs.PlaceLaws.{length-place_bytes}
use Rattle.turn_ledger.proofs.laws.limits_in_numbers.Goals as goal

pub returns-clause-place : goal.returns-clause-place
returns-clause-place c = length-place_bytes
