use Rattle.four_state.specs.PrivilegeLaws.{one-le-privileges}
use Rattle.four_state.proofs.laws.someone_is_privileged.Goals as goal

pub returns : goal.returns
returns c = one-le-privileges
