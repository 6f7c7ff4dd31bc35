use Rattle.four_state.specs.PrivilegeList.{privileges_of-Contains}
use Rattle.four_state.proofs.laws.list_of_privileges.Goals as goal

pub returns : goal.returns
returns c = privileges_of-Contains
