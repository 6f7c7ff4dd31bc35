use Rattle.std.proofs.Common.{◌+◌, ◌∙◌, ap₂, arith, count_ones}
use Rattle.four_state.specs.PrivilegeLaws.{one-le-privileges}
use Rattle.four_state.proofs.Boundaries.{ones-privileges}
use Rattle.four_state.proofs.lines.Line.privileges.Goals as goal

pub returns-clause-number : goal.returns-clause-number
returns-clause-number c =
    ap₂ (λ r f. count_ones r + count_ones f) c.rising.ensures.marks c.falling.ensures.marks
    ∙ ones-privileges c.args.self.now c.rising.ensures.line

pub returns-clause-at_least_one : goal.returns-clause-at_least_one
returns-clause-at_least_one c =
    let one = one-le-privileges c.args.self.now c.rising.ensures.line.configuration in
    let number = returns-clause-number c in
    omega arith
