use Rattle.std.proofs.Common.{arith}
use Rattle.four_state.proofs.Says.{says, shows, keeps, says-flipped}
use Rattle.four_state.proofs.lines.Line.flip_x.Goals as goal

pub overflow_shl-self : goal.overflow_shl-self
overflow_shl-self c =
    let line = says c.self.inside.stations c.self.inside.words c.args.self.now c.self.invariant
    c.self.view_is in
    let most = line.line.at_most_64 in
    omega arith

pub invariant_of-self : goal.invariant_of-self
invariant_of-self c =
    let i = c.self.inside in
    let line = says i.stations i.words c.args.self.now c.self.invariant c.self.view_is in
    keeps i.stations _ _ (says-flipped i.stations i.words c.args.self.now c.args.s line c.requires)

pub returns-clause-flipped : goal.returns-clause-flipped
returns-clause-flipped c =
    let i = c.self.inside in
    let line = says i.stations i.words c.args.self.now c.self.invariant c.self.view_is in
    shows i.stations _ _ (says-flipped i.stations i.words c.args.self.now c.args.s line c.requires)
