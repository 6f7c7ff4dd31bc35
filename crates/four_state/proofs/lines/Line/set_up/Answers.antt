use Rattle.std.proofs.Common.{ap, arith, slice_index_or}
use Rattle.four_state.specs.MotionLaws.{IsLine-up}
use Rattle.four_state.proofs.Says.{says, shows, keeps, says-up}
use Rattle.four_state.proofs.lines.Line.set_up.Goals as goal

pub invariant_of-self : goal.invariant_of-self
invariant_of-self c =
    let i = c.self.inside in
    let now = c.args.self.now in
    let line = says i.stations i.words now c.self.invariant c.self.view_is in
    let long = line.line.configuration.as_long in
    let most = line.line.at_most_64 in
    let below = c.requires.below in
    let word = c.with_bit.ensures now.up (omega arith) (omega arith)
    (ap (λ words. slice_index_or words 1 0) line.same_words) in
    keeps i.stations _ _
    (says-up i.stations i.words now c.args.s c.args.up c.with_bit.result line c.requires.above
    c.requires.below word)

pub returns-clause-set : goal.returns-clause-set
returns-clause-set c =
    let i = c.self.inside in
    let now = c.args.self.now in
    let line = says i.stations i.words now c.self.invariant c.self.view_is in
    let long = line.line.configuration.as_long in
    let most = line.line.at_most_64 in
    let below = c.requires.below in
    let word = c.with_bit.ensures now.up (omega arith) (omega arith)
    (ap (λ words. slice_index_or words 1 0) line.same_words) in
    shows i.stations _ _
    (says-up i.stations i.words now c.args.s c.args.up c.with_bit.result line c.requires.above
    c.requires.below word)

pub returns-clause-line : goal.returns-clause-line
returns-clause-line c =
    let i = c.self.inside in
    let now = c.args.self.now in
    let line = says i.stations i.words now c.self.invariant c.self.view_is in
    rw (returns-clause-set c)
    (IsLine-up now c.args.s c.args.up line.line c.requires.above c.requires.below)
