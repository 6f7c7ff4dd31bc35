use Rattle.std.proofs.Common.{ap, slice_index_or}
use Rattle.four_state.proofs.Says.{says, no_other_bit}
use Rattle.four_state.proofs.Words.{IsBitSet-word}
use Rattle.four_state.proofs.lines.Line.words.Goals as goal

pub returns-clause-x : goal.returns-clause-x
returns-clause-x c =
    λ s.
    let line = says c.self.inside.stations c.self.inside.words c.args.self.now c.self.invariant
    c.self.view_is in
    rw (ap (λ words. slice_index_or words 0 0) line.same_words) (IsBitSet-word c.args.self.now.x s)

pub returns-clause-up : goal.returns-clause-up
returns-clause-up c =
    λ s.
    let line = says c.self.inside.stations c.self.inside.words c.args.self.now c.self.invariant
    c.self.view_is in
    rw (ap (λ words. slice_index_or words 1 0) line.same_words) (IsBitSet-word c.args.self.now.up s)

pub returns-clause-others : goal.returns-clause-others
returns-clause-others c =
    let line = says c.self.inside.stations c.self.inside.words c.args.self.now c.self.invariant
    c.self.view_is in
    rw line.same_words (no_other_bit c.args.self.now line.line)
