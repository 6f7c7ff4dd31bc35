use Rattle.std.proofs.Common.{◌∙◌, ◌-◌, ◌/◌, ap₂, slice_index_or, bit_and, bit_xor}
use Rattle.four_state.specs.Configuration.{stations}
use Rattle.four_state.proofs.Boundaries.{rising_word}
use Rattle.four_state.proofs.Says.{says}
use Rattle.four_state.proofs.lines.Line.rising.Goals as goal

pub returns-clause-marks : goal.returns-clause-marks
returns-clause-marks c =
    let line = says c.self.inside.stations c.self.inside.words c.args.self.now c.self.invariant
    c.self.view_is in
    ap₂ (λ words mask.
    bit_and (bit_xor (slice_index_or words 0 0) (slice_index_or words 0 0 / 2)) mask)
    line.same_words c.boundaries.ensures
    ∙ rising_word c.args.self.now (stations c.args.self.now - 1)
