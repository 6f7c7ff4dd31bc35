use Rattle.std.proofs.Common.{◌∙◌, ◌-◌, ◌/◌, ap₂, arith, slice_index_or, bit_and, bit_xor, w64}
use Rattle.std.specs.Int.{bit_not}
use Rattle.four_state.specs.Configuration.{stations}
use Rattle.four_state.proofs.Boundaries.{falling_word}
use Rattle.four_state.proofs.Says.{says}
use Rattle.four_state.proofs.lines.Line.falling.Goals as goal

pub returns-clause-marks : goal.returns-clause-marks
returns-clause-marks c =
    let line = says c.self.inside.stations c.self.inside.words c.args.self.now c.self.invariant
    c.self.view_is in
    let most = line.line.at_most_64 in
    ap₂
    (λ words mask. bit_and
    (bit_and (bit_and
    (bit_not w64 (bit_xor (slice_index_or words 0 0) (slice_index_or words 0 0 / 2)))
    (slice_index_or words 1 0))
    (bit_not w64 (slice_index_or words 1 0 / 2))) mask)
    line.same_words
    c.boundaries.ensures
    ∙ falling_word c.args.self.now (stations c.args.self.now - 1) line.line (omega arith)
