use Rattle.std.proofs.Common.{◌==◌, ◌∙◌, ap, slice_index_or}
use Rattle.std.specs.Int.{bit_at}
use Rattle.four_state.proofs.Says.{says}
use Rattle.four_state.proofs.Words.{word-bit}
use Rattle.four_state.proofs.lines.Line.up.Goals as goal

pub returns : goal.returns
returns c =
    let line = says c.self.inside.stations c.self.inside.words c.args.self.now c.self.invariant
    c.self.view_is in
    c.is_set.ensures
    ∙ ap (λ words. bit_at (slice_index_or words 1 0) c.args.station == 1) line.same_words
    ∙ word-bit c.args.self.now.up c.args.station
