use Rattle.std.proofs.Common.{◌==◌, ◌∙◌, ◌-◌, ap, arith, map, false}
use Rattle.std.specs.Int.{bit_at}
use Rattle.std.specs.List.{range_with_len}
use Rattle.std.proofs.lemmas.List.FromFn.{get_or-map-range_with_len}
use Rattle.four_state.specs.Configuration.{stations}
use Rattle.four_state.specs.Marks.{falls}
use Rattle.four_state.proofs.Words.{word-bit}
use Rattle.four_state.proofs.lines.Line.falls.Goals as goal

pub is_set-requires : goal.is_set-requires
is_set-requires c = let most = c.falling.ensures.line.at_most_64 in let stands = c.requires in
    omega arith

pub returns : goal.returns
returns c =
    let stands = c.requires in
    let n = stations c.args.self.now - 1 in
    let marks = map (falls c.args.self.now) (range_with_len 0 n) in
    c.is_set.ensures
    ∙ ap (λ word. bit_at word c.args.below == 1) c.falling.ensures.marks
    ∙ word-bit marks c.args.below
    ∙ get_or-map-range_with_len (falls c.args.self.now) 0 n c.args.below c.args.below false
    (omega arith) (omega arith)
