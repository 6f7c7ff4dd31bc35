use Rattle.std.proofs.Common.{◌≡◌, ◌<◌, ◌∙◌, ℕ, List, arith, length}
use Rattle.std.proofs.Math.Seq.{take-length}
use Rattle.text_grammar.specs.Cutting.{HasSeen}
use Rattle.text_grammar.proofs.CuttingLemmas.{IsTold, at_end_of_line, goes_on, last_of_stream}
use Rattle.text_grammar.proofs.CuttingLemmas.{no_longer}
use Rattle.text_grammar.proofs.cutting.LineCutter.end.Goals as goal

-- what the end is answered with, whatever the bytes before it are
told_at_end : (c : goal.After-cut) (bytes : List ℕ) → HasSeen c.args.self.now bytes
    → IsTold bytes c.cut.result c.cut.new.self.ended
told_at_end c bytes seen =
    let inside = goes_on _ _ _ c.self.view_is c.begin.ensures.ended in
    let size : c.len-length.result ≡ length c.self.inside.kept.items =
    omega (arith, c.len-length.ensures) in
    at_end_of_line (λ l. l) (λ l. omega arith) take-length c.self.inside.kept.items
    c.begin.new.self.since bytes _ _ _ inside.1 (c.begin.ensures.since ∙ seen.0) size
    c.cut.ensures.too_long c.cut.ensures.line

pub returns-clause-cuts : goal.returns-clause-cuts
returns-clause-cuts c = λ bytes seen some. (told_at_end c bytes seen).told

pub returns-clause-line : goal.returns-clause-line
returns-clause-line c = λ bytes seen. (told_at_end c bytes seen).lent

pub returns-clause-last_line : goal.returns-clause-last_line
returns-clause-last_line c = λ bytes line seen ended.
    let inside = goes_on _ _ _ c.self.view_is c.begin.ensures.ended in
    let least = no_longer c.self.inside.kept.items bytes
    (inside.1 ∙ c.begin.ensures.since ∙ seen.0) in
    let some : 0 < length bytes = grind (arith, least) in
    last_of_stream bytes line seen.1 some ((told_at_end c bytes seen).only line ended)
