use Rattle.std.proofs.Common.{◌≤◌, arith, length}
use Rattle.text_grammar.proofs.CuttingLemmas.{seen_itself}
use Rattle.text_grammar.proofs.cutting.LineCutter.line.Goals as goal

pub returns-else-self-clause-seen : goal.returns-else-self-clause-seen
returns-else-self-clause-seen c =
    let few : length c.self.inside.kept.items ≤ 258 = omega (arith, c.self.invariant) in
    seen_itself c.self.inside.has_ended _ _ c.self.view_is few c.self.invariant.2
