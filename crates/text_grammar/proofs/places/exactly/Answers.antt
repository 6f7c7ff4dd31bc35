use Rattle.std.proofs.Common.{◌≡◌, length, arith}
use Rattle.std.proofs.lemmas.Bool.Decides.{nat_tests}
use Rattle.text_grammar.proofs.GrammarLemmas.{whole}
use Rattle.text_grammar.proofs.places.exactly.Goals as goal

pub returns-then-are : goal.returns-then-are
returns-then-are g c =
    let long : length g.P.Places.fields ≡ length c.args.words = grind (arith, nat_tests) in
    whole _ _ c.args.words _ c.take.result long c.take.ensures
