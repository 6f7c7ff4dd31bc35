use Rattle.std.proofs.Common.{◌≡◌, ◌∙◌, ◌+◌, inr, [], ◌∷◌, length, arith, sym}
use Rattle.std.proofs.lemmas.Bool.Decides.{nat_tests}
use Rattle.text_grammar.specs.Entries.{FillsEntry}
use Rattle.text_grammar.specs.Places.{Fills, Number}
use Rattle.text_grammar.proofs.EntryLemmas.{is_given, one_longer}
use Rattle.text_grammar.proofs.GrammarLemmas.{then_taken}
use Rattle.text_grammar.proofs.entries.given_or.Goals as goal

pub returns-in_ok-given : goal.returns-in_ok-given
unfolding FillsEntry Fills
returns-in_ok-given g c =
    let long : length g.P.Places.fields + 1 ≡ length c.args.words = grind (arith, nat_tests) in
    let both = then_taken g.P.Places.fields (Number ∷ []) _ _ _ (omega (arith, long))
    c.in_ok-places.ensures _ _ c.in_ok-given.ensures in
    (is_given _ _ long ∙ both.0, inr (sym (one_longer _ ∙ long), both.0, both.1.0))
