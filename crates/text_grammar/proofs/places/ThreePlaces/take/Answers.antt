use Rattle.std.proofs.Common.{[], ◌∷◌, arith, rules}
use Rattle.text_grammar.proofs.GrammarLemmas.{then_taken, then_told, wrong_first}
use Rattle.text_grammar.proofs.places.ThreePlaces.take.Goals as goal

pub returns-in_err-first : goal.returns-in_err-first
returns-in_err-first g c =
    search (
      rules,
      wrong_first (g.A.Place.field ∷ g.B.Place.field ∷ []) (g.C.Place.field ∷ []) _ _
          (omega (arith, c.requires)) c.in_err-first.ensures,
    )

pub returns-in_err-next : goal.returns-in_err-next
returns-in_err-next g c =
    search (
      rules,
      then_told (g.A.Place.field ∷ g.B.Place.field ∷ []) (g.C.Place.field ∷ []) _ _ _
          (omega (arith, c.requires)) c.in_ok-first.ensures _ c.in_err-next.ensures,
    )

pub returns : goal.returns
returns g c =
    then_taken (g.A.Place.field ∷ g.B.Place.field ∷ []) (g.C.Place.field ∷ []) _ _ _
    (omega (arith, c.requires)) c.in_ok-first.ensures _ _ c.in_ok-next.ensures
