use Rattle.std.proofs.Common.{◌≡◌, ◌≤◌, Some, ap, sym, ◌∙◌, length, arith}
use Rattle.std.specs.Prelude.{slice_get}
use Rattle.std.specs.Bool.{Decides}
use Rattle.std.proofs.lemmas.Bool.Decides.{Decides-at, Decides-like}
use Rattle.std.proofs.lemmas.Option.{slice_get-get_or, slice_get_within, get_or_from_slice_get}
use Rattle.turn_clerk.specs.declared.turns.Turn.{Turn}
use Rattle.turn_clerk.specs.Equality.{Turn-decides}
use Rattle.line_lock.proofs.closing.stands_at.Goals as goal

pub returns-in-Some : goal.returns-in-Some
returns-in-Some c =
    let turns = c.args.turns.now in
    let place = c.args.place in
    let found = c.in-Some.there.now in
    let looked = c.in-Some.ensures.lookup in
    let is : slice_get turns place ≡ Some found =
    slice_get-get_or turns place found looked.3.0 ∙ ap (λ (t : Turn). Some t) (sym looked.1) in
    let decides : Decides c.eq.result (found ≡ c.args.turn.now) =
    Decides-at c.eq.result _ c.eq.ensures (Turn-decides found c.args.turn.now) in
    Decides-like c.eq.result
    (λ same. is ∙ ap (λ (t : Turn). Some t) same)
    (λ there. sym (get_or_from_slice_get turns place found found is)
    ∙ get_or_from_slice_get turns place c.args.turn.now found there)
    decides

pub returns-in-None : goal.returns-in-None
returns-in-None c =
    let past : length c.args.turns.now ≤ c.args.place = c.in-None.ensures.lookup.3 in (
      λ yes. absurd (cc),
      λ there. absurd
          (omega
          (arith, past, slice_get_within c.args.turns.now c.args.place c.args.turn.now there)),
    )
