use Rattle.std.proofs.Common.{ap, sym, ◌∙◌, refl}
use Rattle.std.proofs.lemmas.Option.{slice_get-map}
use Rattle.std.specs.Option.{option_map}
use Rattle.station_desk.specs.Outcomes.{outcome_of}
use Rattle.station_desk.specs.OutcomeLaws.{never_without}
use Rattle.station_desk.proofs.giving.outcome_at.Goals as goal

pub unreachable-requires : goal.unreachable-requires
unreachable-requires c =
    let turn = c.args.turn.now in
    let here = sym c.get.ensures.value ∙ c.unwrap-verdict.ensures in
    never_without turn.posted turn.verdicts c.args.place c.in-Ok-None.is-1 here c.in-Ok-None.is-0
    turn.posted_if_accepted

pub returns-in-Err-default : goal.returns-in-Err-default
returns-in-Err-default c =
    let turn = c.args.turn.now in
    let here = sym c.get.ensures.value ∙ c.unwrap-verdict.ensures in
    slice_get-map (outcome_of turn.posted) turn.verdicts c.args.place
    ∙ ap (option_map (outcome_of turn.posted)) here
    ∙ (rw c.in-Err-default.is-0 (refl))

pub returns-in-Ok-Some : goal.returns-in-Ok-Some
returns-in-Ok-Some c =
    let turn = c.args.turn.now in
    let here = sym c.get.ensures.value ∙ c.unwrap-verdict.ensures in
    slice_get-map (outcome_of turn.posted) turn.verdicts c.args.place
    ∙ ap (option_map (outcome_of turn.posted)) here
    ∙ (rw (c.in-Ok-Some.is-0, c.in-Ok-Some.is-1) (refl))
