use Rattle.std.proofs.Common.{◌≡◌, Some, refl, ap, ◌∙◌, rules}
use Rattle.std.specs.Prelude.{option_map}
use Rattle.front_program.specs.ConsoleSettings.{NamesOnePath}
use Rattle.front_program.proofs.console_settings.Options.plan.Goals as goal

pub returns-then-eq-clause-one_path : goal.returns-then-eq-clause-one_path
returns-then-eq-clause-one_path c =
    let now = c.in-Some-Some-Some in
    let same : now.old.now ≡ now.path.now = search rules in
    let one : NamesOnePath c.args.self = record {
      path = now.path.now;
      migrate = ap (option_map (λ p. p.now)) now.is-0 ∙ ap Some same;
      device = ap (option_map (λ p. p.now)) now.is-1;
    } in
    (λ _. (one, search rules), λ _. refl)
