use Rattle.std.proofs.Common.{◌∙◌, [], ◌∷◌, ap, codes}
use Rattle.clap.specs.Words.{Rule, rule_of}
use Rattle.front_program.proofs.console_words.sectors_of.Goals as goal

pub returns-clause-rule : goal.returns-clause-rule
returns-clause-rule c =
    ap rule_of c.default_value.ensures
    ∙ ap (λ (rule : Rule). record rule { defaults = codes "64" ∷ [] }) c.arg.ensures.rule
