use Rattle.std.proofs.Common.{◌≡◌, ◌∙◌, rules, ap₂, codes}
use Rattle.clap.specs.Words.{app_of, new_app, with_rule}
use Rattle.front_program.proofs.console_words.console_command.Goals as goal

pub returns-clause-words : goal.returns-clause-words
returns-clause-words c =
    let start_is : app_of c.after_help.result ≡ new_app (codes "turn_console") =
    search (rules, c.after_help.ensures, c.about.ensures, c.new.ensures.app) in
    let first_is = c.in_ok-arg.ensures.shape c.option.ensures.own
    ∙ ap₂ with_rule start_is c.option.ensures.rule in
    let second_is =
    c.in_ok-arg-2.ensures.shape c.sectors_of.ensures.own
    ∙ ap₂ with_rule first_is c.sectors_of.ensures.rule in
    let third_is = c.in_ok-arg-3.ensures.shape c.option-2.ensures.own
    ∙ ap₂ with_rule second_is c.option-2.ensures.rule in
    let fourth_is =
    c.in_ok-arg-4.ensures.shape c.arg-4.ensures.own
    ∙ ap₂ with_rule third_is c.arg-4.ensures.rule in
    c.in_ok-command.ensures.shape c.flag.ensures.own ∙ ap₂ with_rule fourth_is c.flag.ensures.rule
