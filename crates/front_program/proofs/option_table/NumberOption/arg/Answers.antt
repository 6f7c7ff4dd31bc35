use Rattle.std.proofs.Common.{◌≡◌, ◌∙◌, Option, Some, rules, ap}
use Rattle.clap.specs.declared.builder.value_parser.ValueParser.{ValueParser}
use Rattle.clap.specs.declared.builder.value_parser.ValueParser.TheVariants as value_parser
use Rattle.front_program.proofs.option_table.NumberOption.arg.Goals as goal

pub returns-clause-rule : goal.returns-clause-rule
returns-clause-rule c =
    let limits : ValueParser = value_parser.Unsigned c.args.self.least c.args.self.most in
    let given = c.value_parser.ensures.given in
    let parser : c.value_parser.result.value_parser ≡ Some limits =
    given.1 ∙ ap (λ (q : ValueParser). Some q) (given.2 ∙ c.unsigned.ensures) in
    let parsed : c.value_parser.result ≡ record c.option.result { value_parser = Some limits } =
    c.value_parser.ensures.others
    ∙ ap (λ (q : Option ValueParser). record c.option.result { value_parser = q }) parser in
    rw parsed (search rules)
