use Rattle.std.proofs.Common.{◌≡◌, List, ℕ, Option, Some, None, refl}
use Rattle.std.specs.Str.Parse.{digits_value, without_leading_plus}
use Rattle.clap.specs.Words.{found_of, one_text}
use Rattle.front_program.proofs.option_table.NumberOption.number.Goals as goal

pub returns-in-Some-clause-asked : goal.returns-in-Some-clause-asked
returns-in-Some-clause-asked c =
    let told = one_text (found_of c.args.matches.now) c.args.self.name.now in
    let Asked : Type 0 =
    (text : List ℕ) × (told ≡ Some text)
    × (c.in-Some.number ≡ digits_value 10 (without_leading_plus text)) in
    let go : (o : Option (List ℕ)) → told ≡ o → Asked = λ o. elim o as (λ o. told ≡ o → Asked) [
      | None ↦ λ e. let none : c.get_one.result ≡ None = c.get_one.ensures.none e in
          let some = c.in-Some.is in cc
      | Some text ↦ λ e. let value = c.in-Some.ensures.value text e in (text, e, value.0.1)
    ] in
    go told refl
