use Rattle.std.proofs.Common.{◌∙◌, ap}
use Rattle.std.proofs.lemmas.Result.{IfOk-weaker}
use Rattle.std.specs.Fmt.{styled_decimal}
use Rattle.ledger_folder.proofs.Copies.{in_twenty_digits}
use Rattle.ledger_folder.proofs.copying.digits_of.Goals as goal

pub returns : goal.returns
returns c = IfOk-weaker c.format.result _ _
    (λ name is.
    is ∙ ap (λ (spec : _). styled_decimal spec c.args.number) c.laid_out.ensures
    ∙ in_twenty_digits c.args.number)
    c.format.ensures.ok
