use Rattle.std.proofs.Common.{◌++◌, ap, ◌∙◌, arith}
use Rattle.std.specs.Fmt.{decimal}
use Rattle.ofx_types.specs.TextRules.{trimmed}
use Rattle.bank_model.proofs.Visible.{decimal_trimmed}
use Rattle.bank_queries.proofs.tokens.number_text.Goals as goal

pub returns-in-Ok : goal.returns-in-Ok
returns-in-Ok c =
    c.in-Ok.ensures.1
    ∙ ap trimmed (c.deref.ensures.value ∙ c.in_ok-print_number.ensures.ok ∙ ap (λ l. l ++ decimal c.args.number) c.new-digits.ensures.items)
    ∙ decimal_trimmed c.args.number (omega arith)
