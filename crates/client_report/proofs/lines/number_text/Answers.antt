use Rattle.std.proofs.Common.{◌≡◌, List, ℕ, ◌++◌, sym, ap, subst, ◌∙◌, arith}
use Rattle.std.specs.Prelude.{IfOk}
use Rattle.std.specs.Fmt.{decimal}
use Rattle.ofx_types.specs.TextRules.{trimmed}
use Rattle.client_report.proofs.lines.number_text.Goals as goal
use Rattle.bank_model.proofs.Visible.{decimal_trimmed}

pub text_of-requires : goal.text_of-requires
text_of-requires c =
    let same = c.deref.ensures.value ∙ c.in_ok-print_number.ensures.ok ∙ ap (λ (l : List ℕ). l ++ decimal c.args.number) c.new-digits.ensures.items in
    ap trimmed same ∙ decimal_trimmed c.args.number (omega arith) ∙ sym same

pub returns : goal.returns
returns c =
    let same = c.deref.ensures.value ∙ c.in_ok-print_number.ensures.ok ∙ ap (λ (l : List ℕ). l ++ decimal c.args.number) c.new-digits.ensures.items in
    subst (λ (bytes : List ℕ). IfOk c.text_of.result (λ (line : List ℕ). line ≡ bytes)) same c.text_of.ensures
