use Rattle.std.proofs.Common.{◌≡◌, List, ℕ, ◌++◌, sym, ap, subst, ◌∙◌, arith}
use Rattle.std.specs.Prelude.{IfOk}
use Rattle.ofx_types.specs.TextRules.{trimmed}
use Rattle.client_report.specs.Lines.{balance_text}
use Rattle.client_report.proofs.Trimmed.{balance_trimmed}
use Rattle.client_report.proofs.lines.balance_line.Goals as goal

pub text_of-requires : goal.text_of-requires
text_of-requires c =
    let same = c.deref.ensures.value ∙ c.in_ok-put_balance.ensures ∙ ap (λ (l : List ℕ). l ++ balance_text c.args.account.now c.args.code c.args.body.now) c.new-line.ensures.items in
    ap trimmed same ∙ balance_trimmed c.args.account.now c.args.code c.args.body.now (omega arith) ∙ sym same

pub returns : goal.returns
returns c =
    let same = c.deref.ensures.value ∙ c.in_ok-put_balance.ensures ∙ ap (λ (l : List ℕ). l ++ balance_text c.args.account.now c.args.code c.args.body.now) c.new-line.ensures.items in
    subst (λ (bytes : List ℕ). IfOk c.text_of.result (λ (line : List ℕ). line ≡ bytes)) same c.text_of.ensures
