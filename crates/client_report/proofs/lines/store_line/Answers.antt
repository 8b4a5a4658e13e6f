use Rattle.std.proofs.Common.{◌≡◌, List, ℕ, ◌++◌, sym, ap, subst, ◌∙◌, arith}
use Rattle.std.specs.Prelude.{IfOk}
use Rattle.ofx_types.specs.TextRules.{trimmed}
use Rattle.client_report.specs.Lines.{store_text}
use Rattle.client_report.proofs.Trimmed.{store_trimmed}
use Rattle.client_report.proofs.lines.store_line.Goals as goal

pub text_of-requires : goal.text_of-requires
text_of-requires c =
    let same = c.deref.ensures.value ∙ c.in_ok-put_store.ensures.text ∙ ap (λ (l : List ℕ). l ++ store_text c.args.store.now) c.new-line.ensures.items in
    ap trimmed same ∙ store_trimmed c.args.store.now c.in_ok-put_store.ensures.few ∙ sym same

pub returns : goal.returns
returns c =
    let same = c.deref.ensures.value ∙ c.in_ok-put_store.ensures.text ∙ ap (λ (l : List ℕ). l ++ store_text c.args.store.now) c.new-line.ensures.items in
    subst (λ (bytes : List ℕ). IfOk c.text_of.result (λ (line : List ℕ). line ≡ bytes)) same c.text_of.ensures
