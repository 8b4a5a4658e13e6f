use Rattle.std.proofs.Common.{ap, ◌++◌, ◌∙◌, sym}
use Rattle.std.proofs.lemmas.Result.{on_ok_weaker}
use Rattle.ofx_file.proofs.Texts.{answer_set_written, no_answer_set}
use Rattle.ofx_file.proofs.reply.writing.answer_set_of_some.Goals as goal

pub returns-then-has_any : goal.returns-then-has_any
returns-then-has_any c =
    on_ok_weaker c.answer_set.result (λ e. e ∙ ap (λ x. c.args.sheet.now ++ x) (sym (answer_set_written _ _ (sym c.has_any.ensures ∙ c.if-has_any.true)))) c.answer_set.ensures

pub returns : goal.returns
returns c = no_answer_set _ _ _ (sym c.has_any.ensures ∙ c.if-has_any.false)
