use Rattle.std.proofs.Common.{sym, ◌∙◌}
use Rattle.http_front.specs.Fields.{says_close}
use Rattle.http_front.proofs.FieldLemmas.{any_at}
use Rattle.http_front.proofs.fields.says_close.Goals as goal

pub returns-then-is_close : goal.returns-then-is_close
unfolding says_close
returns-then-is_close c = any_at _ _ c.args.fields.now c.loop-field.field-index _ c.loop-field-test.true (sym c.is_close.ensures ∙ c.if-is_close.true)
