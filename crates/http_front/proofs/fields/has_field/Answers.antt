use Rattle.std.proofs.Common.{sym, ◌∙◌}
use Rattle.http_front.proofs.FieldLemmas.{any_at}
use Rattle.http_front.proofs.fields.has_field.Goals as goal

pub returns-then-is_named : goal.returns-then-is_named
returns-then-is_named c = any_at _ _ c.args.fields.now c.loop-field.field-index _ c.loop-field-test.true (sym c.is_named.ensures ∙ c.if-is_named.true)
