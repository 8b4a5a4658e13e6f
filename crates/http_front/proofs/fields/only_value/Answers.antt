use Rattle.std.proofs.Common.{sym, ◌∙◌}
use Rattle.http_front.proofs.FieldLemmas.{values_after}
use Rattle.http_front.proofs.fields.only_value.Goals as goal

pub returns-then-is_some : goal.returns-then-is_some
returns-then-is_some c =
    values_after _ _ (λ value. value.now) c.args.fields.now c.loop-field.field-index _ c.loop-field.found c.loop-field-test.true (sym c.is_some.ensures ∙ c.if-is_some.true) c.loop-field.invariant (sym c.is_named.ensures ∙ c.if-is_named.true)
