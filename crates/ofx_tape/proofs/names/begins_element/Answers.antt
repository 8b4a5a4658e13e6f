use Rattle.std.proofs.Common.{sym, ap, ◌∙◌, not}
use Rattle.ofx_tape.specs.OpenAggregates.{is_at_tag}
use Rattle.ofx_tape.proofs.NameKinds.{kind_without_visible, kind_with_visible}
use Rattle.ofx_tape.proofs.names.begins_element.Goals as goal

pub returns-then-is_tag_next : goal.returns-then-is_tag_next
returns-then-is_tag_next c =
    c.is_element_name.ensures
    ∙ kind_without_visible c.args.name.now c.args.suffix.now (ap is_at_tag (sym c.skip_white.ensures.trimmed) ∙ sym c.is_tag_next.ensures ∙ c.if-is_tag_next.true)

pub returns : goal.returns
returns c =
    ap not c.is_aggregate_name.ensures
    ∙ kind_with_visible c.args.name.now c.args.suffix.now (ap is_at_tag (sym c.skip_white.ensures.trimmed) ∙ sym c.is_tag_next.ensures ∙ c.if-is_tag_next.false)
