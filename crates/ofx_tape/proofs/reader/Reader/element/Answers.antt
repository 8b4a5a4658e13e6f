use Rattle.std.proofs.Common.{refl, sym, ap, true, ◌∙◌, ◌+◌, length, not, ◌≡◌, arith}
use Rattle.std.proofs.lemmas.List.{length-map}
use Rattle.ofx_tape.specs.OpenAggregates.{is_at_tag}
use Rattle.ofx_tape.specs.NodeView.{node_view}
use Rattle.ofx_tape.proofs.ReaderLaws.{fault_of_value, element_goes_on, node_pushed, tag_shortens}
use Rattle.ofx_tape.proofs.reader.Reader.element.Goals as goal

pub returns-then-not-is_tag_next : goal.returns-then-not-is_tag_next
returns-then-not-is_tag_next c =
    let r = c.args.self.now in
    fault_of_value r c.args.rest.now c.args.name.now c.args.suffix.now c.offset.result c.requires.start (omega arith) c.requires.is_one
    (ap is_at_tag (sym c.split_value.ensures.rest) ∙ sym c.is_tag_next.ensures ∙ c.if-not-is_tag_next.true)
    c.requires.start.at.read.is_within
    (ap (λ l. c.offset.result + length l) (sym c.split_value.ensures.rest) ∙ c.offset.ensures)

pub returns : goal.returns
returns c =
    let r = c.args.self.now in
    let start = c.requires.start in
    let read = start.at.read in
    let at : is_at_tag c.split_value.result.1.now ≡ true = sym c.is_tag_next.ensures ∙ c.if-not-is_tag_next.false in
    let on = element_goes_on r c.args.rest.now c.args.name.now c.args.suffix.now c.split_value.result.0.now c.split_value.result.1.now start (omega arith) c.requires.is_one
    c.split_value.ensures.value c.split_value.ensures.rest at _ _ _ (omega (arith, read.is_within)) (omega (arith, c.len.ensures, length-map r.nodes.items node_view))
    (node_pushed _ _ _ _ c.push.ensures.items (c.is_err.ensures.negation ∙ ap not c.if-is_err.false)) in
    let shorter = tag_shortens c.args.name.now c.args.rest.now c.args.suffix.now c.split_value.result.1.now start.at.split on.1 in
    (refl, record { names = read.names; reading = on.0; is_deep = read.is_deep; is_within = omega (arith, shorter, read.is_within); is_at_tag = at }, shorter)
