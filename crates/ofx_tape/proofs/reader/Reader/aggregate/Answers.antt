use Rattle.std.proofs.Common.{refl, sym, ap, true, ◌∙◌, ◌+◌, ◌<◌, length, not, ◌≡◌, ◌∷◌, arith}
use Rattle.std.proofs.lemmas.List.{length-map}
use Rattle.ofx_tape.specs.OpenAggregates.{is_at_tag}
use Rattle.ofx_tape.specs.NodeView.{node_view}
use Rattle.ofx_tape.proofs.ReaderLaws.{fault_of_depth, fault_of_text, aggregate_goes_on, node_pushed, tag_shortens}
use Rattle.ofx_tape.proofs.reader.Reader.aggregate.Goals as goal

pub returns-then-self-eq16 : goal.returns-then-self-eq16
returns-then-self-eq16 c =
    fault_of_depth c.args.self.now c.args.rest.now c.args.name.now c.args.suffix.now c.offset.result c.requires.start (omega arith) c.requires.is_none
    c.if-self-eq16.true c.offset.ensures

pub returns-then-not-is_tag_next : goal.returns-then-not-is_tag_next
returns-then-not-is_tag_next c =
    let r = c.args.self.now in
    let offset = c.offset-then-not-is_tag_next in
    fault_of_text r c.args.rest.now c.args.name.now c.args.suffix.now offset.result c.requires.start (omega arith) c.requires.is_none
    (omega (arith, c.if-self-eq16.false, c.requires.start.at.read.is_deep))
    (ap is_at_tag (sym c.skip_white-next.ensures.trimmed) ∙ sym c.is_tag_next.ensures ∙ c.if-not-is_tag_next.true)
    c.requires.start.at.read.is_within
    (ap (λ l. offset.result + length l) (sym c.skip_white-next.ensures.trimmed) ∙ offset.ensures)

pub returns : goal.returns
returns c =
    let r = c.args.self.now in
    let start = c.requires.start in
    let read = start.at.read in
    let room : r.depth < 16 = omega (arith, c.if-self-eq16.false, read.is_deep) in
    let at : is_at_tag c.skip_white-next.result.now ≡ true = sym c.is_tag_next.ensures ∙ c.if-not-is_tag_next.false in
    let on = aggregate_goes_on r c.args.rest.now c.args.name.now c.args.suffix.now c.split_at.result.0.now c.skip_white-next.result.now start (omega arith) c.requires.is_none
    room c.skip_white-next.ensures.trimmed c.split_at.ensures.front at _ _ c.len-index.result (omega (arith, read.is_within))
    (omega (arith, c.len-index.ensures, length-map r.nodes.items node_view))
    (node_pushed _ _ _ _ c.push.ensures.items (c.is_err.ensures.negation ∙ ap not c.if-is_err.false)) in
    let shorter = tag_shortens c.args.name.now c.args.rest.now c.args.suffix.now c.skip_white-next.result.now start.at.split c.skip_white-next.ensures.shorter in
    (refl, record { names = c.args.name.now ∷ read.names; reading = on; is_deep = omega arith; is_within = omega (arith, shorter, read.is_within); is_at_tag = at }, shorter)
