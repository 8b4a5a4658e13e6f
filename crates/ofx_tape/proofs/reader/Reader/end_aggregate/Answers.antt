use Rattle.std.proofs.Common.{refl, sym, ap, map, true, ◌∙◌, ◌+◌, length, ◌≡◌, arith}
use Rattle.std.proofs.lemmas.Bool.{not-false}
use Rattle.std.proofs.lemmas.List.{length-map}
use Rattle.std.specs.Str.{bytes_eq}
use Rattle.ofx_tape.specs.OpenAggregates.{is_at_tag}
use Rattle.ofx_tape.specs.NodeView.{node_view}
use Rattle.ofx_tape.proofs.TextEnds.{not_true_is}
use Rattle.ofx_tape.proofs.ReaderLaws.{innermost_inside, fault_of_other, fault_after_close, close_goes_on, fault_of_no_open, same_read, end_tag_shortens, items_inside, innermost_index}
use Rattle.ofx_tape.proofs.reader.Reader.end_aggregate.Goals as goal

pub returns-then-self-eq0 : goal.returns-then-self-eq0
returns-then-self-eq0 c =
    fault_of_no_open c.args.self.now c.args.rest.now c.args.name.now c.args.suffix.now c.fault_of_end.result c.requires.at (omega arith) c.if-self-eq0.true
    c.requires.is_other c.fault_of_end.ensures

pub index-requires : goal.index-requires
index-requires c =
    let r = c.args.self.now in
    omega (arith, innermost_inside r c.args.rest.now c.requires.at.read (omega arith) c.if-self-eq0.false, length-map r.nodes.items node_view)

pub returns-then-ne : goal.returns-then-ne
returns-then-ne c =
    fault_of_other c.args.self.now c.args.rest.now c.args.name.now c.args.suffix.now c.offset.result c.index.result.now c.requires.at (omega arith) c.if-self-eq0.false
    c.requires.is_other c.index.ensures
    (not_true_is (bytes_eq c.index.result.now.name.now c.args.name.now) (sym c.ne.ensures ∙ c.if-ne.true)) c.offset.ensures

pub returns-then-not-is_tag_next : goal.returns-then-not-is_tag_next
returns-then-not-is_tag_next c =
    let offset = c.offset-then-not-is_tag_next in
    fault_after_close c.args.self.now c.args.rest.now c.args.name.now c.args.suffix.now offset.result c.index.result.now c.requires.at (omega arith) c.if-self-eq0.false
    c.requires.is_other c.index.ensures
    (not-false (bytes_eq c.index.result.now.name.now c.args.name.now) (sym c.ne.ensures ∙ c.if-ne.false))
    (ap is_at_tag (sym c.skip_white-next.ensures.trimmed) ∙ sym c.is_tag_next.ensures ∙ c.if-not-is_tag_next.true)
    (ap (λ l. offset.result + length l) (sym c.skip_white-next.ensures.trimmed) ∙ offset.ensures)

pub index_mut-requires : goal.index_mut-requires
index_mut-requires c =
    let r = c.args.self.now in
    omega (arith, innermost_inside r c.args.rest.now c.requires.at.read (omega arith) c.if-self-eq0.false, length-map r.nodes.items node_view)

pub returns : goal.returns
returns c =
    let r = c.args.self.now in
    let read = c.requires.at.read in
    let inside = items_inside r (innermost_index r) (innermost_inside r c.args.rest.now read (omega arith) c.if-self-eq0.false) in
    let same = same_read r.nodes.items (innermost_index r) c.index_mut.result.now c.index.result.now inside c.index_mut.ensures.value c.index.ensures in
    let named = not-false (bytes_eq c.index.result.now.name.now c.args.name.now) (sym c.ne.ensures ∙ c.if-ne.false) in
    let at : is_at_tag c.skip_white-next.result.now ≡ true = sym c.is_tag_next.ensures ∙ c.if-not-is_tag_next.false in
    let count : c.len-after.result ≡ length (map node_view r.nodes.items) = omega (arith, c.len-after.ensures, length-map r.nodes.items node_view) in
    let (names, on) = close_goes_on r c.args.rest.now c.args.name.now c.args.suffix.now c.skip_white-next.result.now c.index_mut.result.now _ c.requires.at (omega arith)
    c.if-self-eq0.false c.requires.is_other c.index_mut.ensures.value (ap (λ n. bytes_eq n.name.now c.args.name.now) same ∙ named)
    c.skip_white-next.ensures.trimmed at (ap (λ n. record (node_view c.index_mut.result.now) { after = n }) count) in
    let shorter = end_tag_shortens c.args.name.now c.args.rest.now c.args.suffix.now c.skip_white-next.result.now c.requires.at.split c.skip_white-next.ensures.shorter in
    (refl, record { names = names; reading = on; is_deep = omega (arith, read.is_deep); is_within = omega (arith, shorter, read.is_within); is_at_tag = at }, shorter)
