use Rattle.std.proofs.Common.{refl, sym, ap, true, ◌∙◌, ◌+◌, length, ◌≡◌, arith}
use Rattle.ofx_tape.specs.OpenAggregates.{is_at_tag}
use Rattle.ofx_tape.proofs.ReaderLaws.{fault_after_end, reads_end_on, end_tag_shortens}
use Rattle.ofx_tape.proofs.reader.Reader.end.Goals as goal

pub returns-then-not-is_tag_next : goal.returns-then-not-is_tag_next
returns-then-not-is_tag_next c =
    fault_after_end c.args.self.now c.args.rest.now c.args.name.now c.args.suffix.now c.offset.result c.requires
    (sym c.is_end_of_element.ensures ∙ c.if-not-is_end_of_element.false)
    (ap is_at_tag (sym c.skip_white-next.ensures.trimmed) ∙ sym c.is_tag_next.ensures ∙ c.if-not-is_tag_next.true)
    (ap (λ l. c.offset.result + length l) (sym c.skip_white-next.ensures.trimmed) ∙ c.offset.ensures)

pub returns : goal.returns
returns c =
    let read = c.requires.read in
    let at : is_at_tag c.skip_white-next.result.now ≡ true = sym c.is_tag_next.ensures ∙ c.if-not-is_tag_next.false in
    let on = reads_end_on c.args.self.now c.args.rest.now c.args.name.now c.args.suffix.now c.skip_white-next.result.now c.requires
    (sym c.is_end_of_element.ensures ∙ c.if-not-is_end_of_element.false) c.skip_white-next.ensures.trimmed at in
    let shorter = end_tag_shortens c.args.name.now c.args.rest.now c.args.suffix.now c.skip_white-next.result.now c.requires.split c.skip_white-next.ensures.shorter in
    (refl, record { names = read.names; reading = on; is_deep = read.is_deep; is_within = omega (arith, shorter, read.is_within); is_at_tag = at }, shorter)
