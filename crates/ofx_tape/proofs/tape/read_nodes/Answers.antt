use Rattle.std.proofs.Common.{sym, ◌∙◌}
use Rattle.ofx_tape.proofs.ReaderLaws.{fresh_is_read, fault_of_prefix}
use Rattle.ofx_tape.proofs.tape.read_nodes.Goals as goal

pub returns-then-not-is_tag_next : goal.returns-then-not-is_tag_next
returns-then-not-is_tag_next c =
    fault_of_prefix c.args.body.now c.skip_white-rest.result.now c.skip_white-rest.ensures.trimmed (sym c.is_tag_next.ensures ∙ c.if-not-is_tag_next.true)

pub loop-rest-init : goal.loop-rest-init
loop-rest-init c = record {
  read = fresh_is_read c.args.body.now c.in-Ok.reader c.skip_white-rest.result.now c.in-Ok.ensures c.skip_white-rest.ensures.trimmed (sym c.is_tag_next.ensures ∙ c.if-not-is_tag_next.false);
  of_body = c.in-Ok.ensures.is_of_body;
}
