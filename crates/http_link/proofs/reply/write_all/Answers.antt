use Rattle.std.proofs.Common.{◌∙◌, arith}
use Rattle.std.proofs.KnownBytes.{Keeps-trans}
use Rattle.ofx_ports.proofs.Writing.{rest_length, written_more}
use Rattle.http_link.proofs.reply.write_all.Goals as goal

pub loop-done-preserved : goal.loop-done-preserved
loop-done-preserved g c = record {
  within = omega (arith, c.in_ok-done.ensures.count.1, rest_length c.loop-done.done c.args.bytes.now);
  written = written_more _ _ _ c.loop-done.done c.in_ok-done.field-0 c.args.bytes.now c.loop-done.invariant.written c.in_ok-done.ensures.bytes;
  faults = omega (arith, c.in_ok-done.ensures.faults.later, c.loop-done.invariant.faults);
  unread = Keeps-trans _ _ _ c.loop-done.invariant.unread c.in_ok-done.ensures.unread;
  reads = c.in_ok-done.ensures.reads ∙ c.loop-done.invariant.reads;
}
