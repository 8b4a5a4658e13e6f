use Rattle.std.proofs.Common.{arith}
use Rattle.ofx_ports.proofs.Writing.{written_more, rest_length}
use Rattle.ofx_ports.proofs.output.write_whole.Goals as goal

pub loop-done-preserved : goal.loop-done-preserved
loop-done-preserved g c = record {
  within = omega (arith, c.in_ok-done.ensures.count.1, rest_length c.loop-done.done c.args.bytes.now);
  written = written_more _ _ _ c.loop-done.done c.in_ok-done.field-0 c.args.bytes.now c.loop-done.invariant.written c.in_ok-done.ensures.bytes;
  faults = omega (arith, c.in_ok-done.ensures.faults.later, c.loop-done.invariant.faults);
}
