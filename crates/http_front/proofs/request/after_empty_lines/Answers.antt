use Rattle.http_front.proofs.TargetLemmas.{line_more}
use Rattle.http_front.proofs.request.after_empty_lines.Goals as goal

pub loop-tail-preserved : goal.loop-tail-preserved
loop-tail-preserved c = line_more c.args.buf.now c.loop-tail.rest.now _ c.loop-tail.invariant c.in-Some.ensures.split.0 c.in-Some.ensures.split.1
