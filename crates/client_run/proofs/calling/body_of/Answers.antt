use Rattle.client_run.proofs.Received.{body_faulty}
use Rattle.client_run.proofs.calling.body_of.Goals as goal

pub returns-in-Err : goal.returns-in-Err
returns-in-Err c =
    rw c.body_stop.ensures (body_faulty c.args.bytes.now c.args.answer c.in-Err.fault c.requires c.if-answer-ne-OK.false c.in-Err.ensures.reply)
