use Rattle.std.proofs.Common.{refl}
use Rattle.client_run.proofs.Exchanged.{request_is}
use Rattle.client_run.proofs.calling.send.Goals as goal

pub returns-in-Ok-clause-sends : goal.returns-in-Ok-clause-sends
returns-in-Ok-clause-sends g c =
    rw (request_is c.args.pass.now c.args.file.now c.args.at)
    (rw (c.deref.ensures.value, c.in_ok-text.ensures) at c.in-Ok.ensures.whole, c.in-Ok.ensures.faults.later)

pub returns-clause-sends : goal.returns-clause-sends
returns-clause-sends g c =
    rw (request_is c.args.pass.now c.args.file.now c.args.at)
    (rw (c.deref.ensures.value, c.in_ok-text.ensures) at c.in-Err.ensures.part, c.in-Err.ensures.faults.cause refl)
