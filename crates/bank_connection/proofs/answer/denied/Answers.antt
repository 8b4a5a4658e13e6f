use Rattle.std.proofs.Common.{Some, refl}
use Rattle.bank_connection.proofs.Answered.{denied_is, no_memory_is}
use Rattle.bank_connection.proofs.answer.denied.Goals as goal

pub returns-in-Ok : goal.returns-in-Ok
returns-in-Ok g c setup body known is = denied_is setup body c.args.file c.now-at.result _ _ known _ is c.now-at.ensures.shown (refl, c.in-Ok.ensures, refl)

pub returns-in-Err : goal.returns-in-Err
returns-in-Err g c setup body known is = no_memory_is setup body (Some c.now-at.result) _ _ known (c.args.file, is.spelled) c.now-at.ensures.shown
