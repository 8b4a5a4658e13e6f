use Rattle.std.proofs.Common.{refl}
use Rattle.bank_connection.proofs.Answered.{looked_is, look_refused}
use Rattle.bank_connection.proofs.answer.look.Goals as goal

pub returns-in-Ok-clause-answers : goal.returns-in-Ok-clause-answers
returns-in-Ok-clause-answers g c body signed =
    looked_is _ body c.args.user c.args.file.now c.now-at.result c.in-Ok.reply.items _ _ _ _ _ signed c.requires.poll c.in-Ok.ensures.answered c.now-at.ensures.shown (refl, refl, refl)

pub returns-in-Err-clause-answers : goal.returns-in-Err-clause-answers
returns-in-Err-clause-answers g c body signed =
    look_refused _ body c.args.user c.args.file.now c.now-at.result _ _ _ _ signed c.in-Err.ensures.refused c.now-at.ensures.shown
