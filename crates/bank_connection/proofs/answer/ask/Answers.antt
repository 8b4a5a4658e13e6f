use Rattle.std.proofs.Common.{refl}
use Rattle.bank_connection.proofs.Answered.{committed_is, faulted_is, ask_refused}
use Rattle.bank_connection.proofs.answer.ask.Goals as goal

pub returns-in-Ok-clause-answers : goal.returns-in-Ok-clause-answers
returns-in-Ok-clause-answers g c body signed =
    committed_is _ body c.args.user c.args.file.now c.now-at.result c.in-Ok.reply.items _ _ _ _ _ signed c.requires.event c.in-Ok.ensures.answered c.now-at.ensures.shown (refl, refl, refl)

pub returns-in-Err-Keeper-clause-answers : goal.returns-in-Err-Keeper-clause-answers
returns-in-Err-Keeper-clause-answers g c body signed =
    faulted_is _ body c.args.user c.args.file.now c.now-at.result _ _ _ _ _ _ signed c.requires.event (rw c.in-Err-Keeper.field-0-is at c.in-Err-Keeper.ensures.refused) c.now-at.ensures.shown (refl, refl, refl)

pub returns-in-Err-OutOfMemory-clause-answers : goal.returns-in-Err-OutOfMemory-clause-answers
returns-in-Err-OutOfMemory-clause-answers g c body signed =
    ask_refused _ body c.args.user c.args.file.now c.now-at.result _ _ _ _ signed (rw c.in-Err-OutOfMemory.field-0-is at c.in-Err-OutOfMemory.ensures.refused) c.now-at.ensures.shown
