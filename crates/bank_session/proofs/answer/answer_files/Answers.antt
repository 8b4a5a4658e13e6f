use Rattle.std.proofs.Common.{refl}
use Rattle.bank_session.proofs.answer.answer_files.Goals as goal

pub returns-clause-run : goal.returns-clause-run
returns-clause-run g c at arguments = (c.answer_told.result, refl, c.answer_told.ensures.run at arguments)

pub returns-clause-mail : goal.returns-clause-mail
returns-clause-mail g c name subject arguments = (c.answer_told.result, refl, c.answer_told.ensures.mail name subject arguments)

pub returns-clause-due : goal.returns-clause-due
returns-clause-due g c arguments =
    let done = c.answer_told.ensures.due arguments in
    (done.0, (c.answer_told.result, refl, done.1))
