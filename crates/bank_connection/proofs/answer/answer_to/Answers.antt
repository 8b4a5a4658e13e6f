use Rattle.std.proofs.Common.{None}
use Rattle.ofx_ports.proofs.KnownLaws.{Grows-nil}
use Rattle.bank_connection.proofs.Answered.{no_memory_is}
use Rattle.bank_connection.proofs.answer.answer_to.Goals as goal

pub returns-in-Err-clause-answers : goal.returns-in-Err-clause-answers
returns-in-Err-clause-answers g c = no_memory_is _ c.args.body.now None _ _ _ tt (Grows-nil _)

pub returns-in-Ok-Refused-clause-answers : goal.returns-in-Ok-Refused-clause-answers
returns-in-Ok-Refused-clause-answers g c = c.misspelled.ensures _ c.args.body.now _ _ (rw c.in-Ok-Refused.field-0-is at c.in-Ok-Refused.ensures)

pub returns-in-Ok-Denied-clause-answers : goal.returns-in-Ok-Denied-clause-answers
returns-in-Ok-Denied-clause-answers g c = c.denied.ensures _ c.args.body.now _ (rw (c.in-Ok-Denied.field-0-is, c.setup.ensures.setup) at c.in-Ok-Denied.ensures)

pub returns-in-Ok-Poll-clause-answers : goal.returns-in-Ok-Poll-clause-answers
returns-in-Ok-Poll-clause-answers g c =
    let judged = rw (c.in-Ok-Poll.field-0-is, c.setup.ensures.setup) at c.in-Ok-Poll.ensures in
    c.look.ensures.answers c.args.body.now judged.0.signed_on

pub returns-in-Ok-Event-clause-answers : goal.returns-in-Ok-Event-clause-answers
returns-in-Ok-Event-clause-answers g c =
    let judged = rw (c.in-Ok-Event.field-0-is, c.setup.ensures.setup) at c.in-Ok-Event.ensures in
    c.ask.ensures.answers c.args.body.now judged.0.signed_on
