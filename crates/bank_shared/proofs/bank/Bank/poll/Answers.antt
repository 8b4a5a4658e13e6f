use Rattle.std.proofs.Common.{◌∙◌, ap}
use Rattle.bank_callers.specs.Polled.{answers_reported}
use Rattle.bank_shared.specs.Holds.{caller_of}
use Rattle.bank_shared.proofs.Asked.{looked_if, loaded_if}
use Rattle.bank_shared.proofs.bank.Bank.poll.Goals as goal

pub poll_reply-requires-clause-reported : goal.poll_reply-requires-clause-reported
poll_reply-requires-clause-reported g c =
    let asked = c.in_ok-replies.ensures.answers in (asked.loads, asked.answers ∙ ap (λ l. answers_reported l asked.loads) c.items.ensures)

pub returns-clause-answered : goal.returns-clause-answered
returns-clause-answered g c =
    let asked = c.in_ok-replies.ensures.answers in
    looked_if (λ reply. reply.items) c.poll_reply.result g.N.BankName.setup c.args.user c.args.file.now c.args.at c.items.result.now c.in_ok-replies.replies (caller_of g.N.BankName.opening c.args.pass.now)
    (caller_of g.N.BankName.opening c.poll_answers.new.pass) c.items.ensures asked
    (c.poll_reply.ensures asked.loads (asked.answers ∙ ap (λ l. answers_reported l asked.loads) c.items.ensures))

pub returns-clause-refused : goal.returns-clause-refused
returns-clause-refused g c =
    loaded_if c.poll_reply.result g.N.BankName.setup c.args.user c.items.result.now c.in_ok-replies.replies (caller_of g.N.BankName.opening c.args.pass.now)
    (caller_of g.N.BankName.opening c.poll_answers.new.pass) c.in_ok-replies.ensures.answers
