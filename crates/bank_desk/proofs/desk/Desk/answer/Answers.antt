use Rattle.std.proofs.lemmas.Result.{err_from_is_err_and}
use Rattle.bank_desk.proofs.FileAnswers.{file_answered, file_unkept, file_polled, file_denied}
use Rattle.bank_desk.proofs.desk.Desk.answer.Goals as goal

pub returns-in_ok-denied-in-Denied-clause-answered : goal.returns-in_ok-denied-in-Denied-clause-answered
returns-in_ok-denied-in-Denied-clause-answered g c =
    let is = rw (c.in-Denied.is, c.setup.ensures.setup) at c.in_ok-offset.ensures in
    file_denied (g.E.Envelope.sent c.args.envelope) c.args.self.now.setup c.args.at c.args.self.now.state c.args.bytes.now c.in-Denied.file _ _ is c.in_ok-denied-in-Denied.ensures

pub returns-in_ok-polled-in-Poll-clause-answered : goal.returns-in_ok-polled-in-Poll-clause-answered
returns-in_ok-polled-in-Poll-clause-answered g c =
    let is = rw (c.in-Poll.is, c.setup.ensures.setup) at c.in_ok-offset.ensures in
    file_polled (g.E.Envelope.sent c.args.envelope) c.args.self.now.setup c.args.at c.args.self.now.state c.args.bytes.now c.in-Poll.user c.in-Poll.file _ _ is.0.signed_on is.1 c.in_ok-polled-in-Poll.ensures

pub returns-in_ok-commit-in-Event-clause-answered : goal.returns-in_ok-commit-in-Event-clause-answered
returns-in_ok-commit-in-Event-clause-answered g c =
    let is = rw (c.in-Event.is, c.setup.ensures.setup) at c.in_ok-offset.ensures in
    file_answered (g.E.Envelope.sent c.args.envelope) c.args.self.now.setup c.args.at c.args.self.now.state c.commit.new.self.state c.args.bytes.now _ c.in-Event.user c.in-Event.file _ _ is.0.signed_on is.1 c.in_ok-commit-in-Event.ensures.state c.in_ok-commit-in-Event.ensures.reply c.in_ok-commit-in-Event.ensures.kept

pub returns-in_err-commit-in-Event-clause-unkept : goal.returns-in_err-commit-in-Event-clause-unkept
returns-in_err-commit-in-Event-clause-unkept g c =
    let is = rw (c.in-Event.is, c.setup.ensures.setup) at c.in_ok-offset.ensures in
    let p = err_from_is_err_and c.from_residual-in_err-commit-in-Event.result c.from_residual-in_err-commit-in-Event.ensures.1 in
    rw (p.1, p.2) (file_unkept c.args.self.now.setup c.args.at c.args.bytes.now c.in-Event.user c.in-Event.file _ _ _ _ is.0.signed_on is.1 c.in_err-commit-in-Event.ensures.kept)
