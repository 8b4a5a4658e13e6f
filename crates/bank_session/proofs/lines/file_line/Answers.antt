use Rattle.std.proofs.lemmas.Result.{err_from_is_err_and}
use Rattle.bank_session.proofs.Answered.{file_sent, file_refused, file_prefix, refused_alike}
use Rattle.bank_session.proofs.lines.file_line.Goals as goal

pub returns-in-Sent-clause-line : goal.returns-in-Sent-clause-line
returns-in-Sent-clause-line g c =
    file_sent c.args.desk.now.setup c.args.at c.args.desk.now.state c.answer.new.self.state c.args.bytes.now _ _ _ (rw c.in-Sent.is at c.in_ok-line.ensures.answered)

pub returns-in_ok-bad_file_line-in-Bad-clause-line : goal.returns-in_ok-bad_file_line-in-Bad-clause-line
returns-in_ok-bad_file_line-in-Bad-clause-line g c =
    file_refused c.args.desk.now.setup c.args.at c.args.desk.now.state c.answer.new.self.state c.args.bytes.now _ c.in-Bad.offset _ _ (rw c.in-Bad.is at c.in_ok-line.ensures.answered) c.in_ok-bad_file_line-in-Bad.ensures

pub returns-in_err-line-clause-unkept : goal.returns-in_err-line-clause-unkept
returns-in_err-line-clause-unkept g c =
    let p = err_from_is_err_and c.from_residual.result c.from_residual.ensures.1 in
    rw (p.1, p.2) (λ is. file_prefix c.args.desk.now.setup c.args.at c.args.desk.now.state c.args.bytes.now _ _ _ (c.in_err-line.ensures.unkept (refused_alike _ _ _ _ is)))
