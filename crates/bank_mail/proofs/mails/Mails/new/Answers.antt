use Rattle.std.proofs.Common.{ap}
use Rattle.bank_model.specs.Objects.{history_of}
use Rattle.bank_mail.specs.MailsView.{rows_found, mails_of}
use Rattle.bank_mail.proofs.mails.Mails.new.Goals as goal

pub returns-clause-holds : goal.returns-clause-holds
unfolding mails_of history_of
returns-clause-holds c object = ap (rows_found object) c.new.ensures.items
