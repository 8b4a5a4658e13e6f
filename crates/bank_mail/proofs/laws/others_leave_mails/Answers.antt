use Rattle.bank_mail.proofs.MailLemmas.{holds_still}
use Rattle.bank_mail.proofs.laws.others_leave_mails.Goals as goal

pub returns : goal.returns
returns c = holds_still
