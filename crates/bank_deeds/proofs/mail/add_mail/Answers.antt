use Rattle.bank_ledger.specs.DraftView.{drafted}
use Rattle.bank_ledger.proofs.DraftStates.{added_as}
use Rattle.bank_deeds.proofs.MailAnswers.{mail_is, mail_written}
use Rattle.bank_deeds.proofs.mail.add_mail.Goals as goal

pub enter_mail-requires-clause-written : goal.enter_mail-requires-clause-written
enter_mail-requires-clause-written c = mail_written c.args.draft.now.setup c.user-user.result _ c.args.mail.now c.in_ok-row.row c.in_ok-row.ensures c.requires.deed.created

pub returns : goal.returns
returns c = record { added = added_as c.args.draft.now c.enter_mail.new.draft _ _ (mail_is c.args.draft.now.setup (drafted c.args.draft.now) c.args.draft.now.user c.user-user.result c.args.draft.now.at c.args.trnuid.now c.args.mail.now c.mail_object_of-object.result c.in_ok-uid.uid c.in_ok-row.row c.user-user.ensures c.mail_object_of-object.ensures c.in_ok-uid.ensures c.in_ok-row.ensures) c.in_ok-enter_mail.ensures.added }
