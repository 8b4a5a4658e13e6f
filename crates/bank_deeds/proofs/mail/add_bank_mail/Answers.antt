use Rattle.bank_ledger.specs.DraftView.{drafted}
use Rattle.bank_deeds.proofs.DeedAnswers.{bank_mail_there}
use Rattle.bank_ledger.proofs.DraftStates.{added_as}
use Rattle.bank_deeds.proofs.MailAnswers.{bank_mail_is, mail_written}
use Rattle.bank_deeds.proofs.mail.add_bank_mail.Goals as goal

pub mail_about_object_of-object-requires : goal.mail_about_object_of-object-requires
mail_about_object_of-object-requires c = bank_mail_there c.args.draft.now.setup (drafted c.args.draft.now) c.args.draft.now.user c.requires.judged.0 c.args.about.now c.args.mail.now c.requires.judged.1

pub enter_mail-requires-clause-written : goal.enter_mail-requires-clause-written
enter_mail-requires-clause-written c = mail_written c.args.draft.now.setup c.user.result _ c.args.mail.now c.in_ok-row.row c.in_ok-row.ensures c.requires.deed.1.created

pub returns : goal.returns
returns c = record { added = added_as c.args.draft.now c.enter_mail.new.draft _ _ (bank_mail_is c.args.draft.now.setup (drafted c.args.draft.now) c.args.draft.now.user c.user.result c.args.draft.now.at c.args.trnuid.now c.args.about.now c.in_ok-account.account c.args.mail.now c.mail_about_object_of-object.result c.in_ok-uid.uid c.in_ok-row.row c.user.ensures c.mail_about_object_of-object.ensures c.in_ok-uid.ensures c.in_ok-account.ensures c.in_ok-row.ensures) c.in_ok-enter_mail.ensures.added }
