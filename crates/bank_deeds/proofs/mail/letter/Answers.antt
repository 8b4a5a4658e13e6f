use Rattle.bank_ledger.specs.DraftView.{drafted}
use Rattle.bank_ledger.proofs.DraftStates.{added_as}
use Rattle.bank_deeds.proofs.MailAnswers.{letter_is, letter_written}
use Rattle.bank_deeds.proofs.mail.letter.Goals as goal

pub enter_mail-requires-clause-written : goal.enter_mail-requires-clause-written
enter_mail-requires-clause-written c = letter_written c.args.draft.now.setup c.args.user c.args.draft.now.at c.args.subject.now c.args.body.now c.in_ok-row.row c.in_ok-row.ensures.row c.in_ok-row.ensures.moment

pub returns : goal.returns
returns c =
    added_as c.args.draft.now c.enter_mail.new.draft _ _ (letter_is c.args.draft.now.setup (drafted c.args.draft.now) c.args.user c.args.draft.now.at c.args.subject.now c.args.body.now c.mail_object_of-object.result c.in_ok-uid.uid c.in_ok-row.row c.mail_object_of-object.ensures c.in_ok-uid.ensures c.in_ok-row.ensures.row) c.in_ok-enter_mail.ensures.added
