use Rattle.std.proofs.Common.{ℕ, ◌+◌, ap}
use Rattle.bank_ledger.specs.DraftView.{drafted}
use Rattle.bank_ledger.proofs.DraftStates.{added_as}
use Rattle.bank_deeds.proofs.MailAnswers.{mail_entered, entered_is}
use Rattle.bank_deeds.proofs.mail.enter_mail.Goals as goal

pub enter-requires-clause-next : goal.enter-requires-clause-next
enter-requires-clause-next c =
    mail_entered c.args.draft.now.setup (drafted c.args.draft.now) (c.count-number.result + 1) c.args.object c.args.trnuid c.args.row c.count-number.ensures.sound c.requires.written (ap (λ (n : ℕ). n + 1) c.count-number.ensures.count)

pub enter-requires-clause-gives : goal.enter-requires-clause-gives
enter-requires-clause-gives c = c.requires.written

pub returns : goal.returns
returns c = record { added = added_as c.args.draft.now c.enter.new.self _ _ (entered_is (drafted c.args.draft.now) (c.count-number.result + 1) c.args.object c.args.trnuid c.args.row (ap (λ (n : ℕ). n + 1) c.count-number.ensures.count)) c.in_ok-enter.ensures }
