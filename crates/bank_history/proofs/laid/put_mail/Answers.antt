use Rattle.std.proofs.Common.{sym, ap, ◌∙◌}
use Rattle.std.specs.Option.{option_to_list}
use Rattle.bank_mail.proofs.MailLemmas.{holds_still}
use Rattle.bank_history.proofs.ObjectHistoryLemmas.{is_mail}
use Rattle.bank_history.proofs.laid.put_mail.Goals as goal

pub returns-in-Some : goal.returns-in-Some
returns-in-Some c entries entry holds object brings =
    c.put.ensures.holds entries entry holds object (is_mail entry.change c.in-Some.row (ap option_to_list (sym c.in-Some.is) ∙ brings))

pub returns-in-None : goal.returns-in-None
returns-in-None c entries entry holds object brings =
    holds_still c.args.mails.now entries entry holds (sym brings ∙ ap option_to_list c.in-None.is)
