use Rattle.std.proofs.Common.{sym, subst}
use Rattle.bank_history.specs.ObjectHistory.{LaidFor}
use Rattle.bank_history.proofs.laid.Laid.reserve.Goals as goal

pub returns-in_err-reserve_mail-clause-holds : goal.returns-in_err-reserve_mail-clause-holds
returns-in_err-reserve_mail-clause-holds c entries holds =
    let all = subst (LaidFor entries) (sym c.self.view_is) holds in
    record { objects = all.objects; mails = c.reserve_mail.ensures.holds entries all.mails }

pub returns-clause-holds : goal.returns-clause-holds
returns-clause-holds c entries holds =
    let all = subst (LaidFor entries) (sym c.self.view_is) holds in
    record { objects = c.reserve.ensures.holds entries all.objects; mails = c.reserve_mail.ensures.holds entries all.mails }
