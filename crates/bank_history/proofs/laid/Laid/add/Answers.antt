use Rattle.std.proofs.Common.{refl, sym, subst}
use Rattle.bank_history.specs.ObjectHistory.{LaidFor}
use Rattle.bank_history.proofs.laid.Laid.add.Goals as goal

pub returns-clause-holds : goal.returns-clause-holds
returns-clause-holds c entries holds =
    let all = subst (LaidFor entries) (sym c.self.view_is) holds in
    record { objects = c.add.ensures.holds entries all.objects; mails = c.put_mail.ensures entries c.args.entry all.mails refl c.requires.mail }
