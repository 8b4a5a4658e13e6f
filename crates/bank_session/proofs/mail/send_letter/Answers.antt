use Rattle.bank_session.specs.MailEnd.{MailEnds}
use Rattle.bank_session.proofs.OpeningLemmas.{mail_since, with_bank}
use Rattle.bank_session.proofs.mail.send_letter.Goals as goal

pub returns-clause-ends : goal.returns-clause-ends
returns-clause-ends g c =
    with_bank (MailEnds c.args.name.now c.args.subject.now) c.in_ok-desk.desk c.in_ok-setup.setup _ _ c.send_at.result
    (record { found = c.in_ok-setup.ensures.found; own = c.in_ok-desk.ensures.setup; within = c.in_ok-setup.ensures.within; holds = c.in_ok-desk.ensures.holds })
    c.send_at.ensures.settled c.send_at.ensures.unsettled
    (mail_since c.in_ok-desk.desk c.args.name.now c.args.subject.now _ _ (g.K.Keeper.records c.open_desk.new.keeper) (g.K.Keeper.faults c.open_desk.new.keeper) (g.K.Keeper.unsettled c.open_desk.new.keeper) c.send_at.result (record { list = c.in_ok-desk.ensures.list; later = c.in_ok-desk.ensures.later }) (c.send_at.ensures.ends _ _ _ _))
