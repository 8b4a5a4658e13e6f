use Rattle.bank_session.specs.DueEnd.{DueEnds}
use Rattle.bank_session.proofs.OpeningLemmas.{due_since, with_bank}
use Rattle.bank_session.proofs.due.do_due_once.Goals as goal

pub returns-clause-ends : goal.returns-clause-ends
returns-clause-ends g c left faults =
    with_bank DueEnds c.in_ok-desk.desk c.in_ok-setup.setup _ _ c.write_due.result
    (record { found = c.in_ok-setup.ensures.found; own = c.in_ok-desk.ensures.setup; within = c.in_ok-setup.ensures.within; holds = c.in_ok-desk.ensures.holds })
    c.write_due.ensures.settled c.write_due.ensures.unsettled
    (due_since c.in_ok-desk.desk.setup c.in_ok-desk.desk.state _ _ (g.K.Keeper.records c.open_desk.new.keeper) (g.K.Keeper.faults c.open_desk.new.keeper) (g.K.Keeper.unsettled c.open_desk.new.keeper) c.write_due.result (record { list = c.in_ok-desk.ensures.list; later = c.in_ok-desk.ensures.later }) (c.write_due.ensures.ends _ _ _ _ _ _))
