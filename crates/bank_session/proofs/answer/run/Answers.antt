use Rattle.bank_session.specs.RunEnd.{RunEnds}
use Rattle.bank_session.proofs.OpeningLemmas.{run_since, with_bank}
use Rattle.bank_session.proofs.answer.run.Goals as goal

pub returns-clause-ends : goal.returns-clause-ends
returns-clause-ends g c =
    with_bank (RunEnds c.args.at) c.in_ok-desk.desk c.in_ok-setup.setup _ _ c.answer_frames.result
    (record { found = c.in_ok-setup.ensures.found; own = c.in_ok-desk.ensures.setup; within = c.in_ok-setup.ensures.within; holds = c.in_ok-desk.ensures.holds })
    c.answer_frames.ensures.settled c.answer_frames.ensures.unsettled
    (run_since c.in_ok-desk.desk.setup c.in_ok-desk.desk.state c.args.at _ _ (g.K.Keeper.records c.open_desk.new.keeper) (g.K.Keeper.faults c.open_desk.new.keeper) (g.K.Keeper.unsettled c.open_desk.new.keeper) c.answer_frames.result (record { list = c.in_ok-desk.ensures.list; later = c.in_ok-desk.ensures.later }) (c.answer_frames.ensures.ends _ _ _ _))
