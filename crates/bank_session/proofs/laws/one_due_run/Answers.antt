use Rattle.bank_session.proofs.laws.one_due_run.Goals as goal

pub returns : goal.returns
returns c = c.due_work_is_one.ensures
