use Rattle.bank_model.specs.Rules.{opening_state}
use Rattle.bank_session.specs.Answers.{records_in}
use Rattle.bank_session.proofs.TurnEvents.{turns_reopen}
use Rattle.bank_session.proofs.laws.runs_reopen.Goals as goal

pub returns : goal.returns
returns c = λ setup records start state turns before are.
    (c.reopening_goes_on.ensures setup opening_state records (records_in turns) state).1 (start, before, turns_reopen c.due_work_is_legal.ensures setup start turns state are)
