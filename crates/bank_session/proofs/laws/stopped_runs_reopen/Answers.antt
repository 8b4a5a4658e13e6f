use Rattle.bank_session.proofs.TurnEvents.{stopped_reopens, refused_in_vain, frame_reopens, goes_on_after}
use Rattle.bank_session.proofs.laws.stopped_runs_reopen.Goals as goal

pub returns-clause-unkept : goal.returns-clause-unkept
returns-clause-unkept c = stopped_reopens c.due_work_is_legal.ensures c.reopening_goes_on.ensures

pub returns-clause-refused : goal.returns-clause-refused
returns-clause-refused c = λ setup records kept start state turns at content before are refused.
    stopped_reopens c.due_work_is_legal.ensures c.reopening_goes_on.ensures setup records kept start state turns at content before are (refused_in_vain setup at state content kept refused)

pub returns-clause-unwritten : goal.returns-clause-unwritten
returns-clause-unwritten c = λ setup records kept start state next turns at content line before are says.
    goes_on_after c.due_work_is_legal.ensures c.reopening_goes_on.ensures setup records kept start state next turns before are (frame_reopens c.due_work_is_legal.ensures setup at state next content line kept says)
