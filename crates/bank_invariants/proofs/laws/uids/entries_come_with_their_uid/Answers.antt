use Rattle.bank_invariants.proofs.UidSteps.{adds_ask, adds_step, adds_run}
use Rattle.bank_invariants.proofs.laws.uids.entries_come_with_their_uid.Goals as goal

pub returns-clause-ask : goal.returns-clause-ask
returns-clause-ask c = adds_ask

pub returns-clause-event : goal.returns-clause-event
returns-clause-event c = adds_step

pub returns-clause-run : goal.returns-clause-run
returns-clause-run c = adds_run
