use Rattle.bank_invariants.proofs.OpeningLemmas.{IsSoundState-opening}
use Rattle.bank_invariants.proofs.StateLemmas.{stage_extends, extends_to, extends-ask, extends-asks, extends-step}
use Rattle.bank_invariants.proofs.RunLaws.{extends-run}
use Rattle.bank_invariants.proofs.laws.states.every_state_is_sound.Goals as goal

pub returns-clause-opening : goal.returns-clause-opening
returns-clause-opening c = IsSoundState-opening

pub returns-clause-stage : goal.returns-clause-stage
returns-clause-stage c = λ setup S stage within sound may known. stage_extends setup S stage within may known sound

pub returns-clause-through : goal.returns-clause-through
returns-clause-through c = extends_to

pub returns-clause-ask : goal.returns-clause-ask
returns-clause-ask c = extends-ask

pub returns-clause-asks : goal.returns-clause-asks
returns-clause-asks c = extends-asks

pub returns-clause-event : goal.returns-clause-event
returns-clause-event c = extends-step

pub returns-clause-run : goal.returns-clause-run
returns-clause-run c = extends-run
