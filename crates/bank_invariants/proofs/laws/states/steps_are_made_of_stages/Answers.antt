use Rattle.bank_invariants.specs.Stages.{IsSoundStage}
use Rattle.bank_invariants.proofs.StageLemmas.{leads_ask, leads_asks, leads_step}
use Rattle.bank_invariants.proofs.StateLemmas.{sound_ask, sound_asks, sound_event}
use Rattle.bank_invariants.proofs.laws.states.steps_are_made_of_stages.Goals as goal

pub returns-clause-ask : goal.returns-clause-ask
returns-clause-ask c = λ setup S user at ask moment known. leads_ask setup IsSoundStage S user at ask (sound_ask user at ask moment known)

pub returns-clause-asks : goal.returns-clause-asks
returns-clause-asks c = λ setup S user at asks moment known. leads_asks setup IsSoundStage S user at asks (sound_asks user at asks moment known)

pub returns-clause-event : goal.returns-clause-event
returns-clause-event c = λ setup S at event moment legal. leads_step setup IsSoundStage S at event legal (sound_event setup S at event moment legal)
