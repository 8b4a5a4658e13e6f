use Rattle.reply_laws.proofs.States.{reportable_opening, reportable_raised, reportable_ask, reportable_step}
use Rattle.reply_laws.proofs.reported_states.reported_states_last.Goals as goal

pub returns-clause-opening : goal.returns-clause-opening
returns-clause-opening c = reportable_opening

pub returns-clause-event : goal.returns-clause-event
returns-clause-event c = reportable_step

pub returns-clause-day : goal.returns-clause-day
returns-clause-day c = reportable_raised

pub returns-clause-ask : goal.returns-clause-ask
returns-clause-ask c = λ setup S user at ask within reportable moment known sound. reportable_ask setup S user at ask (record { within = within; reportable = reportable; moment = moment; known = known }) sound
