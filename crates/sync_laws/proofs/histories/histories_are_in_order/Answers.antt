use Rattle.sync_laws.proofs.Events.{order_opening, order_step, grows_raised, grows_ask, grows_asks}
use Rattle.sync_laws.proofs.histories.histories_are_in_order.Goals as goal

pub returns-clause-opening : goal.returns-clause-opening
returns-clause-opening c = order_opening

pub returns-clause-event : goal.returns-clause-event
returns-clause-event c = λ setup S at event sound legal. order_step setup S at event sound legal

pub returns-clause-day : goal.returns-clause-day
returns-clause-day c = λ setup S at sound. (grows_raised setup S at).order sound

pub returns-clause-ask : goal.returns-clause-ask
returns-clause-ask c = λ setup S user at ask sound. (grows_ask setup S user at ask).order sound

pub returns-clause-asks : goal.returns-clause-asks
returns-clause-asks c = λ setup S user at asks sound. (grows_asks setup S user at asks).order sound
