use Rattle.sync_laws.proofs.Events.{later_step, grows_ask, grows_asks}
use Rattle.sync_laws.proofs.histories.histories_grow.Goals as goal

pub returns-clause-event : goal.returns-clause-event
returns-clause-event c = later_step

pub returns-clause-ask : goal.returns-clause-ask
returns-clause-ask c = λ setup S user at ask. (grows_ask setup S user at ask).later

pub returns-clause-asks : goal.returns-clause-asks
returns-clause-asks c = λ setup S user at asks. (grows_asks setup S user at asks).later
