use Rattle.sync_laws.proofs.Events.{order_step, later_step, grows_asks}
use Rattle.sync_laws.proofs.Named.{right_later, right_grown}
use Rattle.sync_laws.proofs.stores.stores_stay_right.Goals as goal

pub returns-clause-later : goal.returns-clause-later
returns-clause-later c = right_later

pub returns-clause-event : goal.returns-clause-event
returns-clause-event c = λ setup S at event user store sound legal right. right_later setup S _ user store sound (order_step setup S at event sound legal) (later_step setup S at event) right

pub returns-clause-asks : goal.returns-clause-asks
returns-clause-asks c = λ setup S user at asks owner store sound right. right_grown setup S _ owner store (grows_asks setup S user at asks) sound right
