use Rattle.client_laws.proofs.StoresHold.{makes_rightly, accepts_rightly, discards_rightly, stays_right}
use Rattle.client_laws.proofs.stores.all_stores_hold.Goals as goal

pub returns-clause-makes : goal.returns-clause-makes
returns-clause-makes c = makes_rightly

pub returns-clause-accepts : goal.returns-clause-accepts
returns-clause-accepts c = accepts_rightly

pub returns-clause-discards : goal.returns-clause-discards
returns-clause-discards c = discards_rightly

pub returns-clause-later : goal.returns-clause-later
returns-clause-later c = stays_right
