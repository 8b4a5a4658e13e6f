use Rattle.sync_laws.proofs.Lost.{lost_after, lost_refresh}
use Rattle.sync_laws.proofs.Named.{lost_below}
use Rattle.sync_laws.proofs.stores.stores_are_lost_where_the_reply_says_so.Goals as goal
use Rattle.bank_model.proofs.TakenStores.{name_taken}

pub returns-clause-after : goal.returns-clause-after
returns-clause-after c = lost_after

pub returns-clause-refresh : goal.returns-clause-refresh
returns-clause-refresh c = lost_refresh

pub returns-clause-floor : goal.returns-clause-floor
returns-clause-floor c = lost_below

pub returns-clause-name : goal.returns-clause-name
returns-clause-name c = name_taken
