use Rattle.world_laws.proofs.ActsBeside.{acts_keep}
use Rattle.world_laws.proofs.stores.acts_keep_stores.Goals as goal

pub returns : goal.returns
returns c = acts_keep c.all_stores_hold.ensures.makes c.all_stores_hold.ensures.accepts c.all_stores_hold.ensures.discards c.all_stores_hold.ensures.later
    c.one_reply.ensures
