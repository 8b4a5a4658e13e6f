use Rattle.postgres_model.proofs.Told.{stays-as-settled}
use Rattle.postgres_model.proofs.laws.settled_appends_stay_settled.Goals as goal

pub returns : goal.returns
returns c = stays-as-settled
