use Rattle.postgres_model.proofs.Told.{one-keeper}
use Rattle.postgres_model.proofs.laws.one_keeper_has_each_number.Goals as goal

pub returns : goal.returns
returns c = one-keeper
