use Rattle.postgres_model.proofs.Told.{stays-present}
use Rattle.postgres_model.proofs.laws.acknowledged_records_stand.Goals as goal

pub returns : goal.returns
returns c = stays-present
