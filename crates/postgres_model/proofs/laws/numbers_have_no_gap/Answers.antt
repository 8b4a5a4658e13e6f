use Rattle.postgres_model.proofs.Told.{no-gap}
use Rattle.postgres_model.proofs.laws.numbers_have_no_gap.Goals as goal

pub returns : goal.returns
returns c = no-gap
