use Rattle.postgres_model.proofs.Told.{prefix, whole}
use Rattle.postgres_model.proofs.laws.keepers_hold_a_prefix.Goals as goal

pub returns-clause-prefix : goal.returns-clause-prefix
returns-clause-prefix c = prefix

pub returns-clause-whole : goal.returns-clause-whole
returns-clause-whole c = whole
