use Rattle.bank_model.proofs.SetupLaws.{spelled_once}
use Rattle.bank_model.proofs.laws.one_setup.Goals as goal

pub returns : goal.returns
returns c = spelled_once
