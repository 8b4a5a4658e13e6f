use Rattle.bank_engine.proofs.Reopening.{logs_lead}
use Rattle.bank_engine.proofs.laws.logs_reopen.Goals as goal

pub returns : goal.returns
returns c = logs_lead
