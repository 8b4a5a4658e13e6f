use Rattle.bank_callers.proofs.Following.{steps_follow}
use Rattle.bank_callers.proofs.laws.steps_follow.Goals as goal

pub returns : goal.returns
returns c = steps_follow
