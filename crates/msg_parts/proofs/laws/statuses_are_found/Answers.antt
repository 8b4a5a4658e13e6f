use Rattle.msg_parts.proofs.Statuses.{status_again, status_found}
use Rattle.msg_parts.proofs.laws.statuses_are_found.Goals as goal

pub returns : goal.returns
returns c = λ parent code. (status_again parent code, status_found parent code)
