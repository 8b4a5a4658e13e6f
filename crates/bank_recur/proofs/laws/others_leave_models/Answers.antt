use Rattle.bank_recur.proofs.RepresentsLemmas.{holds_kept}
use Rattle.bank_recur.proofs.laws.others_leave_models.Goals as goal

pub returns : goal.returns
returns c = holds_kept
