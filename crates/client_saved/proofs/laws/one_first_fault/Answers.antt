use Rattle.client_saved.proofs.StateLaws.{one_fault}
use Rattle.client_saved.proofs.laws.one_first_fault.Goals as goal

pub returns : goal.returns
returns c = one_fault
