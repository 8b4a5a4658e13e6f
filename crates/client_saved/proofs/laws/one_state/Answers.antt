use Rattle.client_saved.proofs.StateLaws.{one_state}
use Rattle.client_saved.proofs.laws.one_state.Goals as goal

pub returns : goal.returns
returns c = one_state
