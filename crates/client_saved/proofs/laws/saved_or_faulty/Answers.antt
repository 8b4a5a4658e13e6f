use Rattle.client_saved.proofs.StateLaws.{saved_or_faulty}
use Rattle.client_saved.proofs.laws.saved_or_faulty.Goals as goal

pub returns : goal.returns
returns c = saved_or_faulty
