use Rattle.file_register.proofs.Loading.{saved_or_faulty}
use Rattle.file_register.proofs.laws.saved_or_faulty.Goals as goal

pub returns : goal.returns
returns c = saved_or_faulty
