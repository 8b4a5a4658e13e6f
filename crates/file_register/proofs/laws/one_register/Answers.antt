use Rattle.file_register.proofs.Loading.{one_register_text}
use Rattle.file_register.proofs.laws.one_register.Goals as goal

pub returns : goal.returns
returns c = one_register_text
