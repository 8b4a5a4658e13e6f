use Rattle.file_register.proofs.RegisterLaws.{one_register}
use Rattle.file_register.proofs.laws.same_members_one_register.Goals as goal

pub returns : goal.returns
returns c = one_register
