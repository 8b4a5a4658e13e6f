use Rattle.file_register.proofs.RegisterLaws.{none_registered}
use Rattle.file_register.proofs.register.Register.new.Goals as goal

pub invariant_of-result : goal.invariant_of-result
invariant_of-result c = rw c.new.ensures.items none_registered
