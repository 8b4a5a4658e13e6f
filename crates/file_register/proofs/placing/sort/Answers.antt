use Rattle.std.proofs.Common.{rules}
use Rattle.file_register.proofs.Searching.{sorts}
use Rattle.file_register.proofs.placing.sort.Goals as goal

pub returns-in-Ok-clause-sorted : goal.returns-in-Ok-clause-sorted
returns-in-Ok-clause-sorted c = sorts c.sort_by-sorted.new.self.items c.in-Ok.ensures.sorted (λ a r f called. search rules)
