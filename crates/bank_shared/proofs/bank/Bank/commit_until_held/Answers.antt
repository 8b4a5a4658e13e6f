use Rattle.bank_shared.specs.Holds.{caller_of}
use Rattle.bank_shared.proofs.Holding.{lacked}
use Rattle.bank_shared.proofs.bank.Bank.commit_until_held.Goals as goal

pub returns-in-Err-numbers_of_both-clause-refused : goal.returns-in-Err-numbers_of_both-clause-refused
returns-in-Err-numbers_of_both-clause-refused g c =
    lacked g.N.BankName.tables c.in-Ok-Lacks.more.items (caller_of g.N.BankName.opening c.args.pass.now) (caller_of g.N.BankName.opening c.loop.pass) (caller_of g.N.BankName.opening c.commit_held.new.pass) c.loop.invariant.same
    (rw c.in-Ok-Lacks.field-0-is at c.in-Ok-Lacks.ensures.tried)
