use Rattle.bank_shared.proofs.Begun.{child_pass}
use Rattle.bank_shared.proofs.bank.Bank.door.Goals as goal

pub returns-clause-door : goal.returns-clause-door
returns-clause-door g c = child_pass g.N.BankName.setup g.N.BankName.opening g.N.BankName.board c.args.pass.now c.split.result c.split.ensures.child c.requires.pass
