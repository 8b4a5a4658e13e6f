use Rattle.bank_shared.proofs.Numbers.{file_may, file_listed}
use Rattle.bank_shared.proofs.bank.Bank.numbers_in.Goals as goal

pub returns-clause-may : goal.returns-clause-may
returns-clause-may g c =
    file_may g.N.BankName.setup c.self.inside.setup g.N.BankName.tables c.args.file.now c.in_ok-numbers.numbers.items c.self.invariant.0 c.self.invariant.6 c.in_ok-numbers.ensures.rising c.in_ok-numbers.ensures.named

pub returns-clause-listed : goal.returns-clause-listed
returns-clause-listed g c user state =
    file_listed g.N.BankName.setup c.self.inside.setup c.args.file.now c.in_ok-numbers.numbers.items c.self.invariant.0 c.in_ok-numbers.ensures.named
