use Rattle.bank_shared.proofs.Begun.{known_right}
use Rattle.bank_shared.proofs.bank.Bank.known.Goals as goal

pub returns : goal.returns
returns g c =
    known_right g.N.BankName.setup g.N.BankName.opening g.N.BankName.board c.args.pass.now c.every_state_is_sound.ensures.event c.books_are_right.ensures.state
    (c.every_state_is_sound.ensures.opening g.N.BankName.setup c.self.invariant.2) c.self.invariant.2 c.self.invariant.3 c.requires.pass
