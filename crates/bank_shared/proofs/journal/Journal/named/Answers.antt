use Rattle.bank_shared.proofs.Numbers.{named_alike}
use Rattle.bank_shared.proofs.journal.Journal.named.Goals as goal

pub returns-clause-all : goal.returns-clause-all
returns-clause-all g c =
    named_alike c.args.self.now.setup c.book.result.now.setup c.args.self.now.state c.book.result.now.state c.args.event.now c.in_ok-numbers.numbers.items c.book.ensures.setup c.book.ensures.state
    c.in_ok-numbers.ensures.named
