use Rattle.bank_invariants.proofs.DueLaws.{legal_if_due}
use Rattle.bank_core.proofs.book.Book.due.Goals as goal

pub returns-clause-legal : goal.returns-clause-legal
returns-clause-legal g c = legal_if_due c.args.self.now.setup c.args.self.now.state c.args.at c.first_due.result c.first_due.ensures
