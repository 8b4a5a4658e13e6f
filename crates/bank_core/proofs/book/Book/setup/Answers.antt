use Rattle.std.proofs.Common.{◌≡◌, length, subst}
use Rattle.bank_core.specs.BookView.{ReservedBook}
use Rattle.bank_core.proofs.BookSidesLemmas.{tables_count}
use Rattle.bank_core.proofs.book.Book.setup.Goals as goal

pub returns-clause-tables : goal.returns-clause-tables
returns-clause-tables g c =
    subst (λ (b : ReservedBook). length b.tables ≡ length b.setup.accounts) c.self.view_is
    (tables_count c.self.inside.setup c.self.inside.ledger.state c.self.inside.sides c.self.invariant.3)
