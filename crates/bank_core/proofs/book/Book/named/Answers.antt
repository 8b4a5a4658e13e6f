use Rattle.std.proofs.Common.{◌≡◌, length, subst}
use Rattle.std.proofs.lemmas.Result.{IfOk-weaker}
use Rattle.bank_core.specs.BookView.{ReservedBook}
use Rattle.bank_core.proofs.BookSidesLemmas.{tables_count, named_known}
use Rattle.bank_core.proofs.book.Book.named.Goals as goal

pub returns-in-File-clause-named : goal.returns-in-File-clause-named
returns-in-File-clause-named g c = rw (← c.self.view_is, c.in-File.is) c.named_by_file.ensures.named

pub returns-in-Post-clause-named : goal.returns-in-Post-clause-named
returns-in-Post-clause-named g c = rw (← c.self.view_is, c.in-Post.is, ← c.row.ensures) c.named_by_row.ensures.named

pub returns-in-File-clause-known : goal.returns-in-File-clause-known
returns-in-File-clause-known g c =
    let size = subst (λ (b : ReservedBook). length b.tables ≡ length b.setup.accounts) c.self.view_is
    (tables_count c.self.inside.setup c.self.inside.ledger.state c.self.inside.sides c.self.invariant.3) in
    IfOk-weaker c.named_by_file.result _ _
    (λ accounts only. named_known c.args.self.now.setup c.args.self.now.state c.args.event.now accounts.items (length c.args.self.now.tables) size only)
    (returns-in-File-clause-named g c)

pub returns-in-Post-clause-known : goal.returns-in-Post-clause-known
returns-in-Post-clause-known g c =
    let size = subst (λ (b : ReservedBook). length b.tables ≡ length b.setup.accounts) c.self.view_is
    (tables_count c.self.inside.setup c.self.inside.ledger.state c.self.inside.sides c.self.invariant.3) in
    IfOk-weaker c.named_by_row.result _ _
    (λ accounts only. named_known c.args.self.now.setup c.args.self.now.state c.args.event.now accounts.items (length c.args.self.now.tables) size only)
    (returns-in-Post-clause-named g c)
