use Rattle.std.proofs.Common.{List, sym, subst}
use Rattle.bank_accounts.specs.AccountView.{BookSideView}
use Rattle.bank_accounts.specs.Sides.{AreOf}
use Rattle.bank_ledger.specs.Balanced.{AreBalanced}
use Rattle.bank_core.specs.BookSides.{AreSidesOf}
use Rattle.bank_core.specs.BookView.{ReservedBook}
use Rattle.bank_core.proofs.BookSidesLemmas.{met_balanced}
use Rattle.bank_core.proofs.book.Book.meet.Goals as goal

pub meet-requires : goal.meet-requires
meet-requires g c = subst (λ (b : ReservedBook). AreOf b.tables c.args.held.now) (sym c.self.view_is) c.requires

pub invariant_of-self : goal.invariant_of-self
invariant_of-self g c = (
  c.self.invariant.0,
  c.self.invariant.1,
  c.self.invariant.2,
  subst (λ (sides : List BookSideView). AreSidesOf c.self.inside.setup c.self.inside.ledger.state sides) (sym c.meet.ensures.sides) c.self.invariant.3,
)

pub returns-clause-balanced : goal.returns-clause-balanced
returns-clause-balanced g c =
    subst (λ (b : ReservedBook). AreBalanced b.setup b.state c.args.held.now) c.self.view_is
    (met_balanced c.self.inside.setup c.self.inside.ledger.state c.self.inside.sides c.args.held.now c.self.invariant.3 c.meet.ensures.met)
