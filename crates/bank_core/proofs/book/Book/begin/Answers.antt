use Rattle.std.proofs.Common.{sym, subst, arith}
use Rattle.bank_model.specs.declared.event.State.{State}
use Rattle.bank_invariants.specs.SoundStates.{IsSoundState}
use Rattle.bank_invariants.proofs.OpeningLemmas.{IsSoundState-opening}
use Rattle.bank_core.specs.BookSides.{AreSidesOf}
use Rattle.bank_core.proofs.BookSidesLemmas.{tables_opened, sides_opened}
use Rattle.bank_core.proofs.book.Book.begin.Goals as goal

pub new-ledger-requires : goal.new-ledger-requires
new-ledger-requires g c = record { window = (omega (arith, c.requires.lines.window_low), omega (arith, c.requires.lines.window_high)) }

pub invariant_of-book : goal.invariant_of-book
invariant_of-book g c = (
  c.requires,
  subst (λ (S : State). IsSoundState c.args.setup S) (sym c.new-ledger.ensures.state) (IsSoundState-opening c.args.setup c.requires),
  c.new-ledger.ensures.window,
  subst (λ (S : State). AreSidesOf c.args.setup S c.in_ok-accounts.sides) (sym c.new-ledger.ensures.state)
      (sides_opened c.args.setup c.in_ok-accounts.accounts.items c.in_ok-accounts.sides c.in_ok-accounts.ensures.accounts c.in_ok-accounts.ensures.sides),
)

pub returns-clause-tables : goal.returns-clause-tables
returns-clause-tables g c = tables_opened c.in_ok-accounts.accounts.items c.in_ok-accounts.sides c.in_ok-accounts.ensures.sides
