use Rattle.std.proofs.Common.{sym, ap, ◌∙◌, subst}
use Rattle.bank_model.specs.declared.setup.Setup.{Setup}
use Rattle.bank_model.specs.declared.event.State.{State}
use Rattle.bank_model.specs.Rules.{named}
use Rattle.bank_model.specs.SetupForm.{IsWithinLimits}
use Rattle.bank_accounts.specs.HeldAccounts.{AreHeld}
use Rattle.bank_accounts.specs.Sides.{AreOf}
use Rattle.bank_invariants.specs.SoundStates.{IsSoundState}
use Rattle.bank_core.specs.BookSides.{AreSidesOf}
use Rattle.bank_core.specs.BookView.{ReservedBook}
use Rattle.bank_core.proofs.book.Book.adopt.Goals as goal

pub apply_step-requires-clause-within : goal.apply_step-requires-clause-within
apply_step-requires-clause-within g c =
    subst IsWithinLimits (ap (λ (b : ReservedBook). b.setup) c.self.view_is ∙ sym c.requires.of) c.self.invariant.0

pub apply_step-requires-clause-sides : goal.apply_step-requires-clause-sides
apply_step-requires-clause-sides g c =
    subst (λ (s : Setup). AreSidesOf s c.args.prepared.before c.self.inside.sides) (ap (λ (b : ReservedBook). b.setup) c.self.view_is ∙ sym c.requires.of)
    (subst (λ (S : State). AreSidesOf c.self.inside.setup S c.self.inside.sides) (ap (λ (b : ReservedBook). b.state) c.self.view_is ∙ sym c.requires.made) c.self.invariant.3)

pub apply_step-requires-clause-named : goal.apply_step-requires-clause-named
apply_step-requires-clause-named g c =
    subst (λ (s : Setup). AreHeld c.args.held.now (named s c.args.prepared.before c.args.prepared.event)) (sym c.requires.of)
    (subst (λ (S : State). AreHeld c.args.held.now (named c.args.self.now.setup S c.args.prepared.event)) (sym c.requires.made) c.requires.named)

pub apply_step-requires-clause-own : goal.apply_step-requires-clause-own
apply_step-requires-clause-own g c = subst (λ (b : ReservedBook). AreOf b.tables c.args.held.now) (sym c.self.view_is) c.requires.own

pub invariant_of-self : goal.invariant_of-self
invariant_of-self g c =
    let own = c.requires.of ∙ sym (ap (λ (b : ReservedBook). b.setup) c.self.view_is) in (
      c.self.invariant.0,
      subst (λ (s : Setup). IsSoundState s c.apply_step.new.ledger.state) own
          (subst (IsSoundState c.args.prepared.setup) (sym c.apply_step.ensures.state) c.apply_step.ensures.sound),
      c.apply_step.ensures.window ∙ c.self.invariant.2,
      subst (λ (s : Setup). AreSidesOf s c.apply_step.new.ledger.state c.apply_step.new.sides) own
          (subst (λ (S : State). AreSidesOf c.args.prepared.setup S c.apply_step.new.sides) (sym c.apply_step.ensures.state) c.apply_step.ensures.sides),
    )

pub returns-clause-tables : goal.returns-clause-tables
returns-clause-tables g c = c.apply_step.ensures.tables ∙ ap (λ (b : ReservedBook). b.tables) c.self.view_is
