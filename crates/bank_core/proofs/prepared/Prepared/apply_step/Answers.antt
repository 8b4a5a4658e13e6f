use Rattle.std.proofs.Common.{◌≡◌, List, map, refl, sym, ap, ◌∙◌, subst}
use Rattle.bank_model.specs.declared.event.State.{State}
use Rattle.bank_model.specs.Rules.{named}
use Rattle.bank_model.specs.SetupForm.{IsWithinLimits}
use Rattle.bank_accounts.specs.AccountView.{AccountView, BookSideView}
use Rattle.bank_accounts.specs.HeldAccounts.{AreHeld, HaveSameNumbers, with_balances}
use Rattle.bank_accounts.specs.Sides.{tables_in, AreOf, AreNotNegative, with_sides}
use Rattle.bank_accounts.specs.declared.balances.Balance.{Balance}
use Rattle.bank_ledger.specs.Balanced.{AreBalanced}
use Rattle.bank_ledger.specs.DraftView.{IsAdded}
use Rattle.bank_ledger.proofs.SettledLemmas.{HaveSameNumbers-settled, AreBalanced-settled}
use Rattle.bank_core.specs.BookSides.{AreSidesOf}
use Rattle.bank_core.specs.BookView.{PreparedView}
use Rattle.bank_core.specs.Preparing.{prepared_after}
use Rattle.bank_core.proofs.BookSidesLemmas.{met_balanced, not_negative, own_settled, sides_after}
use Rattle.bank_core.proofs.prepared.Prepared.apply_step.Goals as goal

pub set_balances-requires-clause-own : goal.set_balances-requires-clause-own
set_balances-requires-clause-own c =
    subst (λ (sides : List BookSideView). AreOf (tables_in sides) c.meet.new.held) (sym c.meet.ensures.sides)
    (subst (AreOf (tables_in c.args.sides.now)) (sym c.meet.ensures.accounts) c.requires.own)

pub set_balances-requires-clause-not_negative : goal.set_balances-requires-clause-not_negative
set_balances-requires-clause-not_negative c =
    let S : State = c.self.inside.before.value.state in
    subst AreNotNegative (sym c.balances.ensures)
    (not_negative c.self.inside.setup.value S (prepared_after S c.self.inside.added c.self.inside.older c.self.inside.newer c.self.inside.kept.items) c.self.inside.added c.self.invariant.balances refl c.self.invariant.sound)

pub take-requires-clause-added : goal.take-requires-clause-added
take-requires-clause-added c =
    subst (λ (S : State). IsAdded S c.self.inside.added) (ap (λ (p : PreparedView). p.before) c.self.view_is ∙ c.requires.made) c.self.invariant.rows

pub returns-clause-sides : goal.returns-clause-sides
returns-clause-sides c =
    let S : State = c.self.inside.before.value.state in
    let after : State = prepared_after S c.self.inside.added c.self.inside.older c.self.inside.newer c.self.inside.kept.items in
    let sides : c.set_balances.new.self ≡ with_sides c.self.inside.added.balances c.args.sides.now c.args.held.now =
    c.set_balances.ensures.sides
    ∙ ap (λ (given : List Balance). with_sides given c.meet.new.self c.meet.new.held) c.balances.ensures
    ∙ ap (λ (s : List BookSideView). with_sides c.self.inside.added.balances s c.meet.new.held) c.meet.ensures.sides
    ∙ ap (with_sides c.self.inside.added.balances c.args.sides.now) c.meet.ensures.accounts in
    subst (λ (p : PreparedView). AreSidesOf p.setup p.after c.set_balances.new.self) c.self.view_is
    (sides_after c.self.inside.setup.value S after c.self.inside.event.value c.self.inside.added c.args.sides.now c.set_balances.new.self c.args.held.now
    c.unnamed_accounts_stay.ensures
    (subst (λ (p : PreparedView). IsWithinLimits p.setup) (sym c.self.view_is) c.requires.within)
    c.self.invariant.balances c.self.invariant.step refl
    (subst (λ (p : PreparedView). AreHeld c.args.held.now (named p.setup p.before p.event)) (sym c.self.view_is) c.requires.named)
    (subst (λ (p : PreparedView). AreSidesOf p.setup p.before c.args.sides.now) (sym c.self.view_is) c.requires.sides)
    sides
    (c.set_balances.ensures.tables ∙ ap tables_in c.meet.ensures.sides))

pub returns-clause-tables : goal.returns-clause-tables
returns-clause-tables c = c.set_balances.ensures.tables ∙ ap tables_in c.meet.ensures.sides

pub returns-clause-numbers : goal.returns-clause-numbers
returns-clause-numbers c =
    subst (λ (held : List AccountView). HaveSameNumbers held c.args.held.now) (sym (c.set_balances.ensures.accounts ∙ ap (map (with_balances c.balances.result.now.given)) c.meet.ensures.accounts))
    (HaveSameNumbers-settled c.balances.result.now.given c.args.held.now)

pub returns-clause-own : goal.returns-clause-own
returns-clause-own c =
    subst (λ (held : List AccountView). AreOf (tables_in c.set_balances.new.self) held) (sym (c.set_balances.ensures.accounts ∙ ap (map (with_balances c.balances.result.now.given)) c.meet.ensures.accounts))
    (own_settled (tables_in c.set_balances.new.self) c.balances.result.now.given c.args.held.now
    (subst (λ tables. AreOf tables c.args.held.now) (sym (c.set_balances.ensures.tables ∙ ap tables_in c.meet.ensures.sides)) c.requires.own))

pub returns-clause-balanced : goal.returns-clause-balanced
returns-clause-balanced c =
    let own = subst (λ (p : PreparedView). AreSidesOf p.setup p.before c.args.sides.now) (sym c.self.view_is) c.requires.sides in
    let before : AreBalanced c.self.inside.setup.value c.self.inside.before.value.state c.args.held.now =
    met_balanced c.self.inside.setup.value c.self.inside.before.value.state c.args.sides.now c.args.held.now own c.meet.ensures.met in
    let settled_by = AreBalanced-settled c.self.inside.setup.value c.self.inside.before.value.state c.self.inside.added c.args.held.now c.self.invariant.balances before in
    let after = subst (λ (p : PreparedView). AreBalanced p.setup p.after (map (with_balances c.self.inside.added.balances) c.args.held.now)) c.self.view_is settled_by in
    subst (λ (held : List AccountView). AreBalanced c.args.self.setup c.args.self.after held)
    (sym (c.set_balances.ensures.accounts ∙ ap (λ (given : List Balance). map (with_balances given) c.meet.new.held) c.balances.ensures ∙ ap (map (with_balances c.self.inside.added.balances)) c.meet.ensures.accounts))
    after
