use Rattle.std.proofs.Common.{sym, ap, ◌∙◌}
use Rattle.bank_model.specs.Ledger.{balance}
use Rattle.bank_ledger.specs.DraftView.{DraftView, drafted}
use Rattle.bank_ledger.proofs.EnteringLemmas.{balance_before-is, balance_given-is}
use Rattle.bank_ledger.proofs.draft.Draft.held_balance.Goals as goal

pub returns-in-Some : goal.returns-in-Some
returns-in-Some c =
    balance_given-is c.self.inside.setup.now c.self.inside.ledger.now.state c.self.inside.added c.args.account c.in-Some.amount c.self.invariant.0.balances_given (sym c.balance.ensures ∙ c.in-Some.is)
    ∙ ap (λ (d : DraftView). balance d.setup (drafted d).entries c.args.account) c.self.view_is

pub returns-in-None : goal.returns-in-None
returns-in-None c =
    balance_before-is c.self.inside.setup.now c.self.inside.ledger.now.state c.self.inside.added c.self.inside.held.now c.args.account c.balance_before.result c.self.invariant.0.balanced c.self.invariant.0.balances_given c.balance_before.ensures (sym c.balance.ensures ∙ c.in-None.is)
    ∙ ap (λ (d : DraftView). balance d.setup (drafted d).entries c.args.account) c.self.view_is
