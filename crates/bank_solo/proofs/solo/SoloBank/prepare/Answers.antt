use Rattle.std.proofs.Common.{List, ◌∙◌, sym, ap, subst}
use Rattle.bank_model.specs.Rules.{named}
use Rattle.bank_accounts.specs.AccountView.{AccountView}
use Rattle.bank_accounts.specs.HeldAccounts.{AreNamed}
use Rattle.bank_solo.specs.Solo.{SoloView}
use Rattle.bank_solo.proofs.solo.SoloBank.prepare.Goals as goal

pub answer-requires-clause-own : goal.answer-requires-clause-own
answer-requires-clause-own g c = c.self.invariant.1.own

pub returns-in-Ok-clause-only : goal.returns-in-Ok-clause-only
returns-in-Ok-clause-only g c =
    subst (λ (held : List AccountView). AreNamed held (named c.args.self.now.setup c.args.self.now.state c.args.event.now))
    (sym (c.in-Ok.ensures.accounts ∙ ap (λ (bank : SoloView). bank.held) c.self.view_is))
    c.in_ok-check_out.ensures.only
