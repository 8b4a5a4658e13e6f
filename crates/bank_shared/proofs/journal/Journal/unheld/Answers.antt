use Rattle.std.proofs.Common.{List, All, subst}
use Rattle.ofx_types.specs.declared.number.AcctId.{AcctId}
use Rattle.bank_accounts.specs.HeldAccounts.{IsHeld}
use Rattle.bank_model.specs.Rules.{named}
use Rattle.bank_shared.proofs.Numbers.{named_held}
use Rattle.bank_shared.proofs.journal.Journal.unheld.Goals as goal

pub returns-then-has_all-clause-held : goal.returns-then-has_all-clause-held
returns-then-has_all-clause-held g c =
    named_held c.in_ok-numbers.numbers.items c.args.held.now (named c.args.self.now.setup c.args.self.now.state c.args.event.now)
    (subst (λ (l : List AcctId). All (IsHeld c.args.held.now) l) c.deref.ensures.value (c.has_all.ensures.0 c.if-has_all.true)) c.in_ok-numbers.ensures.all
