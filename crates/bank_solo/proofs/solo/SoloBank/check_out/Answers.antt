use Rattle.std.proofs.Common.{◌≡◌, ◌∙◌, OnOk, ap, map, length, subst}
use Rattle.bank_model.specs.Rules.{named}
use Rattle.bank_accounts.specs.AccountView.{AccountView}
use Rattle.bank_accounts.specs.HeldAccounts.{AreHeld, AreNamed}
use Rattle.bank_solo.specs.Solo.{SoloView}
use Rattle.bank_solo.proofs.Accounts.{all_home, named_are_held, named_known, only_named, when_done}
use Rattle.bank_solo.proofs.solo.SoloBank.check_out.Goals as goal

pub check_out-requires-clause-known : goal.check_out-requires-clause-known
check_out-requires-clause-known g c =
    rw c.deref.ensures.value
    (named_known c.self.inside.book.tables c.self.inside.pool c.in_ok-numbers.numbers.items c.self.invariant.1.count c.in_ok-numbers.ensures.known)

pub check_out-requires-clause-pool : goal.check_out-requires-clause-pool
check_out-requires-clause-pool g c =
    all_home c.self.inside.book.tables c.self.inside.pool c.self.inside.held c.self.invariant.1
    (ap (λ (bank : SoloView). bank.held) c.self.view_is ∙ c.requires)

pub returns-clause-named : goal.returns-clause-named
returns-clause-named g c =
    subst (λ (bank : SoloView). OnOk c.check_out.result (AreHeld c.check_out.new.held (named bank.setup bank.state c.args.event.now))) c.self.view_is
    (when_done c.check_out.result (map (λ (account : AccountView). account.number) c.check_out.new.held ≡ c.deref.result.now) (AreHeld c.check_out.new.held (named c.self.inside.book.setup c.self.inside.book.state c.args.event.now))
    (λ same. named_are_held c.in_ok-numbers.numbers.items c.check_out.new.held (named c.self.inside.book.setup c.self.inside.book.state c.args.event.now) (same ∙ c.deref.ensures.value) c.in_ok-numbers.ensures.named)
    c.check_out.ensures.numbers)

pub returns-clause-only : goal.returns-clause-only
returns-clause-only g c =
    subst (λ (bank : SoloView). OnOk c.check_out.result (AreNamed c.check_out.new.held (named bank.setup bank.state c.args.event.now))) c.self.view_is
    (when_done c.check_out.result (map (λ (account : AccountView). account.number) c.check_out.new.held ≡ c.deref.result.now) (AreNamed c.check_out.new.held (named c.self.inside.book.setup c.self.inside.book.state c.args.event.now))
    (λ same. only_named c.in_ok-numbers.numbers.items c.check_out.new.held (named c.self.inside.book.setup c.self.inside.book.state c.args.event.now) (same ∙ c.deref.ensures.value) c.in_ok-numbers.ensures.named)
    c.check_out.ensures.numbers)
