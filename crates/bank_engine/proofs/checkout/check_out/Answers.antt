use Rattle.std.proofs.Common.{◌≡◌, ◌∙◌, map}
use Rattle.bank_model.specs.Rules.{named}
use Rattle.bank_accounts.specs.AccountView.{AccountView}
use Rattle.bank_accounts.specs.HeldAccounts.{AreHeld, AreNamed}
use Rattle.bank_solo.proofs.Accounts.{all_home, named_are_held, named_known, only_named, when_done}
use Rattle.bank_engine.proofs.checkout.check_out.Goals as goal

pub check_out-requires-clause-known : goal.check_out-requires-clause-known
check_out-requires-clause-known g c =
    rw c.deref.ensures.value (named_known c.args.book.now.tables c.args.pool.now c.in_ok-numbers.numbers.items c.requires.pool.count c.in_ok-numbers.ensures.known)

pub check_out-requires-clause-pool : goal.check_out-requires-clause-pool
check_out-requires-clause-pool g c = all_home c.args.book.now.tables c.args.pool.now c.args.held.now c.requires.pool c.requires.none_held

pub returns-clause-named : goal.returns-clause-named
returns-clause-named g c =
    let names = named c.args.book.now.setup c.args.book.now.state c.args.event.now in
    when_done c.check_out.result (map (λ (account : AccountView). account.number) c.check_out.new.held ≡ c.deref.result.now) (AreHeld c.check_out.new.held names)
    (λ same. named_are_held c.in_ok-numbers.numbers.items c.check_out.new.held names (same ∙ c.deref.ensures.value) c.in_ok-numbers.ensures.named)
    c.check_out.ensures.numbers

pub returns-clause-only : goal.returns-clause-only
returns-clause-only g c =
    let names = named c.args.book.now.setup c.args.book.now.state c.args.event.now in
    when_done c.check_out.result (map (λ (account : AccountView). account.number) c.check_out.new.held ≡ c.deref.result.now) (AreNamed c.check_out.new.held names)
    (λ same. only_named c.in_ok-numbers.numbers.items c.check_out.new.held names (same ∙ c.deref.ensures.value) c.in_ok-numbers.ensures.named)
    c.check_out.ensures.numbers
