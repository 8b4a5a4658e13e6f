use Rattle.std.proofs.Common.{◌≡◌, ◌∙◌, [], ap, sym, subst}
use Rattle.bank_accounts.specs.Sides.{AreOf}
use Rattle.bank_ledger.specs.Balanced.{AreBalanced}
use Rattle.bank_solo.specs.Solo.{SoloView, AreAccountsIn, AreAccountsOf}
use Rattle.bank_solo.proofs.Accounts.{all_home, all_of, all_own, as_in, rises, same_all}
use Rattle.bank_solo.proofs.solo.SoloBank.into_parts.Goals as goal

pub into_vec-requires : goal.into_vec-requires
into_vec-requires g c =
    all_home c.self.inside.book.tables c.self.inside.pool c.self.inside.held c.self.invariant.1
    (ap (λ (bank : SoloView). bank.held) c.self.view_is ∙ c.requires)

pub from_vec-all-requires : goal.from_vec-all-requires
from_vec-all-requires g c = rises c.in_ok-accounts.accounts.items c.in_ok-accounts.ensures.numbered

pub meet-requires : goal.meet-requires
meet-requires g c =
    subst (AreOf c.self.inside.book.tables) (sym c.from_vec-all.ensures)
    (all_own c.self.inside.book.tables c.in_ok-accounts.accounts.items
    (all_of c.self.inside.book.tables c.self.inside.pool c.self.inside.held c.in_ok-accounts.accounts.items c.self.invariant.1
    (ap (λ (bank : SoloView). bank.held) c.self.view_is ∙ c.requires) c.in_ok-accounts.ensures.numbered c.in_ok-accounts.ensures.tables))

pub returns-clause-accounts : goal.returns-clause-accounts
returns-clause-accounts g c =
    let book = c.self.inside.book in
    let items = c.in_ok-accounts.accounts.items in
    let last = c.into_vec-2.ensures ∙ c.meet.ensures.accounts ∙ c.from_vec-all.ensures in
    subst (λ (bank : SoloView). AreAccountsIn bank.setup bank.state c.into_vec-2.result.items) c.self.view_is
    (subst (AreAccountsIn book.setup book.state) (sym last)
    (as_in book.setup book.state book.tables items c.setup-setup.ensures.tables
    (all_of book.tables c.self.inside.pool c.self.inside.held items c.self.invariant.1 (ap (λ (bank : SoloView). bank.held) c.self.view_is ∙ c.requires) c.in_ok-accounts.ensures.numbered c.in_ok-accounts.ensures.tables)
    (subst (AreBalanced book.setup book.state) c.from_vec-all.ensures c.meet.ensures.balanced)))

pub returns-clause-own : goal.returns-clause-own
returns-clause-own g c =
    let book = c.self.inside.book in
    let items = c.in_ok-accounts.accounts.items in
    same_all book.tables c.meet.new.self.tables items c.into_vec-2.result.items c.meet.ensures.tables (c.into_vec-2.ensures ∙ c.meet.ensures.accounts ∙ c.from_vec-all.ensures)
    (all_of book.tables c.self.inside.pool c.self.inside.held items c.self.invariant.1 (ap (λ (bank : SoloView). bank.held) c.self.view_is ∙ c.requires) c.in_ok-accounts.ensures.numbered c.in_ok-accounts.ensures.tables)
