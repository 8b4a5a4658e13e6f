use Rattle.std.proofs.Common.{◌≡◌, ◌∙◌, [], ap, refl, sym, subst}
use Rattle.bank_model.specs.declared.event.State.{State}
use Rattle.bank_model.specs.declared.setup.Setup.{Setup}
use Rattle.bank_accounts.specs.Sides.{AreOf}
use Rattle.bank_ledger.specs.Balanced.{AreBalanced}
use Rattle.bank_solo.specs.Solo.{AreAccountsIn, AreAccountsOf}
use Rattle.bank_solo.proofs.Accounts.{all_home, all_of, all_own, as_in, rises, same_all}
use Rattle.bank_engine.specs.Views.{EngineView}
use Rattle.bank_engine.proofs.CheckedOutAccounts.{lent_for_none}
use Rattle.bank_engine.proofs.solo.SoloEngine.into_parts.Goals as goal

pub into_vec-requires : goal.into_vec-requires
into_vec-requires g c =
    let engine = c.self.inside.engine in
    all_home engine.tables c.self.inside.pool c.self.inside.held c.self.invariant.0
    (lent_for_none engine.setup engine.state c.self.inside.held engine.pending c.self.invariant.1 (ap (λ (v : EngineView). v.pending) c.self.view_is ∙ c.give_up.ensures.pending))

pub from_vec-all-requires : goal.from_vec-all-requires
from_vec-all-requires g c = rises c.in_ok-accounts.accounts.items c.in_ok-accounts.ensures.numbered

pub meet-requires : goal.meet-requires
meet-requires g c =
    let engine = c.self.inside.engine in
    let items = c.in_ok-accounts.accounts.items in
    let are : AreAccountsOf engine.tables items =
    all_of engine.tables c.self.inside.pool c.self.inside.held items c.self.invariant.0
    (lent_for_none engine.setup engine.state c.self.inside.held engine.pending c.self.invariant.1 (ap (λ (v : EngineView). v.pending) c.self.view_is ∙ c.give_up.ensures.pending))
    c.in_ok-accounts.ensures.numbered c.in_ok-accounts.ensures.tables in
    subst (AreOf c.into_book-book.result.tables) (sym c.from_vec-all.ensures) (all_own c.into_book-book.result.tables items (same_all engine.tables c.into_book-book.result.tables items items c.into_book-book.ensures.tables refl are))

pub returns-clause-accounts : goal.returns-clause-accounts
returns-clause-accounts g c =
    let engine = c.self.inside.engine in
    let book = c.into_book-book.result in
    let items = c.in_ok-accounts.accounts.items in
    let are : AreAccountsOf engine.tables items =
    all_of engine.tables c.self.inside.pool c.self.inside.held items c.self.invariant.0
    (lent_for_none engine.setup engine.state c.self.inside.held engine.pending c.self.invariant.1 (ap (λ (v : EngineView). v.pending) c.self.view_is ∙ c.give_up.ensures.pending))
    c.in_ok-accounts.ensures.numbered c.in_ok-accounts.ensures.tables in
    subst (λ (s : Setup). AreAccountsIn s c.args.self.state c.into_vec-2.result.items) (c.into_book-book.ensures.setup ∙ ap (λ (v : EngineView). v.setup) c.self.view_is ∙ c.give_up.ensures.setup)
    (subst (λ (S : State). AreAccountsIn book.setup S c.into_vec-2.result.items) (c.into_book-book.ensures.state ∙ ap (λ (v : EngineView). v.state) c.self.view_is ∙ c.give_up.ensures.state)
    (subst (AreAccountsIn book.setup book.state) (sym (c.into_vec-2.ensures ∙ c.meet.ensures.accounts ∙ c.from_vec-all.ensures))
    (as_in book.setup book.state book.tables items c.setup-setup.ensures.tables
    (same_all engine.tables book.tables items items c.into_book-book.ensures.tables refl are)
    (subst (AreBalanced book.setup book.state) c.from_vec-all.ensures c.meet.ensures.balanced))))

pub returns-clause-own : goal.returns-clause-own
returns-clause-own g c =
    let engine = c.self.inside.engine in
    let items = c.in_ok-accounts.accounts.items in
    same_all engine.tables c.meet.new.self.tables items c.into_vec-2.result.items (c.meet.ensures.tables ∙ c.into_book-book.ensures.tables) (c.into_vec-2.ensures ∙ c.meet.ensures.accounts ∙ c.from_vec-all.ensures)
    (all_of engine.tables c.self.inside.pool c.self.inside.held items c.self.invariant.0
    (lent_for_none engine.setup engine.state c.self.inside.held engine.pending c.self.invariant.1 (ap (λ (v : EngineView). v.pending) c.self.view_is ∙ c.give_up.ensures.pending))
    c.in_ok-accounts.ensures.numbered c.in_ok-accounts.ensures.tables)
