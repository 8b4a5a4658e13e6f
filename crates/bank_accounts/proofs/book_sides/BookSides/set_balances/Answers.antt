use Rattle.std.proofs.Common.{◌<◌, ◌++◌, List, length, map, take, drop, get_or, ap, sym, ◌∙◌, subst, arith, rules}
use Rattle.std.proofs.Math.ListN.{set}
use Rattle.std.proofs.lemmas.List.Edits.{map_over_more}
use Rattle.bank_accounts.specs.AccountView.{AccountView, Tables}
use Rattle.bank_accounts.specs.BalancesView.{amount_given}
use Rattle.bank_accounts.specs.HeldAccounts.{with_balances}
use Rattle.bank_accounts.specs.Sides.{IsOf, tables_in}
use Rattle.bank_accounts.proofs.HeldLemmas.{rising_settled}
use Rattle.bank_accounts.proofs.SettledSides.{tables_with, own_next, sides_next}
use Rattle.bank_accounts.proofs.book_sides.BookSides.set_balances.Goals as goal

pub invariant_of-held : goal.invariant_of-held
invariant_of-held c =
    rising_settled c.args.given.now.given c.held.inside.accounts.items c.loop-account.account-items c.loop-account.account-index c.held.inside.accounts.len c.held.invariant
    (c.loop-account.invariant.accounts
    ∙ ap (λ (xs : List AccountView). map (with_balances c.args.given.now.given) (take c.loop-account.account-index xs) ++ drop c.loop-account.account-index xs) (sym c.held.view_is))
    (search rules)

pub set_balance-requires-clause-own : goal.set_balance-requires-clause-own
set_balance-requires-clause-own c =
    let account : AccountView = get_or c.loop-account.account-items c.loop-account.account-index c.account-item.result in
    let below : c.loop-account.account-index < length c.args.held.now = omega (arith, ap length (c.deref_mut-account-items.ensures.value ∙ c.held.view_is)) in
    subst (λ (tables : Tables). IsOf tables account) (sym c.loop-account.invariant.tables)
    (own_next c.args.given.now.given (tables_in c.args.self.now) c.args.held.now c.loop-account.account-items c.loop-account.account-index c.account-item.result c.requires.own below c.loop-account.invariant.accounts)

pub loop-account-preserved : goal.loop-account-preserved
loop-account-preserved c =
    let account : AccountView = get_or c.loop-account.account-items c.loop-account.account-index c.account-item.result in
    let below : c.loop-account.account-index < length c.args.held.now = omega (arith, ap length (c.deref_mut-account-items.ensures.value ∙ c.held.view_is)) in
    let own = subst (λ (tables : Tables). IsOf tables account) (sym c.loop-account.invariant.tables)
    (own_next c.args.given.now.given (tables_in c.args.self.now) c.args.held.now c.loop-account.account-items c.loop-account.account-index c.account-item.result c.requires.own below c.loop-account.invariant.accounts) in
    record {
      sides = sides_next c.args.given.now.given c.args.self.now c.loop-account.self c.set_balance.new.self c.args.held.now c.loop-account.account-items c.loop-account.account-index c.account-item.result below c.loop-account.invariant.accounts c.loop-account.invariant.sides c.set_balance.ensures.side;
      accounts = ap (set c.loop-account.account-items c.loop-account.account-index) (c.set_balance.ensures.account ∙ ap (with_balances c.args.given.now.given) (sym c.account-item.is))
          ∙ map_over_more (with_balances c.args.given.now.given) c.args.held.now c.loop-account.account-items c.loop-account.account-index c.account-item.result below c.loop-account.invariant.accounts c.account-item.is;
      tables = ap tables_in c.set_balance.ensures.side ∙ tables_with c.loop-account.self account (amount_given c.args.given.now.given account.number) own ∙ c.loop-account.invariant.tables;
    }
