-- Accounts that are given the balances that an event adds.
use Rattle.std.proofs.Common.{◌≡◌, List, [], ◌∷◌, ◌++◌, map, Option, None, Some, refl, sym, ap, ◌∙◌}
use Rattle.std.proofs.lemmas.List.Elements.{All-cons, All-nil, All-head, All-tail}
use Rattle.ofx_types.specs.declared.number.Cents.{Cents}
use Rattle.bank_model.specs.declared.setup.Setup.{Setup}
use Rattle.bank_model.specs.declared.event.State.{State}
use Rattle.bank_model.specs.Ledger.{balance}
use Rattle.bank_accounts.specs.AccountView.{AccountView}
use Rattle.bank_accounts.specs.BalancesView.{amount_given}
use Rattle.bank_accounts.specs.declared.balances.Balance.{Balance}
use Rattle.bank_accounts.specs.HeldAccounts.{with_amount, with_balances, HaveSameNumbers}
use Rattle.bank_ledger.specs.Balanced.{AreBalanced}
use Rattle.bank_ledger.specs.DraftView.{AddedView, with_added, amount_or, AreGiven}

same_number : (account : AccountView) (amount : Option Cents) → (with_amount account amount).number ≡ account.number
same_number account None = refl
same_number account (Some amount) = refl

pub HaveSameNumbers-settled : (given : List Balance) (accounts : List AccountView) → HaveSameNumbers (map (with_balances given) accounts) accounts
HaveSameNumbers-settled given [] = refl
HaveSameNumbers-settled given (account ∷ accounts) =
    rw (same_number account (amount_given given account.number), HaveSameNumbers-settled given accounts) refl

settled_is : (setup : Setup) (S : State) (added : AddedView) (account : AccountView) (found : Option Cents) → amount_given added.balances account.number ≡ found → AreGiven setup S added → account.balance ≡ record { 0 = balance setup S.entries account.number } → (with_amount account found).balance ≡ record { 0 = balance setup (S.entries ++ added.entries) (with_amount account found).number }
settled_is setup S added account None is given before =
    before ∙ ap (λ z. record { 0 = z }) (ap (λ (c : Option Cents). amount_or c (balance setup S.entries account.number)) (sym is) ∙ given account.number)
settled_is setup S added account (Some amount) is given before =
    ap (λ z. record { 0 = z }) (ap (λ (c : Option Cents). amount_or c (balance setup S.entries account.number)) (sym is) ∙ given account.number)

-- Where accounts have the balances of a state, those that are settled have the balances with what is added.
pub AreBalanced-settled : (setup : Setup) (S : State) (added : AddedView) (accounts : List AccountView) → AreGiven setup S added → AreBalanced setup S accounts → AreBalanced setup (with_added S added) (map (with_balances added.balances) accounts)
AreBalanced-settled setup S added [] given all = All-nil (λ (a : AccountView). a.balance ≡ record { 0 = balance setup (S.entries ++ added.entries) a.number })
AreBalanced-settled setup S added (account ∷ accounts) given all =
    let P : AccountView → Type 0 = λ a. a.balance ≡ record { 0 = balance setup S.entries a.number } in
    let Q : AccountView → Type 0 = λ a. a.balance ≡ record { 0 = balance setup (S.entries ++ added.entries) a.number } in
    All-cons Q (with_balances added.balances account) (map (with_balances added.balances) accounts)
    (settled_is setup S added account (amount_given added.balances account.number) refl given (All-head P account accounts all))
    (AreBalanced-settled setup S added accounts given (All-tail P account accounts all))
