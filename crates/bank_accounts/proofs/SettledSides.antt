-- The book's sides and the accounts that are held, while these are given their balances one after another.
use Rattle.std.proofs.Common.{◌≡◌, ℕ, zero, suc, ◌+◌, ◌<◌, List, [], ◌∷◌, ◌++◌, length, Option, None, Some, map, take, drop, set, get_or, refl, sym, ap, ◌∙◌, subst, arith}
use Rattle.std.specs.Prelude.{slice_get}
use Rattle.std.proofs.lemmas.List.{drop_more, get_or_at, length-map, length-take}
use Rattle.std.proofs.lemmas.List.Sums.{fold_more}
use Rattle.std.proofs.lemmas.Option.{same_Some}
use Rattle.ofx_types.specs.declared.number.Cents.{Cents}
use Rattle.bank_accounts.specs.AccountView.{AccountView, BookSideView, Tables}
use Rattle.bank_accounts.specs.BalancesView.{amount_given}
use Rattle.bank_accounts.specs.HeldAccounts.{with_balances}
use Rattle.bank_accounts.specs.Sides.{tables_in, IsOf, AreOf, with_side, with_sides}
use Rattle.bank_accounts.specs.declared.balances.Balance.{Balance}

tables_set : (sides : List BookSideView) (k : ℕ) (side : BookSideView) → slice_get (tables_in sides) k ≡ Some side.table → tables_in (set sides k side) ≡ tables_in sides
tables_set [] k side is = refl
tables_set (first ∷ sides) zero side is = ap (λ t. t ∷ tables_in sides) (sym (same_Some first.table side.table is))
tables_set (first ∷ sides) (suc k) side is = ap (λ (tables : Tables). first.table ∷ tables) (tables_set sides k side is)

-- Another balance at an account of the book leaves the tables.
pub tables_with : (sides : List BookSideView) (account : AccountView) (amount : Option Cents) → IsOf (tables_in sides) account → tables_in (with_side sides account amount) ≡ tables_in sides
tables_with sides account None own = refl
tables_with sides account (Some amount) own = tables_set sides account.number.0 (record { balance = amount; table = account.table }) own

-- The account that comes next is as it was.
pub next_account : (given : List Balance) (held items : List AccountView) (i : ℕ) (any : AccountView) → i < length held → items ≡ map (with_balances given) (take i held) ++ drop i held → get_or items i any ≡ get_or held i any
next_account given held items i any below so_far =
    let prefix : List AccountView = map (with_balances given) (take i held) in
    let long : length prefix ≡ i = length-map (take i held) (with_balances given) ∙ omega (arith, length-take i held) in
    ap (λ (l : List AccountView). get_or l i any) (so_far ∙ ap (λ (l : List AccountView). prefix ++ l) (drop_more held i any below)) ∙ get_or_at prefix _ _ any i long

pub own_next : (given : List Balance) (tables : Tables) (held items : List AccountView) (i : ℕ) (any : AccountView) → AreOf tables held → i < length held → items ≡ map (with_balances given) (take i held) ++ drop i held → IsOf tables (get_or items i any)
own_next given tables held items i any own below so_far = subst (IsOf tables) (sym (next_account given held items i any below so_far)) (own i any below)

-- One account more has its balance at the book's side.
pub sides_next : (given : List Balance) (sides now now' : List BookSideView) (held items : List AccountView) (i : ℕ) (any : AccountView) → i < length held → items ≡ map (with_balances given) (take i held) ++ drop i held → now ≡ with_sides given sides (take i held) → now' ≡ with_side now (get_or items i any) (amount_given given (get_or items i any).number) → now' ≡ with_sides given sides (take (i + 1) held)
sides_next given sides now now' held items i any below so_far before is =
    is
    ∙ ap (λ (s : List BookSideView). with_side s (get_or items i any) (amount_given given (get_or items i any).number)) before
    ∙ ap (λ (a : AccountView). with_side (with_sides given sides (take i held)) a (amount_given given a.number)) (next_account given held items i any below so_far)
    ∙ sym (fold_more (λ (s : List BookSideView) (a : AccountView). with_side s a (amount_given given a.number)) sides held i any below)
