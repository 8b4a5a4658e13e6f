-- The book's sides of the accounts: as the bank opens, where they are met, and after the step of an event.
use Rattle.std.proofs.Common.{◌≡◌, ◌↔◌, ◌⊎◌, inl, inr, ℕ, zero, suc, ◌<◌, List, [], ◌∷◌, ◌++◌, length, map, set, get_or, Option, None, Some, ℤ, pos, ◌≤ℤ◌, refl, sym, ap, ◌∙◌, subst, arith}
use Rattle.std.specs.Prelude.{slice_get}
use Rattle.std.specs.List.{All, Contains}
use Rattle.std.specs.Option.{IfSome}
use Rattle.std.proofs.lemmas.Bool.{cases_eq}
use Rattle.std.proofs.lemmas.Option.{slice_get_within, get_or_from_slice_get}
use Rattle.std.proofs.lemmas.List.{length-map, length-set, get_or-map, get_or-set_same, get_or-set_other}
use Rattle.std.proofs.lemmas.List.Elements.{All-weaker, All-contains, All-contains_itself}
use Rattle.ofx_types.specs.declared.number.AcctId.{AcctId}
use Rattle.ofx_types.specs.declared.number.Cents.{Cents}
use Rattle.ofx_types.specs.declared.number.Moment.{Moment}
use Rattle.bank_model.specs.declared.setup.Setup.{Setup}
use Rattle.bank_model.specs.declared.entry.Entry.{Entry}
use Rattle.bank_model.specs.declared.event.State.{State}
use Rattle.bank_model.specs.declared.event.Event.{Event}
use Rattle.bank_model.specs.SetupForm.{IsWithinLimits}
use Rattle.bank_model.specs.Ledger.{balance}
use Rattle.bank_model.specs.Rules.{named, opening_state, state_after}
use Rattle.bank_accounts.specs.AccountView.{AccountView, BookSideView, Tables}
use Rattle.bank_accounts.specs.BalancesView.{amount_given}
use Rattle.bank_accounts.specs.declared.balances.Balance.{Balance}
use Rattle.bank_accounts.specs.HeldAccounts.{IsHeld, AreHeld, with_amount, with_balances}
use Rattle.bank_accounts.specs.Sides.{tables_of, tables_in, IsOf, AreOf, side_of, AreMet, with_side, with_sides, AreNotNegative}
use Rattle.bank_invariants.specs.SoundStates.{IsSoundState}
use Rattle.bank_invariants.proofs.Named.{named_within}
use Rattle.bank_invariants.specs.Unnamed.{UnnamedStay}
use Rattle.bank_ledger.specs.Balanced.{AreBalanced}
use Rattle.bank_ledger.specs.DraftView.{AddedView, amount_or, AreGiven}
use Rattle.bank_core.specs.Opened.{AreOpened}
use Rattle.bank_core.specs.BookSides.{AreSidesOf}

same_number : (a b : AcctId) → a.0 ≡ b.0 → a ≡ b
same_number a b same = ap (λ (n : ℕ). record { 0 = n }) same

-- ---- as the bank opens

pub tables_opened : (accounts : List AccountView) (sides : List BookSideView) → sides ≡ map side_of accounts → tables_in sides ≡ tables_of accounts
tables_opened accounts sides is = ap tables_in is ∙ each accounts
  where
    each : (accounts : List AccountView) → tables_in (map side_of accounts) ≡ tables_of accounts
    each [] = refl
    each (account ∷ accounts) = ap (λ (tables : Tables). account.table ∷ tables) (each accounts)

pub sides_opened : (setup : Setup) (accounts : List AccountView) (sides : List BookSideView) → AreOpened setup accounts → sides ≡ map side_of accounts → AreSidesOf setup opening_state sides
sides_opened setup accounts sides opened is = subst (AreSidesOf setup opening_state) (sym is) record {
  count = length-map accounts side_of ∙ opened.count;
  balanced = λ number d within. by number d (omega (arith, within, length-map accounts side_of));
}
  where
    by : (number : AcctId) (d : BookSideView) → number.0 < length accounts → (get_or (map side_of accounts) number.0 d).balance ≡ record { 0 = balance setup opening_state.entries number }
    by number d within =
        let any : AccountView = record { number = number; balance = d.balance; table = d.table } in
        let same : (get_or accounts number.0 any).number ≡ number = same_number _ _ (opened.numbered number.0 any within) in
        ap (λ (side : BookSideView). side.balance) (get_or-map side_of accounts number.0 any d within)
        ∙ opened.balanced number.0 any within
        ∙ ap (λ (n : AcctId). record { 0 = balance setup opening_state.entries n }) same

-- ---- how many there are

-- There is a table for each account of the setup.
pub tables_count : (setup : Setup) (S : State) (sides : List BookSideView) → AreSidesOf setup S sides → length (tables_in sides) ≡ length setup.accounts
tables_count setup S sides own = length-map sides (λ (side : BookSideView). side.table) ∙ own.count

pub named_known : (setup : Setup) (S : State) (event : Event) (numbers : List AcctId) (count : ℕ) → count ≡ length setup.accounts → ((account : AcctId) → Contains numbers account ↔ Contains (named setup S event) (Some account)) → All (λ (number : AcctId). number.0 < count) numbers
named_known setup S event numbers count size only =
    All-weaker (Contains numbers) (λ (number : AcctId). number.0 < count)
    (λ number there. omega (arith, size, All-contains (λ (entry : Option AcctId). IfSome entry (λ (n : AcctId). n.0 < length setup.accounts)) (named setup S event) (Some number) (named_within setup S event) ((only number).0 there)))
    numbers (All-contains_itself numbers)

-- ---- where they are met

-- Accounts that are met have the balances of the state.
pub met_balanced : (setup : Setup) (S : State) (sides : List BookSideView) (held : List AccountView) → AreSidesOf setup S sides → AreMet sides held → AreBalanced setup S held
met_balanced setup S sides held own met k d within =
    let account : AccountView = get_or held k d in
    let found : slice_get sides account.number.0 ≡ Some (side_of account) = met k d within in
    let side : get_or sides account.number.0 (side_of account) ≡ side_of account = get_or_from_slice_get sides account.number.0 (side_of account) (side_of account) found in
    ap (λ (s : BookSideView). s.balance) (sym side)
    ∙ own.balanced account.number (side_of account) (slice_get_within sides account.number.0 (side_of account) found)

-- ---- after the step of an event

same_own : (tables : Tables) (account : AccountView) (amount : Option Cents) → IsOf tables account → IsOf tables (with_amount account amount)
same_own tables account None own = own
same_own tables account (Some amount) own = own

-- Accounts with other balances are still of the book.
pub own_settled : (tables : Tables) (given : List Balance) (held : List AccountView) → AreOf tables held → AreOf tables (map (with_balances given) held)
own_settled tables given held own k d within =
    let there : k < length held = omega (arith, within, length-map held (with_balances given)) in
    subst (IsOf tables) (sym (get_or-map (with_balances given) held k d d there))
    (same_own tables (get_or held k d) (amount_given given (get_or held k d).number) (own k d there))

-- What accounts come to isn't negative, since what the event leaves is sound.
pub not_negative : (setup : Setup) (S after : State) (added : AddedView) → AreGiven setup S added → after.entries ≡ S.entries ++ added.entries → IsSoundState setup after → AreNotNegative added.balances
not_negative setup S after added given entries sound account = by (amount_given added.balances account) refl
  where
    by : (found : Option Cents) → amount_given added.balances account ≡ found → IfSome found (λ (amount : Cents). pos 0 ≤ℤ amount.0)
    by None is = tt
    by (Some amount) is =
        subst (λ (z : ℤ). pos 0 ≤ℤ z)
        (ap (λ (es : List Entry). balance setup es account) entries
        ∙ sym (given account)
        ∙ ap (λ (c : Option Cents). amount_or c (balance setup S.entries account)) is)
        (sound.covered account)

module _ (before after : AcctId → ℤ) (given : List Balance) (settled : (number : AcctId) → amount_or (amount_given given number) (before number) ≡ after number) where
  -- A side has the balance afterwards. Or it has the one before, and unless its account is among the rest, both are the same.
  abbrev IsComing : List AccountView → AcctId → Cents → Type 0
  IsComing rest number amount =
      (amount ≡ record { 0 = after number })
      ⊎ ((amount ≡ record { 0 = before number }) × ((IsHeld rest number → ⊥) → before number ≡ after number))

  abbrev AreComing : List BookSideView → List AccountView → Type 0
  AreComing sides rest = (number : AcctId) (d : BookSideView) → number.0 < length sides → IsComing rest number (get_or sides number.0 d).balance

  -- an account that isn't the first one is among the rest
  in_rest : (account : AccountView) (rest : List AccountView) (number : AcctId) → (number.0 ≡ account.number.0 → ⊥) → IsHeld (account ∷ rest) number → IsHeld rest number
  in_rest account rest number ne (zero, within, is) = absurd (ne (ap (λ (n : AcctId). n.0) (sym is)))
  in_rest account rest number ne (suc k, within, is) = (k, omega (arith, within), is)

  later : (account : AccountView) (rest : List AccountView) (number : AcctId) (amount : Cents) → (number.0 ≡ account.number.0 → ⊥) → IsComing (account ∷ rest) number amount → IsComing rest number amount
  later account rest number amount ne (inl done) = inl done
  later account rest number amount ne (inr waits) = inr (waits.0, λ free. waits.1 (λ h. free (in_rest account rest number ne h)))

  one_set : (sides : List BookSideView) (account : AccountView) (rest : List AccountView) (amount : Option Cents) → amount_given given account.number ≡ amount → AreComing sides (account ∷ rest) → AreComing (with_side sides account amount) rest
  one_set sides account rest None none coming number d within = by (cases_eq number.0 account.number.0) (coming number d within)
    where
      stays : number.0 ≡ account.number.0 → before number ≡ after number
      stays same =
          subst (λ (n : AcctId). before n ≡ after n) (same_number account.number number (sym same))
          (ap (λ (c : Option Cents). amount_or c (before account.number)) (sym none) ∙ settled account.number)

      by : (number.0 ≡ account.number.0) ⊎ (number.0 ≡ account.number.0 → ⊥) → IsComing (account ∷ rest) number (get_or sides number.0 d).balance → IsComing rest number (get_or sides number.0 d).balance
      by (inl same) (inl done) = inl done
      by (inl same) (inr waits) = inl (waits.0 ∙ ap (λ (z : ℤ). record { 0 = z }) (stays same))
      by (inr ne) now = later account rest number (get_or sides number.0 d).balance ne now
  one_set sides account rest (Some amount) some coming number d within = by (cases_eq number.0 account.number.0)
    where
      side : BookSideView
      side = record { balance = amount; table = account.table }

      there : number.0 < length sides
      there = omega (arith, within, length-set sides account.number.0 side)

      amount_is : amount ≡ record { 0 = after account.number }
      amount_is = ap (λ (z : ℤ). record { 0 = z }) (ap (λ (c : Option Cents). amount_or c (before account.number)) (sym some) ∙ settled account.number)

      by : (number.0 ≡ account.number.0) ⊎ (number.0 ≡ account.number.0 → ⊥) → IsComing rest number (get_or (set sides account.number.0 side) number.0 d).balance
      by (inl same) =
          inl (
          ap (λ (n : ℕ). (get_or (set sides account.number.0 side) n d).balance) same
          ∙ ap (λ (s : BookSideView). s.balance) (get_or-set_same sides account.number.0 side d (subst (λ (n : ℕ). n < length sides) same there))
          ∙ amount_is
          ∙ ap (λ (n : AcctId). record { 0 = after n }) (same_number account.number number (sym same)))
      by (inr ne) =
          subst (λ (s : BookSideView). IsComing rest number s.balance) (sym (get_or-set_other sides account.number.0 number.0 side d ne))
          (later account rest number (get_or sides number.0 d).balance ne (coming number d there))

  all_set : (accounts : List AccountView) (sides : List BookSideView) → AreComing sides accounts → AreComing (with_sides given sides accounts) []
  all_set [] sides coming = coming
  all_set (account ∷ accounts) sides coming =
      all_set accounts (with_side sides account (amount_given given account.number)) (one_set sides account accounts (amount_given given account.number) refl coming)

  pub came : (accounts : List AccountView) (sides : List BookSideView) → AreComing sides accounts → (number : AcctId) (d : BookSideView) → number.0 < length (with_sides given sides accounts) → (get_or (with_sides given sides accounts) number.0 d).balance ≡ record { 0 = after number }
  came accounts sides coming number d within = by (all_set accounts sides coming number d within)
    where
      by : IsComing [] number (get_or (with_sides given sides accounts) number.0 d).balance → (get_or (with_sides given sides accounts) number.0 d).balance ≡ record { 0 = after number }
      by (inl done) = done
      by (inr waits) = waits.0 ∙ ap (λ (z : ℤ). record { 0 = z }) (waits.1 (λ h. omega arith))

-- The sides of the accounts that the event names have the balances that these come to. All others have what they had, and so have
-- their accounts.
pub sides_after : (setup : Setup) (S after : State) (event : Event) (added : AddedView) (sides sides' : List BookSideView) (held : List AccountView) → UnnamedStay → IsWithinLimits setup → AreGiven setup S added → (at : Moment) × (after ≡ state_after setup S at event) → after.entries ≡ S.entries ++ added.entries → AreHeld held (named setup S event) → AreSidesOf setup S sides → sides' ≡ with_sides added.balances sides held → tables_in sides' ≡ tables_in sides → AreSidesOf setup after sides'
sides_after setup S after event added sides sides' held unnamed within given step entries names own is tables = record {
  count = size ∙ own.count;
  balanced = λ number d near. all number d near;
}
  where
    size : length sides' ≡ length sides
    size = sym (length-map sides' (λ (side : BookSideView). side.table)) ∙ ap length tables ∙ length-map sides (λ (side : BookSideView). side.table)

    was : AcctId → ℤ
    was number = balance setup S.entries number

    is_now : AcctId → ℤ
    is_now number = balance setup after.entries number

    settled : (number : AcctId) → amount_or (amount_given added.balances number) (was number) ≡ is_now number
    settled number = given number ∙ ap (λ (es : List Entry). balance setup es number) (sym entries)

    stays : (number : AcctId) → (IsHeld held number → ⊥) → was number ≡ is_now number
    stays number free =
        sym (ap (λ (T : State). balance setup T.entries number) step.1
        ∙ unnamed setup S step.0 event number within
        (λ there. free (All-contains (λ (entry : Option AcctId). IfSome entry (IsHeld held)) (named setup S event) (Some number) names there)))

    all : (number : AcctId) (d : BookSideView) → number.0 < length sides' → (get_or sides' number.0 d).balance ≡ record { 0 = balance setup after.entries number }
    all number d near =
        ap (λ (l : List BookSideView). (get_or l number.0 d).balance) is
        ∙ came was is_now added.balances settled held sides (λ n e there. inr (own.balanced n e there, stays n)) number d (subst (λ (l : List BookSideView). number.0 < length l) is near)
