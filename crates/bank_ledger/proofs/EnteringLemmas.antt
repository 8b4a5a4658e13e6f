-- What holds where an entry is entered in a draft.
use Rattle.std.proofs.Common.{◌≡◌, ◌≢◌, ℕ, ◌+◌, ◌≤◌, Bool, true, false, cond, eqb, fold, List, [], ◌∷◌, ◌++◌, length, map, reverse, append_assoc, Option, None, Some, ℤ, pos, ◌+ℤ◌, ◌-ℤ◌, ◌≤ℤ◌, refl, sym, ap, ◌∙◌, subst, arith}
use Rattle.std.specs.List.{All, AllByRecursion, find}
use Rattle.std.specs.Option.{IfSome, option_map}
use Rattle.std.proofs.lemmas.Bool.{eqb-true, eq-eqb, false_from_ne_true, true≢false}
use Rattle.std.proofs.lemmas.Int.{ints}
use Rattle.std.proofs.lemmas.List.{append-nil, reverse-append}
use Rattle.std.proofs.lemmas.List.Elements.{All-head, All-tail}
use Rattle.ofx_types.specs.AccountForm.{same_account}
use Rattle.ofx_types.specs.declared.number.AcctId.{AcctId}
use Rattle.ofx_types.specs.declared.number.Cents.{Cents}
use Rattle.ofx_types.specs.declared.transfer.TransferRow.{TransferRow}
use Rattle.ofx_types.specs.declared.transfer.XferCode.TheVariants.{Cancelled}
use Rattle.ofx_types.specs.declared.transfer.Change.{Change}
use Rattle.ofx_types.specs.declared.transfer.Change.TheVariants.{NewTransfer, SetTransfer, DropTransfer, NewModel, SetModel, DropModel, NewMail}
use Rattle.ofx_types.specs.Calendar.{IsDay, IsMoment}
use Rattle.ofx_types.specs.declared.recurring.ModelRow.{ModelRow}
use Rattle.bank_model.specs.declared.entry.Entry.{Entry}
use Rattle.bank_model.specs.declared.setup.Setup.{Setup}
use Rattle.bank_model.specs.declared.event.State.{State}
use Rattle.bank_model.specs.SetupForm.{IsWithinLimits}
use Rattle.bank_model.specs.SetupLookups.{account_of, line_at}
use Rattle.bank_model.specs.Ledger.{row_in, if_named, or_before, last_row, is_dropped, with_code, row_of, is_posted, posting_of, balance}
use Rattle.bank_model.proofs.SetupWords.{some_is}
use Rattle.bank_transfers.specs.TransfersView.{GivesRow, IsWithinAmounts}
use Rattle.bank_transfers.proofs.RepresentsLemmas.{given_posting}
use Rattle.bank_accounts.specs.AccountView.{AccountView}
use Rattle.bank_accounts.specs.BalancesView.{amount_given}
use Rattle.bank_accounts.specs.HeldAccounts.{balance_held}
use Rattle.bank_accounts.specs.declared.balances.Balance.{Balance}
use Rattle.bank_model.specs.Models.{model_in}
use Rattle.bank_model.specs.Once.{is_used}
use Rattle.bank_model.specs.declared.once.UsedPair.{UsedPair}
use Rattle.bank_recur.specs.ModelsView.{GivesModel}
use Rattle.once_records.specs.RecordsView.{UsedOnce}
use Rattle.once_records.proofs.OnceLemmas.{UsedOnce-push}
use Rattle.ofx_types.specs.declared.number.Day.{Day}
use Rattle.ofx_types.specs.declared.number.Moment.{Moment}
use Rattle.ofx_types.specs.declared.number.UserId.{UserId}
use Rattle.bank_invariants.specs.SoundStates.{IsSoundRow, IsSoundModel, HasSoundRow, IsSoundState}
use Rattle.bank_invariants.specs.Next.{IsNext}
use Rattle.bank_invariants.proofs.AccountIndices.{line_of-account}
use Rattle.bank_invariants.proofs.LedgerSteps.{Posts, PostsNothing, balance-kept}
use Rattle.bank_invariants.proofs.SoundStateLemmas.{sound_more}
use Rattle.bank_invariants.proofs.MoneyLemmas.{shift, balance-moved, balance-most}
use Rattle.bank_ledger.specs.declared.row_change.RowChange.{RowChange}
use Rattle.bank_ledger.specs.declared.row_change.RowChange.TheVariants.{Row, Made, Model, NoModel, Mail}
use Rattle.bank_ledger.specs.Balanced.{AreBalanced}
use Rattle.bank_ledger.specs.Changes.{row_given_by, GivesRows, IsKnown}
use Rattle.bank_ledger.specs.DraftView.{AddedView, pair_of, with_added, amount_or, AreGiven, IsDraft}
use Rattle.bank_ledger.proofs.StateParts.{uids_more}
use Rattle.bank_ledger.proofs.GivenLemmas.{model_given, model_dropped, no_row, mail_apart}
use Rattle.bank_ledger.proofs.PostingLemmas.{posting_is}
use Rattle.bank_ledger.proofs.DraftLemmas.{nothing_added, with_entry, uid_added, IsAdded-none, IsAdded-entry, IsAdded-uid}
use Rattle.bank_model.proofs.AccountNames.{same_account-self, same_number}

-- ---- rows that entries give

sound_given : (setup : Setup) (entries : List Entry) (change : Change) (row : TransferRow) → GivesRow entries change row → IfSome (row_in change) (IsSoundRow setup) → is_posted row.code ≡ true → IsSoundRow setup row
sound_given setup entries (NewTransfer given) row gives sound posted = subst (IsSoundRow setup) gives.0.0 sound
sound_given setup entries (SetTransfer given) row gives sound posted = subst (IsSoundRow setup) gives.0.0 sound
sound_given setup entries (NewModel given) row gives sound posted = absurd gives
sound_given setup entries (SetModel given pending) row gives sound posted = absurd gives
sound_given setup entries (DropModel id pending) row gives sound posted = absurd gives
sound_given setup entries (NewMail mail) row gives sound posted = absurd gives
sound_given setup entries (DropTransfer id) row gives sound posted = absurd (unposted (row_of id entries) row gives posted)
  where
    unposted : (found : Option TransferRow) (row : TransferRow) → option_map (with_code Cancelled) found ≡ Some row → is_posted row.code ≡ true → ⊥
    unposted None row is here = cc
    unposted (Some found) row is here =
        let e : with_code Cancelled found ≡ row = cc in
        let no : is_posted row.code ≡ false = sym (ap (λ (r : TransferRow). is_posted r.code) e) in
        cc

-- The row that an entry gives next is sound where it is posted.
pub IsSoundRow-next : (setup : Setup) (S : State) (entry : Entry) (row : TransferRow) → IsNext setup S entry → GivesRows S.entries entry.change (Row row) → is_posted row.code ≡ true → IsSoundRow setup row
IsSoundRow-next setup S entry row next gives posted = sound_given setup S.entries entry.change row gives.0 next.sound posted

abbrev AmountKnown : Option TransferRow → Type 0
AmountKnown row = IfSome row IsWithinAmounts

known_named : (row : TransferRow) (b : Bool) → IsWithinAmounts row → AmountKnown (cond b (Some row) None)
known_named row true known = known
known_named row false known = tt

known_in : (setup : Setup) (id : ℕ) (row : Option TransferRow) → IfSome row (IsSoundRow setup) → AmountKnown (if_named id row)
known_in setup id None sound = tt
known_in setup id (Some row) sound = known_named row (eqb row.id id) sound.amount

known_later : (before row : Option TransferRow) → AmountKnown before → AmountKnown row → AmountKnown (or_before before row)
known_later before None first second = first
known_later before (Some row) first second = second

known_fold : (setup : Setup) (id : ℕ) (before : Option TransferRow) (entries : List Entry) → AllByRecursion (HasSoundRow setup) entries → AmountKnown before → AmountKnown (fold (λ (row : Option TransferRow) (entry : Entry). or_before row (if_named id (row_in entry.change))) before entries)
known_fold setup id before [] sound known = known
known_fold setup id before (entry ∷ entries) sound known =
    known_fold setup id (or_before before (if_named id (row_in entry.change))) entries sound.1
    (known_later before (if_named id (row_in entry.change)) known (known_in setup id (row_in entry.change) sound.0))

amount_coded : (dropped : Bool) (last : Option TransferRow) (row : TransferRow) → AmountKnown last → option_map (with_code Cancelled) (option_map (λ (found : TransferRow). cond dropped (with_code Cancelled found) found) last) ≡ Some row → IsWithinAmounts row
amount_coded dropped None row known is = cc
amount_coded true (Some last) row known is =
    let e : with_code Cancelled (with_code Cancelled last) ≡ row = cc in subst IsWithinAmounts e known
amount_coded false (Some last) row known is =
    let e : with_code Cancelled last ≡ row = cc in subst IsWithinAmounts e known

amount_dropped : (setup : Setup) (id : ℕ) (entries : List Entry) (row : TransferRow) → AllByRecursion (HasSoundRow setup) entries → option_map (with_code Cancelled) (row_of id entries) ≡ Some row → IsWithinAmounts row
unfolding row_of last_row
amount_dropped setup id entries row sound is =
    amount_coded (is_dropped id entries) (last_row id entries) row (known_fold setup id None entries sound tt) is

amount_known : (setup : Setup) (entries : List Entry) (change : Change) (row : TransferRow) → AllByRecursion (HasSoundRow setup) entries → GivesRow entries change row → IfSome (row_in change) (IsSoundRow setup) → IsWithinAmounts row
amount_known setup entries (NewTransfer given) row rows gives sound = subst IsWithinAmounts gives.0.0 sound.amount
amount_known setup entries (SetTransfer given) row rows gives sound = subst IsWithinAmounts gives.0.0 sound.amount
amount_known setup entries (DropTransfer id) row rows gives sound = amount_dropped setup id entries row rows gives
amount_known setup entries (NewModel given) row rows gives sound = absurd gives
amount_known setup entries (SetModel given pending) row rows gives sound = absurd gives
amount_known setup entries (DropModel id pending) row rows gives sound = absurd gives
amount_known setup entries (NewMail mail) row rows gives sound = absurd gives

first_given : (setup : Setup) (entries : List Entry) (change : Change) (row : ModelRow) → GivesModel entries change row → IfSome (model_in change) (IsSoundModel setup) → IsDay row.first.0
first_given setup entries (NewTransfer given) row gives sound = absurd gives
first_given setup entries (SetTransfer given) row gives sound = absurd gives
first_given setup entries (DropTransfer id) row gives sound = absurd gives
first_given setup entries (NewModel given) row gives sound = subst (λ (r : ModelRow). IsDay r.first.0) gives.0 sound.first
first_given setup entries (SetModel given pending) row gives sound = subst (λ (r : ModelRow). IsDay r.first.0) gives.0 sound.first
first_given setup entries (DropModel id pending) row gives sound = absurd gives
first_given setup entries (NewMail mail) row gives sound = absurd gives

-- What an entry gives next is within the bounds.
pub IsKnown-next : (setup : Setup) (S : State) (entry : Entry) (row_change : RowChange) → IsSoundState setup S → IsNext setup S entry → GivesRows S.entries entry.change row_change → IsKnown row_change
IsKnown-next setup S entry (Row row) sound next gives = amount_known setup S.entries entry.change row sound.rows gives.0 next.sound
IsKnown-next setup S entry (Made row) sound next gives = amount_known setup S.entries entry.change row sound.rows gives.0 next.sound
IsKnown-next setup S entry (Model row) sound next gives = first_given setup S.entries entry.change row gives next.sound_model
IsKnown-next setup S entry (NoModel id) sound next gives = tt
IsKnown-next setup S entry Mail sound next gives = tt

-- What an entry posts next is what it gives.
pub change_posts : (entries : List Entry) (entry : Entry) (row_change : RowChange) → GivesRows entries entry.change row_change → posting_of entry.number (row_in entry.change) ≡ posting_of entry.number (row_given_by row_change)
change_posts entries entry (Row row) gives = sym (given_posting entry.number entries entry.change row gives.0)
change_posts entries entry (Made row) gives = sym (given_posting entry.number entries entry.change row gives.0)
change_posts entries entry (Model row) gives = ap (posting_of entry.number) (no_row entry.change (model_given entries entry.change row gives))
change_posts entries entry (NoModel id) gives = ap (posting_of entry.number) (no_row entry.change (model_dropped entries entry.change id gives))
change_posts entries entry Mail gives = ap (posting_of entry.number) (no_row entry.change (mail_apart entry.change gives))

-- An entry whose row isn't posted posts nothing.
pub posts_nothing : (entries : List Entry) (entry : Entry) (row : TransferRow) → GivesRows entries entry.change (Row row) → is_posted row.code ≡ false → PostsNothing entry
posts_nothing entries entry row gives waits = change_posts entries entry (Row row) gives ∙ ap (λ (b : Bool). cond b (record { number = entry.number; row = row } ∷ []) []) waits

-- ---- the money of a posted row

-- What holds of the two balances between which a row moves money.
pub record IsPayable (amount source destination : ℤ) : Type 0 where
  pub positive : pos 0 ≤ℤ amount
  pub covered : amount ≤ℤ source
  pub target : pos 0 ≤ℤ destination
  pub most : (destination +ℤ amount) ≤ℤ pos 9999999999999

apart_occurrences : (setup : Setup) (row : TransferRow) (from to : AcctId) → IsSoundRow setup row → account_of setup row.from ≡ Some from → account_of setup row.to ≡ Some to → from.0 ≢ to.0
apart_occurrences setup row from to sound source target same =
    let one : from ≡ to = ap (λ (n : ℕ). record { 0 = n }) same in
    let first = line_of-account setup row.from from source in
    let second = line_of-account setup row.to to target in
    let lines : Some first.0 ≡ Some second.0 = sym first.1 ∙ ap (line_at setup) one ∙ second.1 in
    let line : first.0 ≡ second.0 = some_is first.0 second.0 lines in
    let names : row.to ≡ row.from = sym second.2 ∙ ap (λ l. l.name) (sym line) ∙ first.2 in
    true≢false (sym (ap (same_account row.to) (sym names) ∙ same_account-self row.to) ∙ sound.apart)

posts_row : (entries : List Entry) (entry : Entry) (row : TransferRow) → GivesRows entries entry.change (Row row) → is_posted row.code ≡ true → Posts entry row
posts_row entries entry row gives posted = change_posts entries entry (Row row) gives ∙ posting_is entry.number row posted

shift_from : (amount : ℤ) (from to : AcctId) → from.0 ≢ to.0 → shift amount from to from ≡ pos 0 -ℤ amount
shift_from amount from to apart =
    rw (false_from_ne_true (eqb from.0 to.0) (λ same. apart (eqb-true from.0 to.0 same)), eq-eqb from.0 from.0 refl) refl

shift_to : (amount : ℤ) (from to : AcctId) → from.0 ≢ to.0 → shift amount from to to ≡ amount -ℤ pos 0
shift_to amount from to apart =
    rw (eq-eqb to.0 to.0 refl, false_from_ne_true (eqb to.0 from.0) (λ same. apart (sym (eqb-true to.0 from.0 same)))) refl

pub IsPayable-next : (setup : Setup) (S : State) (entry : Entry) (row : TransferRow) (from to : AcctId) → IsWithinLimits setup → IsSoundState setup S → length S.entries + 1 ≤ setup.entries → IsNext setup S entry → GivesRows S.entries entry.change (Row row) → is_posted row.code ≡ true → account_of setup row.from ≡ Some from → account_of setup row.to ≡ Some to → IsPayable row.amount.0 (balance setup S.entries from) (balance setup S.entries to)
IsPayable-next setup S entry row from to within sound few next gives posted source target =
    let good = IsSoundRow-next setup S entry row next gives posted in
    let posts = posts_row S.entries entry row gives posted in
    let apart = apart_occurrences setup row from to good source target in
    let after : IsSoundState setup (record S { entries = S.entries ++ entry ∷ [] }) = sound_more setup S entry S.used sound next few sound in
    let after_from = next.covered from in
    let moved_from = balance-moved setup S.entries entry row from to from within posts source target ∙ ap (λ (z : ℤ). balance setup S.entries from +ℤ z) (shift_from row.amount.0 from to apart) in
    let moved_to = balance-moved setup S.entries entry row from to to within posts source target ∙ ap (λ (z : ℤ). balance setup S.entries to +ℤ z) (shift_to row.amount.0 from to apart) in
    let most_to = balance-most setup (record S { entries = S.entries ++ entry ∷ [] }) to within after in
    let here = sound.covered to in
    record {
      positive = good.not_negative;
      covered = omega (arith, ints);
      target = here;
      most = omega (arith, ints);
    }

-- ---- balances that are held

abbrev HaveBalances : Setup → List Entry → List AccountView → Type 0
HaveBalances setup entries accounts = All (λ (account : AccountView). account.balance ≡ record { 0 = balance setup entries account.number }) accounts

abbrev amount_of : AccountView → Cents
amount_of account = account.balance

balanced_first : (setup : Setup) (entries : List Entry) (number : AcctId) (amount : Cents) (account : AccountView) (rest : Option AccountView) (b : Bool) → (b ≡ true → account.number ≡ number) → account.balance ≡ record { 0 = balance setup entries account.number } → (option_map amount_of rest ≡ Some amount → amount ≡ record { 0 = balance setup entries number }) → option_map amount_of (cond b (Some account) rest) ≡ Some amount → amount ≡ record { 0 = balance setup entries number }
balanced_first setup entries number amount account rest true same here later found =
    let is : account.number ≡ number = same refl in
    let moved : account.balance ≡ record { 0 = balance setup entries number } = rw is at here in
    let one : account.balance ≡ amount = cc in
    sym one ∙ moved
balanced_first setup entries number amount account rest false same here later found = later found

-- what is found has the balance of the state
pub balance_held-balanced : (setup : Setup) (entries : List Entry) (accounts : List AccountView) (number : AcctId) (amount : Cents) → HaveBalances setup entries accounts → balance_held accounts number ≡ Some amount → amount ≡ record { 0 = balance setup entries number }
balance_held-balanced setup entries [] number amount balanced found = cc
balance_held-balanced setup entries (account ∷ accounts) number amount balanced found =
    let id_of : ℕ → AcctId = λ n. record { 0 = n } in
    let P : AccountView → Type 0 = λ held. held.balance ≡ record { 0 = balance setup entries held.number } in
    balanced_first setup entries number amount account
    (find (λ (held : AccountView). eqb held.number.0 number.0) accounts)
    (eqb account.number.0 number.0)
    (λ same. ap id_of (eqb-true account.number.0 number.0 same))
    (All-head P account accounts balanced)
    (balance_held-balanced setup entries accounts number amount (All-tail P account accounts balanced))
    found

-- an account that is held has the balance of the state
pub balance_before-is : (setup : Setup) (S : State) (added : AddedView) (accounts : List AccountView) (account : AcctId) (amount : Cents) → AreBalanced setup S accounts → AreGiven setup S added → balance_held accounts account ≡ Some amount → amount_given added.balances account ≡ None → amount.0 ≡ balance setup (S.entries ++ added.entries) account
balance_before-is setup S added accounts account amount balanced given found none =
    ap (λ (c : Cents). c.0) (balance_held-balanced setup S.entries accounts account amount balanced found)
    ∙ ap (λ (c : Option Cents). amount_or c (balance setup S.entries account)) (sym none)
    ∙ given account

-- an account that came to another balance has it
pub balance_given-is : (setup : Setup) (S : State) (added : AddedView) (account : AcctId) (amount : Cents) → AreGiven setup S added → amount_given added.balances account ≡ Some amount → amount.0 ≡ balance setup (S.entries ++ added.entries) account
balance_given-is setup S added account amount given found =
    ap (λ (c : Option Cents). amount_or c (balance setup S.entries account)) (sym found) ∙ given account

-- ---- the draft after it

regrouped : (setup : Setup) (S : State) (added : AddedView) (entry : Entry) (used : List UsedPair) → IsSoundState setup (record S { entries = (S.entries ++ added.entries) ++ entry ∷ []; used = used; day = added.day }) → IsSoundState setup (record S { entries = S.entries ++ (added.entries ++ entry ∷ []); used = used; day = added.day })
regrouped setup S added entry used sound =
    subst (λ (l : List Entry). IsSoundState setup (record S { entries = l; used = used; day = added.day })) (append_assoc S.entries added.entries (entry ∷ [])) sound

sound_entered : (setup : Setup) (S : State) (added : AddedView) (entry : Entry) → IsSoundState setup (with_added S added) → length (with_added S added).entries + 1 ≤ setup.entries → IsNext setup (with_added S added) entry → IsSoundState setup (record S { entries = S.entries ++ (added.entries ++ entry ∷ []); used = (with_added S added).used; day = added.day })
sound_entered setup S added entry sound few next =
    regrouped setup S added entry (with_added S added).used (sound_more setup (with_added S added) entry (with_added S added).used sound next few sound)

-- An entry that posts nothing leaves a draft.
pub IsDraft-nothing : (setup : Setup) (S : State) (held : List AccountView) (added : AddedView) (entry : Entry) (row_change : RowChange) → IsDraft setup S held added → length (with_added S added).entries + 1 ≤ setup.entries → IsNext setup (with_added S added) entry → GivesRows (with_added S added).entries entry.change row_change → PostsNothing entry → IsDraft setup S held (with_entry added entry row_change added.balances)
IsDraft-nothing setup S held added entry row_change is few next gives nothing = record {
  within = is.within;
  moment = is.moment;
  sound = sound_entered setup S added entry is.sound few next;
  balanced = is.balanced;
  rows_added = IsAdded-entry S added entry row_change added.balances is.rows_added next.number gives (IsKnown-next setup (with_added S added) entry row_change is.sound next gives);
  balances_given = λ account.
      is.balances_given account
      ∙ sym (balance-kept setup (S.entries ++ added.entries) entry account nothing)
      ∙ ap (λ (l : List Entry). balance setup l account) (append_assoc S.entries added.entries (entry ∷ []));
}

map_cond : (b : Bool) (balance : Balance) (rest : Option Balance) → option_map (λ (found : Balance). found.amount) (cond b (Some balance) rest) ≡ cond b (Some balance.amount) (option_map (λ (found : Balance). found.amount) rest)
map_cond true balance rest = refl
map_cond false balance rest = refl

amount_given-push : (given : List Balance) (balance : Balance) (account : AcctId) → amount_given (given ++ balance ∷ []) account ≡ cond (eqb account.0 balance.account.0) (Some balance.amount) (amount_given given account)
amount_given-push given balance account =
    ap (λ (l : List Balance). option_map (λ (found : Balance). found.amount) (find (λ (other : Balance). eqb account.0 other.account.0) l)) (reverse-append given (balance ∷ []))
    ∙ map_cond (eqb account.0 balance.account.0) balance (find (λ (other : Balance). eqb account.0 other.account.0) (reverse given))

amount_moved : (into out : Bool) (found : Option Cents) (first before amount source target : ℤ) (less more : Cents) → amount_or found first ≡ before → (out ≡ true → before ≡ source) → (into ≡ true → before ≡ target) → (into ≡ true → out ≡ true → ⊥) → less.0 ≡ source -ℤ amount → more.0 ≡ target +ℤ amount → amount_or (cond into (Some more) (cond out (Some less) found)) first ≡ before +ℤ (cond into amount (pos 0) -ℤ cond out amount (pos 0))
amount_moved true true found first before amount source target less more is from to apart is_less is_more = absurd (apart refl refl)
amount_moved true false found first before amount source target less more is from to apart is_less is_more = let same : before ≡ target = to refl in omega (arith, ints)
amount_moved false true found first before amount source target less more is from to apart is_less is_more = let same : before ≡ source = from refl in omega (arith, ints)
amount_moved false false found first before amount source target less more is from to apart is_less is_more = is ∙ omega (arith, ints)

-- Each account has the balance that a posting makes.
AreGiven-posted : (setup : Setup) (S : State) (added : AddedView) (entry : Entry) (row : TransferRow) (from to : AcctId) (less more : Cents) → IsWithinLimits setup → Posts entry row → account_of setup row.from ≡ Some from → account_of setup row.to ≡ Some to → from.0 ≢ to.0 → less.0 ≡ balance setup (S.entries ++ added.entries) from -ℤ row.amount.0 → more.0 ≡ balance setup (S.entries ++ added.entries) to +ℤ row.amount.0 → AreGiven setup S added → (account : AcctId) → amount_or (amount_given ((added.balances ++ record { account = from; amount = less } ∷ []) ++ record { account = to; amount = more } ∷ []) account) (balance setup S.entries account) ≡ balance setup (S.entries ++ (added.entries ++ entry ∷ [])) account
AreGiven-posted setup S added entry row from to less more within posts source target apart is_less is_more given account =
    let entries : List Entry = S.entries ++ added.entries in
    let first : Balance = record { account = from; amount = less } in
    let second : Balance = record { account = to; amount = more } in
    let found = amount_given-push (added.balances ++ first ∷ []) second account ∙ ap (λ (c : Option Cents). cond (eqb account.0 to.0) (Some more) c) (amount_given-push added.balances first account) in
    let same_as : (other : AcctId) → eqb account.0 other.0 ≡ true → balance setup entries account ≡ balance setup entries other =
    (λ other equal. ap (balance setup entries) (same_number account other (eqb-true account.0 other.0 equal))) in
    let never : eqb account.0 to.0 ≡ true → eqb account.0 from.0 ≡ true → ⊥ =
    (λ into out. apart (sym (eqb-true account.0 from.0 out) ∙ eqb-true account.0 to.0 into)) in
    ap (λ (c : Option Cents). amount_or c (balance setup S.entries account)) found
    ∙ amount_moved (eqb account.0 to.0) (eqb account.0 from.0) (amount_given added.balances account) (balance setup S.entries account) (balance setup entries account) row.amount.0 (balance setup entries from) (balance setup entries to) less more (given account) (same_as from) (same_as to) never is_less is_more
    ∙ sym (balance-moved setup entries entry row from to account within posts source target)
    ∙ ap (λ (l : List Entry). balance setup l account) (append_assoc S.entries added.entries (entry ∷ []))

-- An entry that posts a row leaves a draft, with the balances that its accounts come to.
pub IsDraft-posted : (setup : Setup) (S : State) (held : List AccountView) (added : AddedView) (entry : Entry) (row : TransferRow) (from to : AcctId) (less more : Cents) → IsDraft setup S held added → length (with_added S added).entries + 1 ≤ setup.entries → IsNext setup (with_added S added) entry → GivesRows (with_added S added).entries entry.change (Row row) → is_posted row.code ≡ true → account_of setup row.from ≡ Some from → account_of setup row.to ≡ Some to → less.0 ≡ balance setup (S.entries ++ added.entries) from -ℤ row.amount.0 → more.0 ≡ balance setup (S.entries ++ added.entries) to +ℤ row.amount.0 → IsDraft setup S held (with_entry added entry (Row row) ((added.balances ++ record { account = from; amount = less } ∷ []) ++ record { account = to; amount = more } ∷ []))
IsDraft-posted setup S held added entry row from to less more is few next gives posted source target is_less is_more =
    let posts = posts_row (with_added S added).entries entry row gives posted in
    let good = IsSoundRow-next setup (with_added S added) entry row next gives posted in
    let apart = apart_occurrences setup row from to good source target in
    record {
      within = is.within;
      moment = is.moment;
      sound = sound_entered setup S added entry is.sound few next;
      balanced = is.balanced;
      rows_added = IsAdded-entry S added entry (Row row) _ is.rows_added next.number gives (IsKnown-next setup (with_added S added) entry (Row row) is.sound next gives);
      balances_given = AreGiven-posted setup S added entry row from to less more is.within posts source target apart is_less is_more is.balances_given;
    }

-- ---- a draft's beginning, and one uid more

pub IsDraft-none : (setup : Setup) (S : State) (held : List AccountView) (user : UserId) (at : Moment) (day : Day) → IsWithinLimits setup → IsSoundState setup S → AreBalanced setup S held → IsMoment at.0 → IsDay day.0 → IsDraft setup S held (nothing_added user at day)
IsDraft-none setup S held user at day within sound balanced moment known = record {
  within = within;
  moment = moment;
  sound = rw (append-nil S.entries, append-nil S.used) (record {
    numbered = sound.numbered;
    few = sound.few;
    rows = sound.rows;
    models = sound.models;
    made = sound.made;
    reported = sound.reported;
    lawful = sound.lawful;
    sources = sound.sources;
    occurrences = sound.occurrences;
    covered = sound.covered;
    used = sound.used;
    kept = sound.kept;
    day = known;
  });
  balanced = balanced;
  rows_added = IsAdded-none S user at day;
  balances_given = λ account. ap (λ (l : List Entry). balance setup l account) (sym (append-nil S.entries));
}

pub IsDraft-uid : (setup : Setup) (S : State) (held : List AccountView) (added : AddedView) (uid : List ℕ) → IsDraft setup S held added → is_used added.user uid (with_added S added).used ≡ false → IsDraft setup S held (uid_added added uid)
IsDraft-uid setup S held added uid is unused =
    let once : UsedOnce (S.used ++ map (pair_of added.user) (added.uids ++ uid ∷ [])) =
    subst UsedOnce (sym (uids_more S.used added.user added.uids uid)) (UsedOnce-push (with_added S added).used (pair_of added.user uid) is.sound.used unused) in
    record {
      within = is.within;
      moment = is.moment;
      sound = record {
        numbered = is.sound.numbered;
        few = is.sound.few;
        rows = is.sound.rows;
        models = is.sound.models;
        made = is.sound.made;
        reported = is.sound.reported;
        lawful = is.sound.lawful;
        sources = is.sound.sources;
        occurrences = is.sound.occurrences;
        covered = is.sound.covered;
        used = once;
        kept = is.sound.kept;
        day = is.sound.day;
      };
      balanced = is.balanced;
      rows_added = IsAdded-uid S added uid is.rows_added;
      balances_given = is.balances_given;
    }
