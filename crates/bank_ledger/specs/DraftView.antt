-- What an event adds to the state of a bank, and a draft of that state.
use Rattle.std.specs.Prelude.{◌≡◌, ℕ, ◌+◌, ◌<◌, ◌||◌, ℤ, List, [], ◌∷◌, ◌++◌, length, map, take, slice_index_or, Option, None, Some, true}
use Rattle.std.specs.Option.{option_or, IfSome}
use Rattle.ofx_types.specs.Calendar.{IsMoment}
use Rattle.ofx_types.specs.declared.number.AcctId.{AcctId}
use Rattle.ofx_types.specs.declared.number.Cents.{Cents}
use Rattle.ofx_types.specs.declared.number.Day.{Day}
use Rattle.ofx_types.specs.declared.number.Moment.{Moment}
use Rattle.ofx_types.specs.declared.number.UserId.{UserId}
use Rattle.ofx_types.specs.declared.transfer.TransferRow.{TransferRow}
use Rattle.bank_model.specs.declared.entry.Entry.{Entry}
use Rattle.bank_model.specs.declared.once.UsedPair.{UsedPair}
use Rattle.bank_model.specs.declared.setup.Setup.{Setup}
use Rattle.bank_model.specs.declared.event.State.{State}
use Rattle.bank_model.specs.SetupForm.{IsWithinLimits}
use Rattle.bank_model.specs.SetupLookups.{account_of}
use Rattle.bank_model.specs.Ledger.{row_of, balance}
use Rattle.bank_model.specs.Models.{model_of, is_model_dropped}
use Rattle.bank_accounts.specs.AccountView.{AccountView}
use Rattle.bank_accounts.specs.BalancesView.{amount_given}
use Rattle.bank_accounts.specs.declared.balances.Balance.{Balance}
use Rattle.bank_accounts.specs.HeldAccounts.{IsHeld}
use Rattle.bank_invariants.specs.SoundStates.{IsSoundState}
use Rattle.bank_ledger.specs.Balanced.{AreBalanced}
use Rattle.bank_ledger.specs.declared.row_change.RowChange.{RowChange}
use Rattle.bank_ledger.specs.Changes.{GivesRows, IsKnown, row_drafted, model_drafted, is_cancelled_in}

-- ---- what an event adds

-- An event of a user at a moment on a business day adds entries, each with what it gives to the rows, and uids that the user
-- uses up; and accounts come to other balances. What the bank does by itself uses up no uid.
pub record AddedView : Type 0 where
  pub user : UserId
  pub at : Moment
  pub day : Day
  pub entries : List Entry
  pub row_changes : List RowChange
  pub uids : List (List ℕ)
  pub balances : List Balance

abbrev pub pair_of : UserId → List ℕ → UsedPair
pair_of user trnuid = record { user = user; trnuid = trnuid }

-- the state of a bank with what an event adds to it
abbrev pub with_added : State → AddedView → State
with_added S added = record S { entries = S.entries ++ added.entries; used = S.used ++ map (pair_of added.user) added.uids; day = added.day }

-- Each entry that is added has the next number, and gives its change of the rows. A transfer's row is the last of those added,
-- or else the bank's; so it is with a recurring transfer, which is cancelled where the bank or what is added cancels it.
pub record IsAdded (S : State) (added : AddedView) : Type 0 where
  pub count : length added.row_changes ≡ length added.entries
  pub numbered : (k : ℕ) (entry : Entry) → k < length added.entries →
      (slice_index_or added.entries k entry).number ≡ length (S.entries ++ take k added.entries) + 1
  pub given : (k : ℕ) (entry : Entry) (row_change : RowChange) → k < length added.entries →
      GivesRows (S.entries ++ take k added.entries) (slice_index_or added.entries k entry).change (slice_index_or added.row_changes k row_change)
  pub known : (k : ℕ) (row_change : RowChange) → k < length added.entries → IsKnown (slice_index_or added.row_changes k row_change)
  pub rows : (id : ℕ) → row_of id (S.entries ++ added.entries) ≡ option_or (row_drafted id added.row_changes) (row_of id S.entries)
  pub models : (id : ℕ) → model_of id (S.entries ++ added.entries) ≡ option_or (model_drafted id added.row_changes) (model_of id S.entries)
  pub cancelled : (id : ℕ) → is_model_dropped id (S.entries ++ added.entries) ≡ (is_model_dropped id S.entries || is_cancelled_in id added.row_changes)

abbrev pub amount_or : Option Cents → ℤ → ℤ
amount_or None before = before
amount_or (Some amount) before = amount.0

-- An account has the balance that it came to. One that came to none has the balance that it had.
abbrev pub AreGiven : Setup → State → AddedView → Type 0
AreGiven setup S added = (account : AcctId) →
    amount_or (amount_given added.balances account) (balance setup S.entries account) ≡ balance setup (S.entries ++ added.entries) account

-- ---- a draft

-- A draft is of an event of a user at a moment on a business day, over the setup, the state and the accounts of a bank that are
-- held. It has the entries that are added, and the uids that the user uses up.
pub record DraftView : Type 0 where
  pub setup : Setup
  pub before : State
  pub held : List AccountView
  pub user : UserId
  pub at : Moment
  pub day : Day
  pub entries : List Entry
  pub uids : List (List ℕ)

-- the state that a draft makes
abbrev pub drafted : DraftView → State
drafted draft = record draft.before { entries = draft.before.entries ++ draft.entries; used = draft.before.used ++ map (pair_of draft.user) draft.uids; day = draft.day }

-- What holds of every draft: the setup is within its limits, the moment lies in the years 1900 to 9999, the accounts have the
-- balances of the state, and what it makes of the state is sound.
pub record IsDraft (setup : Setup) (S : State) (held : List AccountView) (added : AddedView) : Type 0 where
  pub within : IsWithinLimits setup
  pub moment : IsMoment added.at.0
  pub sound : IsSoundState setup (with_added S added)
  pub balanced : AreBalanced setup S held
  pub rows_added : IsAdded S added
  pub balances_given : AreGiven setup S added

-- A draft is still of the same event, over the same bank.
pub record IsSameFile (old new : DraftView) : Type 0 where
  pub setup : new.setup ≡ old.setup
  pub before : new.before ≡ old.before
  pub held : new.held ≡ old.held
  pub user : new.user ≡ old.user
  pub at : new.at ≡ old.at
  pub day : new.day ≡ old.day

-- A draft has these entries more. All else is as before.
pub record HasAdded (old new : DraftView) (more : List Entry) : Type 0 where
  pub same : IsSameFile old new
  pub entries : new.entries ≡ old.entries ++ more
  pub uids : new.uids ≡ old.uids

-- What a draft adds: its entries and uids, with the changes of rows that the entries give and the balances that accounts come to.
pub record IsAddedBy (draft : DraftView) (added : AddedView) : Type 0 where
  pub user : added.user ≡ draft.user
  pub day : added.day ≡ draft.day
  pub entries : added.entries ≡ draft.entries
  pub uids : added.uids ≡ draft.uids
  pub rows : IsAdded draft.before added
  pub balances : AreGiven draft.setup draft.before added

-- a draft with one uid more
abbrev pub with_uid : DraftView → List ℕ → DraftView
with_uid draft uid = record {
  setup = draft.setup;
  before = draft.before;
  held = draft.held;
  user = draft.user;
  at = draft.at;
  day = draft.day;
  entries = draft.entries;
  uids = draft.uids ++ uid ∷ [];
}

-- The accounts that a posted row moves money between are held.
abbrev pub HasBothHeld : Setup → List AccountView → TransferRow → Type 0
HasBothHeld setup accounts row =
    IfSome (account_of setup row.from) (IsHeld accounts) × IfSome (account_of setup row.to) (IsHeld accounts)
