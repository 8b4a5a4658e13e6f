-- Which bytes are the saved text of what a client knows, and the offset of the first fault of those that are none.
use Rattle.std.specs.Prelude.{◌≡◌, ℕ, ◌<◌, ◌^◌, List, length, Result, Ok, Err}
use Rattle.std.specs.List.{AllByRecursion}
use Rattle.bank_model.specs.Stores.{Store}
use Rattle.client_saved.specs.Bounds.{IsSoundState}
use Rattle.client_saved.specs.Coding.{state_text}
use Rattle.client_saved.specs.Reading.{state_read}
use Rattle.client_saved.specs.declared.state.ClientState.{ClientState}
use Rattle.client_saved.specs.declared.state.StoreFault.{StoreFault}
use Rattle.client_saved.specs.declared.state.StoreFault.TheVariants as faults

-- The numbers of stores and of rows have eight bytes, as they have in any memory.
pub record IsCounted (kept : List Store) : Type 0 where
  pub stores : length kept < 2 ^ 64
  pub rows : AllByRecursion (λ (store : Store). length store.rows < 2 ^ 64) kept

-- A text is the saved text of a state all of whose values are within their bounds.
pub record IsSavedText (text : List ℕ) (state : ClientState) : Type 0 where
  pub sound : IsSoundState state
  pub counted : IsCounted state.stores
  pub spelled : text ≡ state_text state

-- The first field of a text without a form begins at this offset, or nothing may follow there any more.
abbrev pub IsFirstFault : List ℕ → ℕ → Type 0
IsFirstFault text at = state_read text ≡ Err at

-- A call answers what reading a whole text gives, unless memory was refused.
abbrev pub GivesState : Result ClientState StoreFault → Result ClientState ℕ → Type 0
GivesState (Ok state) read = read ≡ Ok state
GivesState (Err (faults.Bad at)) read = read ≡ Err at
GivesState (Err faults.OutOfMemory) read = Unit {0}
