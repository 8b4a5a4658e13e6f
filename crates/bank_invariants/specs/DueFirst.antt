-- Which of the work that the bank may do by itself is due: the earliest.
use Rattle.std.specs.Prelude.{◌≡◌, ℕ, false, Some}
use Rattle.ofx_types.specs.declared.number.Day.{Day}
use Rattle.ofx_types.specs.declared.number.Moment.{Moment}
use Rattle.ofx_types.specs.declared.transfer.TransferRow.{TransferRow}
use Rattle.bank_model.specs.declared.setup.Setup.{Setup}
use Rattle.bank_model.specs.declared.event.State.{State}
use Rattle.bank_model.specs.declared.event.Event.TheVariants.{Post, Spawn}
use Rattle.bank_model.specs.Ledger.{row_of}
use Rattle.bank_model.specs.Due.{last_day, date_to_make, is_before, task_of}
use Rattle.bank_model.specs.Rules.{raised, IsLegal}

-- No recurring transfer may make its next transfer.
abbrev pub NoneSpawns : Setup → State → Moment → Type 0
NoneSpawns setup S at = (id occurrence : ℕ) → IsLegal setup S at (Spawn id occurrence) → ⊥

-- No transfer may be posted.
abbrev pub NonePosts : Setup → State → Moment → Type 0
NonePosts setup S at = (id : ℕ) → IsLegal setup S at (Post id) → ⊥

-- A recurring transfer has its next transfer to make for this date.
abbrev pub MakesFor : Setup → State → Moment → ℕ → Day → Type 0
MakesFor setup S at id date = date_to_make (last_day setup (raised S at).day) id S.entries ≡ Some date

-- The recurring transfer has a date for its next transfer, and none that may make its own comes before it: none has an
-- earlier date, or the same date and a lesser id.
pub record SpawnsFirst (setup : Setup) (S : State) (at : Moment) (id : ℕ) : Type 0 where
  pub date : Day
  pub has : MakesFor setup S at id date
  pub first : (other occurrence : ℕ) (its : Day) → IsLegal setup S at (Spawn other occurrence) → MakesFor setup S at other its →
      is_before (record { day = its; id = other }) (record { day = date; id = id }) ≡ false

-- No recurring transfer may make its next transfer. The transfer has a row, and none that may be posted comes before it:
-- none is due earlier, or on the same day and has a lesser id.
pub record PostsFirst (setup : Setup) (S : State) (at : Moment) (id : ℕ) : Type 0 where
  pub none_spawns : NoneSpawns setup S at
  pub row : TransferRow
  pub has : row_of id S.entries ≡ Some row
  pub first : (other : ℕ) (its : TransferRow) → IsLegal setup S at (Post other) → row_of other S.entries ≡ Some its →
      is_before (task_of its) (task_of row) ≡ false
