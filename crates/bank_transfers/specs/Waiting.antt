-- The transfers that wait, as they are held.
use Rattle.std.specs.Prelude.{◌≡◌, ℕ, ◌<◌, ◌≤◌, List, length, slice_index_or}
use Rattle.std.specs.Option.{IfSome}
use Rattle.std.specs.Ordering.{ordering_then, int_cmp, nat_cmp}
use Rattle.std.specs.declared.cmp.Ordering.{Ordering}
use Rattle.ofx_types.specs.declared.transfer.TransferRow.{TransferRow}
use Rattle.bank_transfers.specs.Order.{Lists}
use Rattle.bank_transfers.specs.TransfersView.{row_found, row_at, RiseById}
use Rattle.bank_transfers.specs.declared.waiting.DueTask.{DueTask}
use Rattle.bank_transfers.specs.declared.waiting.Made.{Made}

-- The rows of the transfers that wait, each under its id, and for how many more there is room.
pub record WaitingView : Type 0 where
  pub rows : List (ℕ × TransferRow)
  pub room : ℕ

-- The transfers that wait have just these rows, whose ids rise.
pub record AreRows (waiting : WaitingView) (rows : List TransferRow) : Type 0 where
  pub found : (id : ℕ) → row_at waiting.rows id ≡ row_found id rows
  pub rise : RiseById rows

-- The later due day comes first, and on one day the greater id.
abbrev pub task_order : DueTask → DueTask → Ordering
task_order a b = ordering_then (int_cmp b.day.0.0 a.day.0.0) (nat_cmp b.id.0 a.id.0)

-- The transfers that one recurring transfer made are listed together, by their ids, and before those of one with a lesser id.
abbrev pub made_order : Made → Made → Ordering
made_order a b = ordering_then (nat_cmp b.model.0 a.model.0) (nat_cmp a.id b.id)

-- the ids of the recurring transfers don't rise
abbrev pub AreFalling : List Made → Type 0
AreFalling made = (i j : ℕ) (d : Made) → i ≤ j → j < length made → (slice_index_or made j d).model.0 ≤ (slice_index_or made i d).model.0

abbrev pub task_key : TransferRow → DueTask
task_key row = record { day = record { 0 = row.due }; id = record { 0 = row.id } }

abbrev pub made_key : TransferRow → Made
made_key row = record { model = record { 0 = row.model }; id = row.id }

-- How the rows are listed: each row is under its own id, and the tasks and the transfers that recurring ones made are
-- those of the rows.
pub record AreListed (rows : List (ℕ × TransferRow)) (tasks : List DueTask) (made : List Made) : Type 0 where
  pub keyed : (id : ℕ) → IfSome (row_at rows id) (λ (row : TransferRow). row.id ≡ id)
  pub by_day : Lists task_order (λ (task : DueTask). task.id.0) task_key tasks (row_at rows)
  pub by_model : Lists made_order (λ (one : Made). one.id) made_key made (row_at rows)
