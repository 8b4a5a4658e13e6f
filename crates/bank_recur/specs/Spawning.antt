-- The next transfers of recurring transfers, and which of two comes first.
use Rattle.std.specs.Prelude.{◌≡◌, ℕ, Bool, ◌&&◌, ◌||◌, nat_lt, if◌then◌else◌, int_le, int_lt, Option, None, Some}
use Rattle.ofx_types.specs.Calendar.{IsDay}
use Rattle.ofx_types.specs.declared.number.Day.{Day}
use Rattle.ofx_types.specs.declared.recurring.ModelRow.{ModelRow}
use Rattle.bank_model.specs.Due.{date_in_series, if_by}
use Rattle.bank_recur.specs.ModelsView.{Series}
use Rattle.bank_recur.specs.declared.spawn.Spawn.{Spawn}

-- The date is that of the occurrence in the row's series, where it has one; the first date lies in the years 1900 to 9999.
pub record IsNext (row : ModelRow) (occurrence : ℕ) (next : Option Day) : Type 0 where
  pub first : IsDay row.first.0
  pub date : next ≡ date_in_series row occurrence

-- The date of its next transfer, where it isn't cancelled and its series has one more.
abbrev pub date_ahead : Series → Option Day
date_ahead one = if one.cancelled then None else date_in_series one.row one.occurrence

-- the same of a recurring transfer that is looked for
abbrev pub date_ahead_of : Option Series → Option Day
date_ahead_of None = None
date_ahead_of (Some one) = date_ahead one

-- The date of its next transfer, where that is no later than a last day.
abbrev pub date_by : Day → Series → Option Day
date_by last one = if one.cancelled then None else if_by last (date_in_series one.row one.occurrence)

-- the same, where there is such a recurring transfer
abbrev pub date_found : Day → Option Series → Option Day
date_found last None = None
date_found last (Some one) = date_by last one

-- The earlier day comes first, and on one day the lesser id.
abbrev pub is_before_spawn : Spawn → Spawn → Bool
is_before_spawn a b = int_lt a.day.0 b.day.0 || (int_le a.day.0 b.day.0 && nat_lt a.id b.id)
