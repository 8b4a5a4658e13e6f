-- The next transfers beside the recurring transfers that make them.
use Rattle.std.specs.Prelude.{◌≡◌, ℕ, ◌≤◌, List, length}
use Rattle.std.specs.List.{sum_by}
use Rattle.bank_recur.specs.ModelsView.{Series, series_found}
use Rattle.bank_recur.specs.Spawning.{date_ahead, date_ahead_of}
use Rattle.bank_recur.specs.Upcoming.{UpcomingView, day_in, days_of}

-- Each recurring transfer that isn't cancelled and has a next date is listed once with that date, and no other is. There is
-- room for one of each recurring transfer.
pub record IsAhead (series : List Series) (upcoming : UpcomingView) : Type 0 where
  pub days : (id : ℕ) → day_in id upcoming.spawns ≡ date_ahead_of (series_found id series)
  pub many : length upcoming.spawns ≡ sum_by (λ (one : Series). days_of (date_ahead one)) series
  pub room : length series ≤ upcoming.room
