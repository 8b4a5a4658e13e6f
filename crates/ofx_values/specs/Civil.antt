-- Civil dates as the date library holds them.
use Rattle.std.specs.Prelude.{◌≡◌, ◌≤◌, pos}
use Rattle.jiff_core.specs.declared.civil.date.Date.{Date}
use Rattle.ofx_types.specs.Calendar.{CivilDate}

-- the library's date has the year, month and day of a civil date of the years 1900 to 9999
pub record IsCivilOf (civil : CivilDate) (date : Date) : Type 0 where
  pub year : date.year ≡ pos civil.year
  pub month : date.month ≡ civil.month
  pub day : date.day ≡ civil.day
  pub low : 1900 ≤ civil.year
  pub high : civil.year ≤ 9999
