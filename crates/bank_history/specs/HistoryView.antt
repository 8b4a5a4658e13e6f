-- What contracts see of a bank's history.
use Rattle.std.specs.Prelude.{ℕ, List}
use Rattle.bank_model.specs.declared.entry.Entry.{Entry}

-- How far back each object's history goes, the entries in order, how many of them came since room was last made, and for how
-- many more there is room. Of the entries before, none is held but each object's last ones.
pub record HistoryView : Type 0 where
  pub width : ℕ
  pub entries : List Entry
  pub recent : ℕ
  pub room : ℕ
