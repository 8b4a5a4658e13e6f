-- What contracts see of the posted transfers of a bank.
use Rattle.std.specs.Prelude.{◌≡◌, ℕ, true, List}
use Rattle.bank_model.specs.Ledger.{Posting, is_posted}
use Rattle.bank_transfers.specs.TransfersView.{IsWithinAmounts}

-- The posted transfers in the order of posting, and for how many more there is room.
pub record PostingsView : Type 0 where
  pub postings : List Posting
  pub room : ℕ

-- A posting's row is posted, and its amount is within the bounds.
abbrev pub IsPosted : Posting → Type 0
IsPosted posting = IsWithinAmounts posting.row × (is_posted posting.row.code ≡ true)
