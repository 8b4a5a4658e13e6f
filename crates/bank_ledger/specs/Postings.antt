-- Transfers that have just what some entries moved.
use Rattle.std.specs.Prelude.{◌≡◌, ◌∷◌, ◌++◌, [], ℕ, false, List, Option}
use Rattle.ofx_types.specs.declared.transfer.TransferRow.{TransferRow}
use Rattle.bank_model.specs.declared.entry.Entry.{Entry}
use Rattle.bank_model.specs.Ledger.{is_dropped, moved, posting_of, row_in}
use Rattle.bank_transfers.specs.TransfersView.{TransfersView, Represents}

-- The transfers stand for the entries among these that post a transfer. None of them drops one.
pub record HoldsPostings (transfers : TransfersView) (entries : List Entry) : Type 0 where
  pub posted : List Entry
  pub holds : Represents transfers posted
  pub moved : moved posted ≡ moved entries
  pub kept : (id : ℕ) → is_dropped id posted ≡ false

-- After any entries, the transfers have taken in what one more with this number moves, whose posting is that of the row.
abbrev pub HoldOneMore : (before after : TransfersView) (number : ℕ) (row : Option TransferRow) → Type 0
HoldOneMore before after number row =
    (entries : List Entry) (entry : Entry) → HoldsPostings before entries → entry.number ≡ number
    → posting_of entry.number (row_in entry.change) ≡ posting_of entry.number row → HoldsPostings after (entries ++ entry ∷ [])

-- The transfers hold what they held.
abbrev pub HoldTheSame : (before after : TransfersView) → Type 0
HoldTheSame before after = (entries : List Entry) → HoldsPostings before entries → HoldsPostings after entries
