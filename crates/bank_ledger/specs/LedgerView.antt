-- What contracts see of a ledger.
use Rattle.std.specs.Prelude.{ℕ}
use Rattle.bank_model.specs.declared.event.State.{State}

-- For how many more there is room: entries, their transfers and recurring transfers, used uids and kept replies.
pub record Room : Type 0 where
  pub entries : ℕ
  pub transfers : ℕ
  pub models : ℕ
  pub pairs : ℕ
  pub files : ℕ

-- How far back each object's history goes, the state that is written down, and the room that is reserved.
pub record LedgerView : Type 0 where
  pub window : ℕ
  pub state : State
  pub room : Room
