-- What contracts see of a bank that is opened and not begun.
use Rattle.std.specs.Prelude.{ℕ, List, Option}
use Rattle.bank_model.specs.declared.event.State.{State}
use Rattle.bank_model.specs.declared.setup.Setup.{Setup}
use Rattle.bank_accounts.specs.AccountView.{Tables}
use Rattle.token_board.specs.Views.{BoardView}

pub record OpenedView : Type 0 where
  pub setup : Setup
  -- the state that its records left
  pub state : State
  -- the keeper's records when it opened, where they were known
  pub opened : Option (List (List ℕ))
  -- its records now
  pub records : Option (List (List ℕ))
  -- the keeper's count of faults
  pub faults : ℕ
  -- the board of its newest tokens
  pub board : BoardView
  -- the table of each of its accounts
  pub tables : Tables
