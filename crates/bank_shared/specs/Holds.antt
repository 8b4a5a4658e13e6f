-- The board of a bank, and the passes of those who call the bank.
use Rattle.std.specs.Prelude.{◌≡◌, ℕ, ◌⊎◌, List, []}
use Rattle.bank_model.specs.declared.event.State.{State}
use Rattle.bank_model.specs.declared.log.LogItem.{LogItem}
use Rattle.bank_model.specs.declared.setup.Setup.{Setup}
use Rattle.bank_model.specs.LegalLog.{IsWholeLog}
use Rattle.bank_model.specs.Rules.{opening_state}
use Rattle.event_codec.specs.Records.{Reopens}
use Rattle.token_board.specs.Tokens.{AreEndings}
use Rattle.token_board.specs.Views.{BoardView, WriterView, PassView}
use Rattle.token_board.specs.Publishing.{Meets}
use Rattle.bank_callers.specs.Belonging.{AllBelong}
use Rattle.bank_callers.specs.Boards.{AreNewest}
use Rattle.bank_callers.specs.Callers.{CallerView}

-- The bank opened from some records.
abbrev pub HasOpened : Setup → State → Type 0
HasOpened setup opening = (records : List (List ℕ)) × Reopens setup opening_state records opening

-- A board begins with the newest number of each object of the bank in the state that it opened in.
abbrev pub BeginsAt : Setup → State → BoardView → Type 0
BeginsAt setup opening board = AreNewest setup opening board.start

-- The writer is the board's, claims nothing, and the board begins with the bank's newest numbers. The entries of the opening belong
-- to the setup's objects, so those of each log do.
pub record IsWriterOf (setup : Setup) (opening : State) (board : BoardView) (writer : WriterView) : Type 0 where
  pub own : writer.table ≡ board.table
  pub unclaimed : writer.claimed ≡ []
  pub begins : BeginsAt setup opening board
  pub belong : AllBelong setup opening.entries

-- A pass is of the bank's board. What it has seen of the log is legal from the state that the bank opened in and ends with no cut
-- group, and its own endings are among those.
pub record IsPassOf (setup : Setup) (opening : State) (board : BoardView) (pass : PassView) : Type 0 where
  pub own : pass.table ≡ board.table
  pub legal : IsWholeLog setup opening pass.seen
  pub mine : AreEndings pass.seen pass.mine

-- The pass meets what was published, or it is as before since memory was refused first, and nothing was.
abbrev pub MeetsOrStays : BoardView → List LogItem → List LogItem → PassView → PassView → Type 0
MeetsOrStays board before after old new = Meets board before after old new ⊎ ((new ≡ old) × (after ≡ before))

-- what a pass knows of a bank that opened in a state
abbrev pub caller_of : State → PassView → CallerView
caller_of opening pass = record { opening = opening; seen = pass.seen; mine = pass.mine; polled = pass.polled }
