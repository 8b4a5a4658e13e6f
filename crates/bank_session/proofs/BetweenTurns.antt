-- Where a run stands between two turns.
use Rattle.std.specs.Prelude.{◌≡◌, ℕ, ◌≤◌, List, length, Option}
use Rattle.std.specs.Io.KnownBytes.{Consumes, Appends}
use Rattle.ofx_ports.specs.Known.{Grows}
use Rattle.ofx_types.specs.declared.number.Moment.{Moment}
use Rattle.bank_model.specs.declared.setup.Setup.{Setup}
use Rattle.bank_model.specs.declared.event.State.{State}
use Rattle.bank_core.specs.BookView.{BookView}
use Rattle.bank_session.specs.Answers.{Turn, AreTurns, read_in, written_in, records_in, moments_in, AreMoments}
use Rattle.bank_session.specs.Turns.{TurnView}

-- A run that began in a bank of a setup in a state, and found this around it, has taken so many turns and read so many bytes in
-- them. This is where its bank stands and what is around it now.
pub record BetweenTurns (setup : Setup) (start : State) (at : Option Moment) (found : TurnView) (count offset : ℕ) (book : BookView) (now : TurnView) : Type 0 where
  pub turns : List Turn
  pub counted : length turns ≡ count
  pub offset_is : offset ≡ length (read_in turns)
  pub own : book.setup ≡ setup
  pub are_turns : AreTurns setup start turns book.state
  pub read : Consumes found.coming now.coming (read_in turns)
  pub kept : Grows found.records now.records (records_in turns)
  pub written : Appends found.held now.held (written_in turns)
  pub moments : AreMoments at found.shown now.shown (moments_in turns)
  pub reads : found.reads ≤ now.reads
  pub writes : found.writes ≤ now.writes
  pub keeps : found.keeps ≤ now.keeps
