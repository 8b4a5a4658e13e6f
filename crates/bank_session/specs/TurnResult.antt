-- What a turn of a run answers.
use Rattle.std.specs.Prelude.{ℕ, List, [], ◌∷◌, Option, Result, Ok, Err}
use Rattle.std.specs.Option.{IfSome}
use Rattle.std.specs.Io.KnownBytes.{Keeps, IsAtEnd}
use Rattle.ofx_ports.specs.Faults.{Rose}
use Rattle.ofx_ports.specs.Known.{Stays}
use Rattle.ofx_types.specs.declared.number.Moment.{Moment}
use Rattle.bank_core.specs.BookView.{BookView}
use Rattle.bank_frames.specs.Frames.{BeginsNoFrame}
use Rattle.bank_opening.specs.declared.stop.Stop.{Stop}
use Rattle.bank_opening.specs.declared.stop.Stop.TheVariants as stops
use Rattle.bank_session.specs.Answers.{AreMoments}
use Rattle.bank_frames.specs.NextFrame.{IsNoFrame}
use Rattle.bank_session.specs.Turns.{TurnView, FrameAnswered, FrameStops}
use Rattle.bank_session.specs.declared.turn.TurnEnd.{TurnEnd}
use Rattle.bank_session.specs.declared.turn.TurnEnd.TheVariants as steps

-- Nothing that is to come was used up, nothing was kept or written, and the clock wasn't read.
pub record NoTurn (found left : TurnView) : Type 0 where
  pub unread : Keeps found.coming left.coming
  pub unkept : Stays found.records left.records
  pub unwritten : Keeps found.held left.held
  pub unseen : Stays found.shown left.shown

-- Something happened to a frame at its moment, the words' one or the clock's next one.
pub record AtMoment (at : Option Moment) (found left : TurnView) (What : Moment → Type 0) : Type 0 where
  pub moment : Moment
  pub moments : AreMoments at found.shown left.shown (moment ∷ [])
  pub happened : What moment

abbrev pub TurnMade : Option Moment → BookView → BookView → TurnView → TurnView → ℕ → Type 0
TurnMade at before after found left size = AtMoment at found left (λ moment. FrameAnswered moment size before after found left)

-- Why a turn fails: a read failed while no whole frame was ahead, or the run stops in a frame.
abbrev pub TurnStops : Option Moment → BookView → TurnView → TurnView → List ℕ → Stop → Type 0
TurnStops at before found left ahead stops.ReadFailed = NoTurn found left × (BeginsNoFrame ahead × Rose found.reads left.reads)
TurnStops at before found left ahead stop = AtMoment at found left (λ moment. FrameStops moment before found left stop)

-- A frame of so many bytes was answered; or the input is at its end; or bytes that begin no frame are left; or the run
-- stops.
abbrev pub TurnResult : Option Moment → BookView → BookView → TurnView → TurnView → List ℕ → Result TurnEnd Stop → Type 0
TurnResult at before after found left ahead (Ok (steps.Answered size)) = TurnMade at before after found left size
TurnResult at before after found left ahead (Ok steps.AtEnd) = NoTurn found left × IsAtEnd left.coming
TurnResult at before after found left ahead (Ok steps.NoFrame) = NoTurn found left × IfSome left.coming IsNoFrame
TurnResult at before after found left ahead (Err stop) = TurnStops at before found left ahead stop
