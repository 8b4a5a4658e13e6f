-- Request files that may be printed, and that what is read may be.
use Rattle.std.specs.Prelude.{ℕ, List}
use Rattle.std.specs.Option.{IfSome}
use Rattle.std.specs.List.{AllByRecursion}
use Rattle.ofx_types.specs.Calendar.{IsMoment}
use Rattle.ofx_types.specs.declared.number.Moment.{Moment}
use Rattle.ofx_types.specs.declared.request.Period.{Period}
use Rattle.ofx_types.specs.declared.request.Ask.{Ask}
use Rattle.ofx_types.specs.declared.request.Ask.TheVariants.{Statement, One, Sync}
use Rattle.ofx_types.specs.declared.request.RequestFile.{RequestFile}
use Rattle.ofx_types.specs.declared.reply.ReplyFile.{ReplyFile}
use Rattle.ofx_types.specs.FileForm.{SpellsReply}
use Rattle.ofx_types.specs.Printable.{IsPrintable}
use Rattle.bank_model.specs.Sound.{IsSound}
use Rattle.msg_sync.specs.PrintableSyncs.{IsPrintableTransaction, IsPrintableSync}

-- Both moments lie in the years 1900 to 9999.
pub record IsPrintablePeriod (period : Period) : Type 0 where
  pub start : IfSome period.start (λ (moment : Moment). IsMoment moment.0)
  pub end : IfSome period.end (λ (moment : Moment). IsMoment moment.0)

-- So do the days and moments of deeds.
abbrev pub IsPrintableAsk : Ask → Type 0
IsPrintableAsk (Statement trnuid account period) = IfSome period IsPrintablePeriod
IsPrintableAsk (One trnuid deed) = IsPrintableTransaction deed
IsPrintableAsk (Sync ask) = IsPrintableSync ask

-- And the moment at which the file is made.
pub record IsPrintableFile (file : RequestFile) (at : Moment) : Type 0 where
  pub moment : IsMoment at.0
  pub asks : AllByRecursion IsPrintableAsk file.asks

-- A file that may be handed to a bank may be printed at any such moment.
abbrev pub SoundFilesArePrintable : Type 0
SoundFilesArePrintable = (file : RequestFile) (at : Moment) → IsSound file → IsMoment at.0 → IsPrintableFile file at

-- A reply that bytes spell may be printed.
abbrev pub SpelledRepliesArePrintable : Type 0
SpelledRepliesArePrintable = (bytes : List ℕ) (reply : ReplyFile) → SpellsReply bytes reply → IsPrintable reply
