-- Replies to failed signons.
use Rattle.std.proofs.Common.{ℕ}
use Rattle.ofx_types.specs.Calendar.{IsMoment}
use Rattle.ofx_types.specs.Printable.{IsPrintable}
use Rattle.ofx_types.specs.declared.number.Moment.{Moment}
use Rattle.ofx_types.specs.declared.request.RequestFile.{RequestFile}
use Rattle.bank_model.specs.Rules.{denial}

-- a failed signon may be printed
pub denial_printable : (file : RequestFile) (at : Moment) → IsMoment at.0 → IsPrintable (denial file at)
unfolding denial
denial_printable file at lawful = record { moment = lawful; replies = tt }
