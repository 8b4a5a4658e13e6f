-- The reply that the bank makes of a file, as it comes over the wire.
use Rattle.ofx_types.specs.Wire.{wire_file}
use Rattle.ofx_types.specs.declared.number.Moment.{Moment}
use Rattle.ofx_types.specs.declared.number.UserId.{UserId}
use Rattle.ofx_types.specs.declared.request.RequestFile.{RequestFile}
use Rattle.ofx_types.specs.declared.reply.ReplyFile.{ReplyFile}
use Rattle.bank_model.specs.declared.event.State.{State}
use Rattle.bank_model.specs.declared.setup.Setup.{Setup}
use Rattle.bank_model.specs.Rules.{raised, ask_answers, reply_file}

-- Once the business day is raised the asks are answered in their order. The printed form doesn't tell which recurring transfer
-- made a changed row.
abbrev pub bank_reply : Setup → State → UserId → Moment → RequestFile → ReplyFile
bank_reply setup S user at file = wire_file (reply_file at file (ask_answers setup (raised S at) user at file.asks).replies)
