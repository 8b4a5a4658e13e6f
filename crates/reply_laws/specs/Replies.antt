-- The replies of a bank, and that they read back.
use Rattle.std.specs.Prelude.{◌≡◌, ℕ, List}
use Rattle.ofx_types.specs.FileForm.{SpellsReply}
use Rattle.ofx_types.specs.ReplyForm.{reply_text}
use Rattle.ofx_types.specs.Wire.{wire_file}
use Rattle.ofx_types.specs.declared.number.Moment.{Moment}
use Rattle.ofx_types.specs.declared.number.UserId.{UserId}
use Rattle.ofx_types.specs.declared.request.RequestFile.{RequestFile}
use Rattle.ofx_types.specs.declared.reply.ReplyFile.{ReplyFile}
use Rattle.bank_model.specs.declared.setup.Setup.{Setup}
use Rattle.bank_model.specs.declared.event.State.{State}
use Rattle.bank_model.specs.Rules.{raised, ask_answers, reply_file}

-- the reply to a file that is answered anew
abbrev pub new_reply : Setup → State → UserId → Moment → RequestFile → ReplyFile
new_reply setup S user at file = reply_file at file (ask_answers setup (raised S at) user at file.asks).replies

-- What is printed of a reply spells that reply, with the model of each changed transfer set to 0, which the printed form
-- doesn't tell.
abbrev pub ReadsBack : ReplyFile → Type 0
ReadsBack reply = SpellsReply (reply_text reply) (wire_file reply)

-- The bytes are the printed form of a reply, and this reads back.
abbrev pub IsReply : List ℕ → Type 0
IsReply bytes = (reply : ReplyFile) × (bytes ≡ reply_text reply) × ReadsBack reply
