-- The steps in which a reply is read, each a part of its form.
use Rattle.std.specs.Prelude.{ℕ, ◌++◌, List, codes, Option, Result, Ok}
use Rattle.ofx_types.specs.Nodes.{Item}
use Rattle.ofx_types.specs.FormWords.{◌>>=◌, one, maybe}
use Rattle.ofx_types.specs.MessageForm.{bank_reply_names, mail_reply_names}
use Rattle.ofx_types.specs.ReplyReading.{signon_reply_of}
use Rattle.ofx_types.specs.MessageReading.{ask_reply_of, messages_in}
use Rattle.ofx_types.specs.declared.fault.TreeFault.{TreeFault}
use Rattle.ofx_types.specs.declared.number.Moment.{Moment}
use Rattle.ofx_types.specs.declared.reply.ReplyFile.{ReplyFile}

-- the answer to the signon, in the message set that OFX has for it
unfoldable pub signon_in : Item → Result (ℕ × Moment) TreeFault
signon_in ofx = do
  signon_set ← one (codes "SIGNONMSGSRSV1") ofx
  sonrs ← one (codes "SONRS") signon_set
  signon_reply_of sonrs

-- the reply of a header and of what OFX says
unfoldable pub reply_in : ℕ → Option (List ℕ) → Item → Result ReplyFile TreeFault
reply_in version newer ofx = do
  signon ← signon_in ofx
  bank_set ← maybe (codes "BANKMSGSRSV1") ofx
  bank ← messages_in ask_reply_of bank_reply_names bank_set
  mail_set ← maybe (codes "EMAILMSGSRSV1") ofx
  mail ← messages_in ask_reply_of mail_reply_names mail_set
  Ok (record { version = version; newer = newer; signon = signon.0; moment = signon.1; replies = bank ++ mail })
