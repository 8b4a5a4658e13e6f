-- The steps in which a request is read, each a part of its form.
use Rattle.std.specs.Prelude.{ℕ, ◌++◌, List, codes, Option, Result, Ok}
use Rattle.ofx_types.specs.Nodes.{Item}
use Rattle.ofx_types.specs.FormWords.{◌>>=◌, one, maybe}
use Rattle.ofx_types.specs.MessageForm.{bank_names, mail_names}
use Rattle.ofx_types.specs.RequestReading.{signon_of}
use Rattle.ofx_types.specs.MessageReading.{ask_of, messages_in}
use Rattle.ofx_types.specs.declared.fault.TreeFault.{TreeFault}
use Rattle.ofx_types.specs.declared.request.RequestFile.{RequestFile}

-- who signs on, in the message set that OFX has for it
unfoldable pub signon_in : Item → Result (List ℕ × List ℕ) TreeFault
signon_in ofx = do
  signon_set ← one (codes "SIGNONMSGSRQV1") ofx
  sonrq ← one (codes "SONRQ") signon_set
  signon_of sonrq

-- the file of a header and of what OFX says
unfoldable pub file_in : ℕ → Option (List ℕ) → Option (List ℕ) → Item → Result RequestFile TreeFault
file_in version older newer ofx = do
  signon ← signon_in ofx
  bank_set ← maybe (codes "BANKMSGSRQV1") ofx
  bank ← messages_in ask_of bank_names bank_set
  mail_set ← maybe (codes "EMAILMSGSRQV1") ofx
  mail ← messages_in ask_of mail_names mail_set
  Ok (record { version = version; older = older; newer = newer; user = signon.0; pass = signon.1; asks = bank ++ mail })
