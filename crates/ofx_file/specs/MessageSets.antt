-- The message sets that follow on that of the signon: their names, what is in them, and how it is read.
use Rattle.std.specs.Prelude.{ℕ, Bool, not, List, [], codes, filter, Option, Result, if◌then◌else◌}
use Rattle.std.specs.List.{list_any}
use Rattle.ofx_types.specs.Nodes.{Item}
use Rattle.ofx_types.specs.TagNames.{is_one_of}
use Rattle.ofx_types.specs.MessageForm.{bank_names, mail_names, bank_reply_names, mail_reply_names}
use Rattle.ofx_types.specs.MessageReading.{ask_of, ask_reply_of}
use Rattle.ofx_types.specs.PrintedFile.{ask_text, is_mail_ask}
use Rattle.ofx_types.specs.ReplyForm.{ask_reply, is_mail_reply}
use Rattle.ofx_types.specs.declared.fault.TreeFault.{TreeFault}
use Rattle.ofx_types.specs.declared.request.Ask.{Ask}
use Rattle.ofx_types.specs.declared.reply.AskReply.{AskReply}
use Rattle.ofx_file.specs.declared.messages.MessageSet.{MessageSet}
use Rattle.ofx_file.specs.declared.messages.MessageSet.TheVariants.{Bank, Mail}
use Rattle.msg_sync.specs.Listing.{form_at, forms_after}

-- ---- requests

abbrev pub request_set : MessageSet → List ℕ
request_set Bank = codes "BANKMSGSRQV1"
request_set Mail = codes "EMAILMSGSRQV1"

-- the requests that are in it
abbrev pub request_names : MessageSet → List (List ℕ)
request_names Bank = bank_names
request_names Mail = mail_names

-- What the bank is asked, and mail.
abbrev pub is_ask_in : MessageSet → Ask → Bool
is_ask_in Bank ask = not (is_mail_ask ask)
is_ask_in Mail ask = is_mail_ask ask

abbrev pub asks_in : MessageSet → List Ask → List Ask
asks_in set asks = filter (λ (ask : Ask). is_ask_in set ask) asks

-- One of the asks is in it.
abbrev pub has_ask : MessageSet → List Ask → Bool
has_ask set asks = list_any (λ (ask : Ask). is_ask_in set ask) asks

-- what is written of an ask in the message set
abbrev pub text_in : MessageSet → Ask → List ℕ
text_in set ask = if is_ask_in set ask then ask_text ask else []

-- The ask that a child of the message set is, if it is one.
abbrev pub ask_at : MessageSet → Item → Result (Option Ask) TreeFault
ask_at set child = form_at ask_of (is_one_of (request_names set)) child

-- the asks that are read already, and those among the children still to come
abbrev pub asks_after : MessageSet → List Ask → List Item → Result (List Ask) TreeFault
asks_after set prefix items = forms_after ask_of (is_one_of (request_names set)) prefix items

-- ---- replies

abbrev pub reply_set : MessageSet → List ℕ
reply_set Bank = codes "BANKMSGSRSV1"
reply_set Mail = codes "EMAILMSGSRSV1"

abbrev pub reply_names : MessageSet → List (List ℕ)
reply_names Bank = bank_reply_names
reply_names Mail = mail_reply_names

abbrev pub is_reply_in : MessageSet → AskReply → Bool
is_reply_in Bank answer = not (is_mail_reply answer)
is_reply_in Mail answer = is_mail_reply answer

abbrev pub replies_in : MessageSet → List AskReply → List AskReply
replies_in set answers = filter (λ (answer : AskReply). is_reply_in set answer) answers

abbrev pub has_answer : MessageSet → List AskReply → Bool
has_answer set answers = list_any (λ (answer : AskReply). is_reply_in set answer) answers

abbrev pub answer_text_in : MessageSet → AskReply → List ℕ
answer_text_in set answer = if is_reply_in set answer then ask_reply answer else []

abbrev pub answer_at : MessageSet → Item → Result (Option AskReply) TreeFault
answer_at set child = form_at ask_reply_of (is_one_of (reply_names set)) child

abbrev pub answers_after : MessageSet → List AskReply → List Item → Result (List AskReply) TreeFault
answers_after set prefix items = forms_after ask_reply_of (is_one_of (reply_names set)) prefix items
