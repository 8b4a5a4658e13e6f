-- What a bank answers to an event, and the state that it leaves.
use Rattle.std.specs.Prelude.{◌≡◌, ℕ, ◌<◌, true, false, codes, negsuc, List, [], ◌∷◌, ◌++◌, length, Option, None, Some, unwrap_or, if◌then◌else◌}
use Rattle.std.specs.Option.{option_map}
use Rattle.std.specs.List.{flat_map}
use Rattle.std.specs.Int.{int_max}
use Rattle.ofx_types.specs.Calendar.{day_of}
use Rattle.ofx_types.specs.ReplyForm.{reply_text}
use Rattle.ofx_types.specs.declared.number.AcctId.{AcctId}
use Rattle.ofx_types.specs.declared.number.UserId.{UserId}
use Rattle.ofx_types.specs.declared.number.Moment.{Moment}
use Rattle.ofx_types.specs.declared.account.AcctName.{AcctName}
use Rattle.ofx_types.specs.declared.transfer.Deed.{Deed}
use Rattle.ofx_types.specs.declared.transfer.Deed.TheVariants.{Transfer, ModifyTransfer, CancelTransfer, Model, ModifyModel, CancelModel, BankMail, Mail}
use Rattle.ofx_types.specs.declared.transfer.Change.TheVariants.{NewMail}
use Rattle.ofx_types.specs.declared.transfer.TransferRow.{TransferRow}
use Rattle.ofx_types.specs.declared.mail.MailRow.{MailRow}
use Rattle.ofx_types.specs.declared.sync.ObjectName.{ObjectName}
use Rattle.ofx_types.specs.declared.sync.ObjectName.TheVariants as objects
use Rattle.ofx_types.specs.declared.request.Period.{Period}
use Rattle.ofx_types.specs.declared.request.Ask.{Ask}
use Rattle.ofx_types.specs.declared.request.Ask.TheVariants as asks
use Rattle.ofx_types.specs.declared.request.RequestFile.{RequestFile}
use Rattle.ofx_types.specs.declared.reply.StatementList.{StatementList}
use Rattle.ofx_types.specs.declared.reply.StatementBody.{StatementBody}
use Rattle.ofx_types.specs.declared.reply.AskReply.{AskReply}
use Rattle.ofx_types.specs.declared.reply.AskReply.TheVariants as replies
use Rattle.ofx_types.specs.declared.reply.ReplyFile.{ReplyFile}
use Rattle.bank_model.specs.declared.setup.Setup.{Setup}
use Rattle.bank_model.specs.declared.entry.Entry.{Entry}
use Rattle.bank_model.specs.declared.once.KeptReply.{KeptReply}
use Rattle.bank_model.specs.declared.event.State.{State}
use Rattle.bank_model.specs.declared.event.Event.{Event}
use Rattle.bank_model.specs.declared.event.Event.TheVariants.{File, Post, Spawn, Letter}
use Rattle.bank_model.specs.SetupLookups.{account_of, own_account, user_name}
use Rattle.bank_model.specs.Ledger.{balance, moved, lines_of, row_of}
use Rattle.bank_model.specs.Models.{next_occurrence}
use Rattle.bank_model.specs.Once.{reply_kept, released}
use Rattle.bank_model.specs.Deeds.{deed_answer, next_entry, mail_object}
use Rattle.bank_model.specs.Sync.{sync_answer}
use Rattle.bank_model.specs.Polls.{is_poll}
use Rattle.bank_model.specs.Due.{Task, has_number, last_day, may_post, posts, may_spawn, spawns, first_task, to_make, to_post}
use Rattle.bank_model.specs.Sound.{IsSound, IsTextWithin}

-- A bank opens with no history. The business day begins at 1 January 1900.
abbrev pub opening_state : State
opening_state = record { entries = []; used = []; kept = []; day = record { 0 = negsuc 25566 } }

-- Each event first raises the business day to the day of its moment, if that is greater.
abbrev pub raised : State → Moment → State
raised S at = record S { day = record { 0 = int_max S.day.0 (day_of at.0) } }

-- ---- statements

-- 1 January 1900
abbrev pub first_moment : Moment
first_moment = record { 0 = negsuc 2208988799 }

-- An absent DTSTART is 1 January 1900. Where DTEND is absent the list has no upper bound, and the reply's DTEND is the
-- moment of the event.
abbrev pub list_of : State → Moment → AcctName → Period → StatementList
list_of S at name period = record {
  start = unwrap_or period.start first_moment;
  end = unwrap_or period.end at;
  lines = lines_of name (unwrap_or period.start first_moment) period.end (moved S.entries);
}

-- The list is in the reply exactly where the request has INCTRAN with INCLUDE Y.
abbrev pub asked_list : State → Moment → AcctName → Option Period → Option StatementList
asked_list S at name None = None
asked_list S at name (Some period) = if period.include then Some (list_of S at name period) else None

-- A statement shows the balance as LEDGERBAL and as AVAILBAL.
abbrev pub statement : Setup → State → Moment → AcctName → Option Period → AcctId → StatementBody
statement setup S at name period account = record {
  account = name;
  list = asked_list S at name period;
  ledger = record { 0 = balance setup S.entries account };
  available = record { 0 = balance setup S.entries account };
  moment = at;
}

-- A statement of an account that isn't the user's is refused with 2003.
abbrev pub statement_reply : Setup → State → Moment → List ℕ → AcctName → Option Period → Option AcctId → AskReply
statement_reply setup S at trnuid name period None = replies.Statement trnuid 2003 None
statement_reply setup S at trnuid name period (Some account) =
    replies.Statement trnuid 0 (Some (statement setup S at name period account))

-- ---- asks and files

-- the answer to an ask of a user, and the state after it
pub record AskAnswer : Type 0 where
  pub reply : AskReply
  pub after : State

unfoldable pub ask_answer : Setup → State → UserId → Moment → Ask → AskAnswer
ask_answer setup S user at (asks.Statement trnuid name period) =
    record { reply = statement_reply setup S at trnuid name period (own_account setup user name); after = S }
ask_answer setup S user at (asks.One trnuid deed) =
    let answer = deed_answer setup S user None at trnuid deed in
    record { reply = replies.One answer.reply; after = answer.after }
ask_answer setup S user at (asks.Sync ask) =
    let answer = sync_answer setup S user at ask in
    record { reply = replies.Sync answer.reply; after = answer.after }

-- The asks are answered in their order, each in the state that the one before left.
pub record AskAnswers : Type 0 where
  pub replies : List AskReply
  pub after : State

unfoldable pub ask_answers : Setup → State → UserId → Moment → List Ask → AskAnswers
ask_answers setup S user at [] = record { replies = []; after = S }
ask_answers setup S user at (ask ∷ more) =
    let first = ask_answer setup S user at ask in
    let rest = ask_answers setup first.after user at more in
    record { replies = first.reply ∷ rest.replies; after = rest.after }

-- The reply to a file has the file's version and NEWFILEUID, a signon that succeeded, the moment, and the answers in
-- the order of the asks.
unfoldable pub reply_file : Moment → RequestFile → List AskReply → ReplyFile
reply_file at file answers = record { version = file.version; newer = file.newer; signon = 0; moment = at; replies = answers }

-- OLDFILEUID, where it is, is released.
abbrev pub release : UserId → Option (List ℕ) → List KeptReply → List KeptReply
release user None kept = kept
release user (Some older) kept = released user older kept

-- Then NEWFILEUID, where it is, is kept with the reply.
abbrev pub keep : UserId → Option (List ℕ) → List ℕ → List KeptReply → List KeptReply
keep user None reply kept = kept
keep user (Some newer) reply kept = kept ++ record { user = user; file = newer; reply = reply } ∷ []

abbrev pub with_kept : State → List KeptReply → State
with_kept S kept = record S { kept = kept }

-- the bytes that are kept for a file
abbrev pub kept_for : State → UserId → Option (List ℕ) → Option (List ℕ)
kept_for S user None = None
kept_for S user (Some newer) = reply_kept user newer S.kept

-- what an event answers, and the state that it leaves
pub record Outcome : Type 0 where
  pub reply : List ℕ
  pub after : State

-- what a file comes to by the reply that is printed for it
abbrev pub outcome_with : State → UserId → RequestFile → List ℕ → Outcome
outcome_with S user file reply =
    record { reply = reply; after = with_kept S (keep user file.newer reply (release user file.older S.kept)) }

unfoldable pub new_outcome : Setup → State → UserId → Moment → RequestFile → Outcome
new_outcome setup S user at file =
    let answers = ask_answers setup S user at file.asks in
    outcome_with answers.after user file (reply_text (reply_file at file answers.replies))

-- A file whose name is kept is answered by the kept bytes, and neither the history nor what is used or kept changes. Any
-- other file is answered anew.
abbrev pub outcome_or_kept : Setup → State → UserId → Moment → RequestFile → Option (List ℕ) → Outcome
outcome_or_kept setup S user at file None = new_outcome setup S user at file
outcome_or_kept setup S user at file (Some reply) = record { reply = reply; after = S }

unfoldable pub file_outcome : Setup → State → UserId → Moment → RequestFile → Outcome
file_outcome setup S user at file = outcome_or_kept setup S user at file (kept_for S user file.newer)

-- A failed signon is no event. It is answered by 15500 alone, with the request's version and NEWFILEUID.
unfoldable pub denial : RequestFile → Moment → ReplyFile
denial file at = record {
  version = file.version;
  newer = file.newer;
  signon = 15500;
  moment = at;
  replies = [];
}

-- What the bank does by itself has no reply.
abbrev pub with_entries : State → List Entry → State
with_entries S entries = record S { entries = S.entries ++ entries }

abbrev pub unasked : State → List Entry → Outcome
unasked S entries = record { reply = []; after = with_entries S entries }

-- A letter is a mail from the bank to a user.
abbrev pub letter : Setup → UserId → Moment → List ℕ → List ℕ → MailRow
letter setup user at subject body = record {
  about = None;
  user = user_name setup user;
  mail = record {
    created = at;
    sender = codes "BANK";
    target = user_name setup user;
    subject = subject;
    body = body;
  };
}

abbrev pub letter_entry : Setup → State → UserId → Moment → List ℕ → List ℕ → Entry
letter_entry setup S user at subject body =
    next_entry S (mail_object setup user) (codes "0") (NewMail (letter setup user at subject body))

-- An event first raises the business day.
abbrev pub step : Setup → State → Moment → Event → Outcome
step setup S at (File user file) = file_outcome setup (raised S at) user at file
step setup S at (Post id) = unasked (raised S at) (posts setup (raised S at) at (row_of id S.entries))
step setup S at (Spawn id occurrence) = unasked (raised S at) (spawns setup (raised S at) id occurrence)
step setup S at (Letter user subject body) =
    unasked (raised S at) (letter_entry setup (raised S at) user at subject body ∷ [])

abbrev pub state_after : Setup → State → Moment → Event → State
state_after setup S at event = (step setup S at event).after

abbrev pub answer_to : Setup → State → Moment → Event → List ℕ
answer_to setup S at event = (step setup S at event).reply

-- A file is legal for a user of the setup where it is sound and no poll. A transfer may be posted where it waits and is due. A
-- recurring transfer that isn't cancelled may make the next transfer of its series, where the series has that occurrence, dated
-- at most LEAD days after the business day. A letter has a subject of 1 to 64 bytes and a body of 1 to 10,000. All but a file
-- need a number that is left for their entry.
abbrev pub IsLegal : Setup → State → Moment → Event → Type 0
IsLegal setup S at (File user file) = (user.0 < length setup.users) × IsSound file × (is_poll file ≡ false)
IsLegal setup S at (Post id) = may_post setup (raised S at) (row_of id S.entries) ≡ true
IsLegal setup S at (Spawn id occurrence) = may_spawn setup (raised S at) id occurrence ≡ true
IsLegal setup S at (Letter user subject body) =
    (user.0 < length setup.users) × IsTextWithin 64 subject × IsTextWithin 10000 body × (has_number setup (raised S at) ≡ true)

-- ---- which event the bank makes next by itself

abbrev pub post_event : Task → Event
post_event task = Post task.id

-- Recurring transfers come first, the earliest date first; where none has a transfer to make, the transfers that are due,
-- the earliest due day first.
abbrev pub spawn_or_post : State → Option Task → Option Event
spawn_or_post S None = option_map post_event (first_task (to_post S.day S.entries))
spawn_or_post S (Some task) = Some (Spawn task.id (next_occurrence task.id S.entries))

abbrev pub due_in : Setup → State → Option Event
due_in setup S = if has_number setup S then spawn_or_post S (first_task (to_make (last_day setup S.day) S.entries)) else None

unfoldable pub due : Setup → State → Moment → Option Event
due setup S at = due_in setup (raised S at)

-- ---- the accounts that an event names

abbrev pub named_by_deed : Setup → Deed → List (Option AcctId)
named_by_deed setup (Transfer info) = account_of setup info.from ∷ account_of setup info.to ∷ []
named_by_deed setup (ModifyTransfer id info) = account_of setup info.from ∷ account_of setup info.to ∷ []
named_by_deed setup (CancelTransfer id) = []
named_by_deed setup (Model recur info) = account_of setup info.from ∷ account_of setup info.to ∷ []
named_by_deed setup (ModifyModel id recur info pending) = account_of setup info.from ∷ account_of setup info.to ∷ []
named_by_deed setup (CancelModel id pending) = []
named_by_deed setup (BankMail account mail) = account_of setup account ∷ []
named_by_deed setup (Mail mail) = []

abbrev pub named_by_pair : Setup → List ℕ × Deed → List (Option AcctId)
named_by_pair setup deed = named_by_deed setup deed.1

abbrev pub named_by_object : Setup → ObjectName → List (Option AcctId)
named_by_object setup (objects.Intra account) = account_of setup account ∷ []
named_by_object setup (objects.RecIntra account) = account_of setup account ∷ []
named_by_object setup (objects.BankMail account) = account_of setup account ∷ []
named_by_object setup objects.Mail = []

abbrev pub named_by : Setup → Ask → List (Option AcctId)
named_by setup (asks.Statement trnuid name period) = account_of setup name ∷ []
named_by setup (asks.One trnuid deed) = named_by_deed setup deed
named_by setup (asks.Sync ask) = named_by_object setup ask.object ++ flat_map (named_by_pair setup) ask.deeds

abbrev pub named_by_row : Setup → Option TransferRow → List (Option AcctId)
named_by_row setup None = []
named_by_row setup (Some row) = account_of setup row.from ∷ account_of setup row.to ∷ []

-- The accounts that a file's asks name, or the two of the transfer that is posted. A name that is no account of the setup is
-- listed as none.
abbrev pub named : Setup → State → Event → List (Option AcctId)
named setup S (File user file) = flat_map (named_by setup) file.asks
named setup S (Post id) = named_by_row setup (row_of id S.entries)
named setup S (Spawn id occurrence) = []
named setup S (Letter user subject body) = []
