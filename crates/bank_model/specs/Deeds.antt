-- What a bank does for a deed: its code, the entries that it adds, and the state that it leaves.
use Rattle.std.specs.Prelude.{ℕ, ◌+◌, ◌*◌, nat_lt, ◌==◌, Bool, if◌then◌else◌, ℤ, pos, List, [], ◌∷◌, ◌++◌, length, codes, Option, None, Some}
use Rattle.ofx_types.specs.Calendar.{midnight}
use Rattle.ofx_types.specs.DeedForm.{family_of}
use Rattle.ofx_types.specs.declared.account.AcctName.{AcctName}
use Rattle.ofx_types.specs.declared.number.AcctId.{AcctId}
use Rattle.ofx_types.specs.declared.number.ObjectId.{ObjectId}
use Rattle.ofx_types.specs.declared.number.UserId.{UserId}
use Rattle.ofx_types.specs.declared.number.Day.{Day}
use Rattle.ofx_types.specs.declared.number.Moment.{Moment}
use Rattle.ofx_types.specs.declared.transfer.XferCode.TheVariants.{Waiting, Posted}
use Rattle.ofx_types.specs.declared.transfer.XferInfo.{XferInfo}
use Rattle.ofx_types.specs.declared.transfer.Deed.{Deed}
use Rattle.ofx_types.specs.declared.transfer.Deed.TheVariants.{Transfer, ModifyTransfer, CancelTransfer, Model, ModifyModel, CancelModel, BankMail, Mail}
use Rattle.ofx_types.specs.declared.transfer.TransferRow.{TransferRow}
use Rattle.ofx_types.specs.declared.recurring.Recur.{Recur}
use Rattle.ofx_types.specs.declared.recurring.ModelRow.{ModelRow}
use Rattle.ofx_types.specs.declared.mail.MailText.{MailText}
use Rattle.ofx_types.specs.declared.mail.MailRow.{MailRow}
use Rattle.ofx_types.specs.declared.transfer.Change.{Change}
use Rattle.ofx_types.specs.declared.transfer.Change.TheVariants.{NewTransfer, SetTransfer, DropTransfer, NewModel, SetModel, DropModel, NewMail}
use Rattle.ofx_types.specs.declared.transfer.DeedReply.{DeedReply}
use Rattle.bank_model.specs.declared.setup.Setup.{Setup}
use Rattle.bank_model.specs.declared.entry.Entry.{Entry}
use Rattle.bank_model.specs.declared.once.UsedPair.{UsedPair}
use Rattle.bank_model.specs.declared.event.State.{State}
use Rattle.bank_model.specs.SetupLookups.{account_of, user_name}
use Rattle.bank_model.specs.Ledger.{balance, row_of}
use Rattle.bank_model.specs.Models.{model_of, is_model_dropped, waiting_of}
use Rattle.bank_model.specs.Judging.{due_day, is_due, transfer_code, modify_code, cancel_code, model_code, model_modify_code, model_cancel_code, bank_mail_code, mail_code}
use Rattle.bank_model.specs.Once.{is_used}

-- ---- what is refused

-- the balance of a deed's source; an account that the bank hasn't has 0
abbrev pub balance_if_any : Setup → List Entry → Option AcctId → ℤ
balance_if_any setup entries None = pos 0
balance_if_any setup entries (Some account) = balance setup entries account

abbrev pub source_balance : Setup → State → XferInfo → ℤ
source_balance setup S info = balance_if_any setup S.entries (account_of setup info.from)

-- The code of a deed by the table of refusals, apart from used uids and the number of entries.
unfoldable pub judged : Setup → State → UserId → Option AcctId → Deed → ℕ
judged setup S user only (Transfer info) = transfer_code setup user only info S.day (source_balance setup S info)
judged setup S user only (ModifyTransfer id info) = modify_code setup user only (row_of id S.entries) info S.day
judged setup S user only (CancelTransfer id) = cancel_code setup user only (row_of id S.entries)
judged setup S user only (Model recur info) = model_code setup user only info S.day
judged setup S user only (ModifyModel id recur info pending) =
    model_modify_code setup user only (model_of id S.entries) (is_model_dropped id S.entries) info S.day
judged setup S user only (CancelModel id pending) =
    model_cancel_code setup user only (model_of id S.entries) (is_model_dropped id S.entries)
judged setup S user only (BankMail account mail) = bank_mail_code setup user only account mail
judged setup S user only (Mail mail) = mail_code mail

-- ---- what is done

-- Account a has its transfers at 3a, its recurring transfers at 3a + 1 and the mail about it at 3a + 2. For an account that the
-- bank lacks the number is 0; no entry is made for one.
abbrev pub intra_of : Option AcctId → ObjectId
intra_of None = record { 0 = 0 }
intra_of (Some account) = record { 0 = 3 * account.0 }

abbrev pub object_of : Setup → AcctName → ObjectId
object_of setup source = intra_of (account_of setup source)

-- its recurring transfers
abbrev pub recurring_of : Option AcctId → ObjectId
recurring_of None = record { 0 = 0 }
recurring_of (Some account) = record { 0 = 3 * account.0 + 1 }

abbrev pub model_object_of : Setup → AcctName → ObjectId
model_object_of setup source = recurring_of (account_of setup source)

-- the mail about it
abbrev pub mail_about_of : Option AcctId → ObjectId
mail_about_of None = record { 0 = 0 }
mail_about_of (Some account) = record { 0 = 3 * account.0 + 2 }

abbrev pub mail_about_object_of : Setup → AcctName → ObjectId
mail_about_object_of setup about = mail_about_of (account_of setup about)

-- After those of all accounts come the users' other mails.
abbrev pub mail_object : Setup → UserId → ObjectId
mail_object setup user = record { 0 = 3 * length setup.accounts + user.0 }

-- A transfer that is due is posted at once, with the moment as its stamp. Any other waits, and its stamp is the midnight
-- of its due day.
unfoldable pub new_row : ℕ → Moment → Day → XferInfo → TransferRow
new_row id at day info = record {
  id = id;
  model = 0;
  from = info.from;
  to = info.to;
  amount = info.amount;
  due = due_day info day;
  code = if is_due info day then Posted else Waiting;
  stamp = if is_due info day then at else record { 0 = midnight (due_day info day).0 };
}

-- A changed transfer has the new destination, amount and due day, and goes on waiting.
unfoldable pub changed_row : Day → XferInfo → TransferRow → TransferRow
changed_row day info row = record {
  id = row.id;
  model = row.model;
  from = row.from;
  to = info.to;
  amount = info.amount;
  due = due_day info day;
  code = Waiting;
  stamp = record { 0 = midnight (due_day info day).0 };
}

-- the next entry: its number is one more than there are entries
abbrev pub next_entry : State → ObjectId → List ℕ → Change → Entry
next_entry S object trnuid change = record { number = length S.entries + 1; object = object; trnuid = trnuid; change = change }

abbrev pub entry_on : Setup → State → List ℕ → Option TransferRow → (TransferRow → Change) → List Entry
entry_on setup S trnuid None change = []
entry_on setup S trnuid (Some row) change = next_entry S (object_of setup row.from) trnuid (change row) ∷ []

-- A new recurring transfer. Its transfers begin on the day that was asked for.
unfoldable pub new_model : ℕ → Day → Recur → XferInfo → ModelRow
new_model id day recur info = record {
  id = id;
  recur = recur;
  from = info.from;
  to = info.to;
  amount = info.amount;
  first = due_day info day;
}

-- A changed one begins anew with the new destination, amount, first day, frequency and count.
unfoldable pub changed_model : Day → Recur → XferInfo → ModelRow → ModelRow
changed_model day recur info row = record {
  id = row.id;
  recur = recur;
  from = row.from;
  to = info.to;
  amount = info.amount;
  first = due_day info day;
}

-- A transfer that waits while its recurring transfer is changed has the new destination and amount, and keeps its due
-- day.
unfoldable pub with_terms : XferInfo → TransferRow → TransferRow
with_terms info row = record {
  id = row.id;
  model = row.model;
  from = row.from;
  to = info.to;
  amount = info.amount;
  due = row.due;
  code = row.code;
  stamp = row.stamp;
}

-- What the bank does by itself has the uid `0`. The entries follow in the order of the transfers' ids.
unfoldable pub entries_after : Setup → ℕ → (TransferRow → Change) → List TransferRow → List Entry
entries_after setup count change [] = []
entries_after setup count change (row ∷ more) =
    record { number = count + 1; object = object_of setup row.from; trnuid = codes "0"; change = change row }
    ∷ entries_after setup (count + 1) change more

-- Where the client asks so, the transfers that wait are changed or cancelled too.
abbrev pub if_pending : Bool → List Entry → List Entry
if_pending pending entries = if pending then entries else []

abbrev pub model_entries_on : Setup → State → List ℕ → Option ModelRow → (ModelRow → Change) → List Entry → List Entry
model_entries_on setup S trnuid None change more = []
model_entries_on setup S trnuid (Some row) change more =
    next_entry S (model_object_of setup row.from) trnuid (change row) ∷ more

-- A mail is kept with the name of the user who sent it.
abbrev pub mail_row : Setup → UserId → Option AcctName → MailText → MailRow
mail_row setup user about mail = record { about = about; user = user_name setup user; mail = mail }

-- The entries that a deed adds where it isn't refused. Those of transfers are in the history of the source's transfers, those of
-- recurring transfers in the history of the source's recurring transfers. A mail is in that of the mail about its account, or of
-- the user's other mail.
unfoldable pub done : Setup → State → UserId → Moment → List ℕ → Deed → List Entry
done setup S user at trnuid (Transfer info) =
    next_entry S (object_of setup info.from) trnuid (NewTransfer (new_row (length S.entries + 1) at S.day info)) ∷ []
done setup S user at trnuid (ModifyTransfer id info) =
    entry_on setup S trnuid (row_of id S.entries) (λ row. SetTransfer (changed_row S.day info row))
done setup S user at trnuid (CancelTransfer id) = entry_on setup S trnuid (row_of id S.entries) (λ row. DropTransfer id)
done setup S user at trnuid (Model recur info) =
    next_entry S (model_object_of setup info.from) trnuid (NewModel (new_model (length S.entries + 1) S.day recur info)) ∷ []
done setup S user at trnuid (ModifyModel id recur info pending) =
    model_entries_on setup S trnuid (model_of id S.entries) (λ row. SetModel (changed_model S.day recur info row) pending)
    (if_pending pending (entries_after setup (length S.entries + 1) (λ row. SetTransfer (with_terms info row))
    (waiting_of id S.entries)))
done setup S user at trnuid (CancelModel id pending) =
    model_entries_on setup S trnuid (model_of id S.entries) (λ row. DropModel id pending)
    (if_pending pending (entries_after setup (length S.entries + 1) (λ row. DropTransfer row.id) (waiting_of id S.entries)))
done setup S user at trnuid (BankMail account mail) =
    next_entry S (mail_about_object_of setup account) trnuid (NewMail (mail_row setup user (Some account) mail)) ∷ []
done setup S user at trnuid (Mail mail) = next_entry S (mail_object setup user) trnuid (NewMail (mail_row setup user None mail)) ∷ []

-- ---- the code, the answer and the state after it

-- The entries would be more than the bank makes in its life.
abbrev pub is_full : Setup → ℕ → Bool
is_full setup count = nat_lt setup.entries count

abbrev pub unless_full : Bool → ℕ → ℕ
unless_full full code = if code == 0 then (if full then 2000 else 0) else code

-- A uid works once for each user: the second time it gives 2019. Otherwise the code is the table's, and 2000 where the
-- entries of the deed would be too many.
unfoldable pub code_of : Setup → State → UserId → Option AcctId → Moment → List ℕ → Deed → ℕ
code_of setup S user only at trnuid deed =
    if is_used user trnuid S.used then 2019
    else unless_full (is_full setup (length S.entries + length (done setup S user at trnuid deed))) (judged setup S user only deed)

-- Only a deed with code 0 adds entries.
abbrev pub added : Setup → State → UserId → Moment → List ℕ → Deed → ℕ → List Entry
added setup S user at trnuid deed code = if code == 0 then done setup S user at trnuid deed else []

-- A uid is used up whatever came of the deed, unless it was used up before.
abbrev pub used_up : ℕ → UserId → List ℕ → List UsedPair → List UsedPair
used_up code user trnuid used = if code == 2019 then used else used ++ record { user = user; trnuid = trnuid } ∷ []

abbrev pub after_deed : State → UserId → List ℕ → ℕ → List Entry → State
after_deed S user trnuid code entries = record S { entries = S.entries ++ entries; used = used_up code user trnuid S.used }

-- The answer reports the first entry's change, where there is one.
abbrev pub first_change : List Entry → Option Change
first_change [] = None
first_change (entry ∷ more) = Some entry.change

pub record DeedAnswer : Type 0 where
  pub reply : DeedReply
  pub after : State

abbrev pub answer_with : Setup → State → UserId → Moment → List ℕ → Deed → ℕ → DeedAnswer
answer_with setup S user at trnuid deed code =
    let entries = added setup S user at trnuid deed code in
    record {
      reply = record { trnuid = trnuid; family = family_of deed; code = code; change = first_change entries };
      after = after_deed S user trnuid code entries;
    }

unfoldable pub deed_answer : Setup → State → UserId → Option AcctId → Moment → List ℕ → Deed → DeedAnswer
deed_answer setup S user only at trnuid deed = answer_with setup S user at trnuid deed (code_of setup S user only at trnuid deed)
