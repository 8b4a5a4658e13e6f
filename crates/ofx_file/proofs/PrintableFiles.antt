-- What is read may be printed: its days and moments lie in the years 1900 to 9999, and a reply has a body exactly where its
-- code is 0.
use Rattle.std.proofs.Common.{ℕ, inl, inr, List, [], ◌∷◌, ◌++◌, Option, None, Some, codes, sym, subst}
use Rattle.std.specs.List.{AllZip, AllByRecursion}
use Rattle.std.specs.Option.{IfSome}
use Rattle.ofx_types.specs.Calendar.{IsMoment, IsDay}
use Rattle.ofx_types.specs.Nodes.{Item}
use Rattle.ofx_types.specs.ReplyGrammar.{IsStatementLine, IsStatementList, IsMaybeList, IsBodyByCode, IsStatementReply}
use Rattle.ofx_types.specs.TransferForm.{IsRow}
use Rattle.ofx_types.specs.RecurringForm.{first_info, IsModelRow}
use Rattle.ofx_types.specs.DeedForm.{IsChange, IsChangeByCode}
use Rattle.ofx_types.specs.MailForm.{IsMailByCode}
use Rattle.ofx_types.specs.SyncForm.{IsTransactionReply}
use Rattle.ofx_types.specs.MessageForm.{IsAskReply, AreMaybeMessages, bank_reply_names, mail_reply_names}
use Rattle.ofx_types.specs.Printable.{IsPrintableList, HasBodyByCode, IsPrintableRow, IsPrintableChange, HasChangeByCode, IsPrintableReply}
use Rattle.ofx_types.specs.declared.recurring.ModelRow.{ModelRow}
use Rattle.ofx_types.specs.declared.transfer.TransferRow.{TransferRow}
use Rattle.ofx_types.specs.declared.transfer.Deed.{Deed}
use Rattle.ofx_types.specs.declared.transfer.Deed.TheVariants.{Transfer, ModifyTransfer, CancelTransfer, Model, ModifyModel, CancelModel, BankMail, Mail}
use Rattle.ofx_types.specs.declared.transfer.Change.{Change}
use Rattle.ofx_types.specs.declared.transfer.Change.TheVariants.{NewTransfer, SetTransfer, DropTransfer, NewModel, SetModel, DropModel, NewMail}
use Rattle.ofx_types.specs.declared.transfer.Family.{Family}
use Rattle.ofx_types.specs.declared.transfer.Family.TheVariants as families
use Rattle.ofx_types.specs.declared.transfer.DeedReply.{DeedReply}
use Rattle.ofx_types.specs.declared.request.Period.{Period}
use Rattle.ofx_types.specs.declared.request.Ask.{Ask}
use Rattle.ofx_types.specs.declared.request.Ask.TheVariants as asks
use Rattle.ofx_types.specs.declared.reply.StatementLine.{StatementLine}
use Rattle.ofx_types.specs.declared.reply.StatementList.{StatementList}
use Rattle.ofx_types.specs.declared.reply.StatementBody.{StatementBody}
use Rattle.ofx_types.specs.declared.reply.AskReply.{AskReply}
use Rattle.ofx_types.specs.declared.reply.AskReply.TheVariants as replies
use Rattle.bank_model.specs.Sound.{IsSoundPeriod, IsSoundDeed, IsSoundPair, IsSoundAsk}
use Rattle.msg_sync.specs.PrintableSyncs.{IsPrintableTransaction, IsPrintablePair}
use Rattle.ofx_file.specs.Printable.{IsPrintablePeriod, IsPrintableAsk, SoundFilesArePrintable, SpelledRepliesArePrintable}
use Rattle.ofx_file.proofs.SoundDeeds.{sound_info}

-- ---- requests

printable_period : (period : Option Period) → IfSome period IsSoundPeriod → IfSome period IsPrintablePeriod
printable_period None h = tt
printable_period (Some period) (start, end) = record { start = start; end = end }

printable_deed : (deed : Deed) → IsSoundDeed deed → IsPrintableTransaction deed
printable_deed (Transfer info) h = h.due
printable_deed (ModifyTransfer id info) (is_id, h) = h.due
printable_deed (CancelTransfer id) h = tt
printable_deed (Model recur info) (is_recur, h) = h.due
printable_deed (ModifyModel id recur info pending) (is_id, is_recur, h) = h.due
printable_deed (CancelModel id pending) h = tt
printable_deed (BankMail account mail) (is_account, h) = h.created
printable_deed (Mail mail) h = h.created

printable_pairs : (family : Family) (deeds : List (List ℕ × Deed)) → AllByRecursion (IsSoundPair family) deeds → AllByRecursion IsPrintablePair deeds
printable_pairs family [] h = tt
printable_pairs family (deed ∷ deeds) ((own, sound, same), more) = (printable_deed deed.1 sound, printable_pairs family deeds more)

printable_ask : (ask : Ask) → IsSoundAsk ask → IsPrintableAsk ask
printable_ask (asks.Statement trnuid account period) (own, is_account, h) = printable_period period h
printable_ask (asks.One trnuid deed) (own, h) = printable_deed deed h
printable_ask (asks.Sync ask) h = printable_pairs _ ask.deeds h.deeds

printable_asks : (all : List Ask) → AllByRecursion IsSoundAsk all → AllByRecursion IsPrintableAsk all
printable_asks [] h = tt
printable_asks (ask ∷ asks) (h, more) = (printable_ask ask h, printable_asks asks more)

pub sound_files_are_printable : SoundFilesArePrintable
sound_files_are_printable file at h moment = record { moment = moment; asks = printable_asks file.asks h.asks }

-- ---- statements that are told

printable_lines : (items : List Item) (lines : List StatementLine) → AllZip IsStatementLine items lines →
    AllByRecursion (λ (line : StatementLine). IsMoment line.posted.0) lines
printable_lines [] [] h = tt
printable_lines [] (line ∷ lines) h = absurd h
printable_lines (item ∷ items) [] h = absurd h
printable_lines (item ∷ items) (line ∷ lines) (h, more) = (h.posted.holds.is_moment, printable_lines items lines more)

printable_list : (banktranlist : Item) (list : StatementList) → IsStatementList banktranlist list → IsPrintableList list
printable_list banktranlist list h = record {
  start = h.start.holds.is_moment;
  end = h.end.holds.is_moment;
  lines = printable_lines _ list.lines h.lines;
}

printable_maybe_list : (stmtrs : Item) (list : Option StatementList) → IsMaybeList stmtrs list → IfSome list IsPrintableList
printable_maybe_list stmtrs None h = tt
printable_maybe_list stmtrs (Some list) (banktranlist, only, h) = printable_list banktranlist list h

printable_body : (code : ℕ) (stmttrnrs : Item) (body : Option StatementBody) → IsBodyByCode code stmttrnrs body → HasBodyByCode code body
printable_body code stmttrnrs None h = h
printable_body code stmttrnrs (Some body) (done, (stmtrs, only, h)) =
    (done, record { list = printable_maybe_list stmtrs body.list h.is_list; moment = h.is_ledger.has_moment.holds.is_moment })

printable_statement : (item : Item) (reply : AskReply) → IsStatementReply item reply → IsPrintableReply reply
printable_statement item reply s =
    let P : AskReply → Type 0 = λ reported. IsPrintableReply reported in
    subst P (sym s.is_reply) (printable_body s.code item s.body s.is_body)

-- ---- deeds that are told

printable_row : (reply : Item) (row : TransferRow) → IsRow reply row → IsPrintableRow row
printable_row reply row h = record {
  reported = h.processing.is_reported;
  due = (sound_info reply _ h.info).due;
  stamp = h.processing.has_stamp.holds.is_moment;
}

first_day : (reply : Item) (row : ModelRow) → IsModelRow reply row → IsDay row.first.0
first_day reply row h = let first = h.is_first in (sound_info first.intrars (first_info row) first.has_info).due

printable_change : (reply : Item) (change : Change) → IsChange reply change → IsPrintableChange change
printable_change reply (NewTransfer row) (name, is, model) = printable_row reply row is
printable_change reply (SetTransfer row) (name, is, model) = printable_row reply row is
printable_change reply (DropTransfer id) h = tt
printable_change reply (NewModel row) (name, is) = first_day reply row is
printable_change reply (SetModel row pending) (name, is, flag) = first_day reply row is
printable_change reply (DropModel id pending) h = tt
printable_change reply (NewMail row) h = absurd h

printable_by_code : (code : ℕ) (family : Family) (item : Item) (change : Option Change) → IsChangeByCode code family item change → HasChangeByCode code change
printable_by_code code family item None h = h
printable_by_code code family item (Some change) (done, (reply, only, is)) = (done, printable_change reply change is)

printable_mail : (code : ℕ) (family : Family) (item : Item) (change : Option Change) → IsMailByCode code family item change → HasChangeByCode code change
printable_mail code families.BankMail item (Some (NewMail row)) (done, (reply, only, (account, about, from, (mail, is, user, h)))) = (done, h.created.holds.is_moment)
printable_mail code families.Mail item (Some (NewMail row)) (done, (reply, only, about, (mail, is, user, h))) = (done, h.created.holds.is_moment)
printable_mail code family item (Some change) h = absurd h
printable_mail code family item None h = h

printable_transaction : (item : Item) (reply : DeedReply) → IsTransactionReply item reply → HasChangeByCode reply.code reply.change
printable_transaction item reply (inl h) = printable_by_code reply.code reply.family item reply.change h.is_change
printable_transaction item reply (inr h) = printable_mail reply.code reply.family item reply.change h.is_change

printable_transactions : (items : List Item) (reported : List DeedReply) → AllZip IsTransactionReply items reported →
    AllByRecursion (λ (answer : DeedReply). HasChangeByCode answer.code answer.change) reported
printable_transactions [] [] h = tt
printable_transactions [] (reply ∷ reported) h = absurd h
printable_transactions (item ∷ items) [] h = absurd h
printable_transactions (item ∷ items) (reply ∷ reported) (h, more) = (printable_transaction item reply h, printable_transactions items reported more)

-- ---- message sets

printable_reply : (item : Item) (reply : AskReply) → IsAskReply item reply → IsPrintableReply reply
printable_reply item (replies.Statement trnuid code body) (name, is) = printable_statement item (replies.Statement trnuid code body) is
printable_reply item (replies.One answer) is = printable_transaction item answer is
printable_reply item (replies.Sync answer) is = printable_transactions _ answer.replies is.replies

printable_each : (items : List Item) (reported : List AskReply) → AllZip IsAskReply items reported → AllByRecursion IsPrintableReply reported
printable_each [] [] h = tt
printable_each [] (reply ∷ reported) h = absurd h
printable_each (item ∷ items) [] h = absurd h
printable_each (item ∷ items) (reply ∷ reported) (h, more) = (printable_reply item reply h, printable_each items reported more)

printable_set : (name : List ℕ) (names : List (List ℕ)) (ofx : Item) (reported : List AskReply) → AreMaybeMessages IsAskReply name names ofx reported → AllByRecursion IsPrintableReply reported
printable_set name names ofx reported (inl (none, empty)) = rw empty tt
printable_set name names ofx reported (inr (set, is, are)) = printable_each _ reported are

both_printable : (bank mail : List AskReply) → AllByRecursion IsPrintableReply bank → AllByRecursion IsPrintableReply mail → AllByRecursion IsPrintableReply (bank ++ mail)
both_printable [] mail h i = i
both_printable (reply ∷ bank) mail (h, more) i = (h, both_printable bank mail more i)

pub spelled_replies_are_printable : SpelledRepliesArePrintable
spelled_replies_are_printable bytes reply s =
    let r = s.form in
    let P : List AskReply → Type 0 = λ reported. AllByRecursion IsPrintableReply reported in
    record {
      moment = r.is_signon.has_moment.holds.is_moment;
      replies = subst P (sym r.are_answers) (both_printable r.bank r.mail
          (printable_set (codes "BANKMSGSRSV1") bank_reply_names s.ofx r.bank r.are_bank)
          (printable_set (codes "EMAILMSGSRSV1") mail_reply_names s.ofx r.mail r.are_mail));
    }
