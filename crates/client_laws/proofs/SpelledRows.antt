-- The rows of a reply that bytes spell have their values within their bounds.
use Rattle.std.proofs.Common.{◌≡◌, inl, inr, ℕ, List, [], ◌∷◌, ◌++◌, Option, None, Some, codes, sym, subst, arith}
use Rattle.std.specs.List.{AllByRecursion, AllZip}
use Rattle.std.specs.Option.{IfSome}
use Rattle.ofx_types.specs.Nodes.{Item}
use Rattle.ofx_types.specs.Bounds.{IsId}
use Rattle.ofx_types.specs.FormWords.{IsMaybeIdIn}
use Rattle.ofx_types.specs.TransferForm.{IsRow, info_of}
use Rattle.ofx_types.specs.RecurringForm.{IsModelRow, first_info}
use Rattle.ofx_types.specs.DeedForm.{IsChange, IsChangeByCode, IsDeedReply}
use Rattle.ofx_types.specs.MailForm.{HasMailOf, IsBankMailRow, IsPlainMailRow, IsMailByCode, IsMailReply}
use Rattle.ofx_types.specs.SyncForm.{IsTransactionReply, IsSyncReply}
use Rattle.ofx_types.specs.MessageForm.{IsAskReply, AreMaybeMessages, bank_reply_names, mail_reply_names}
use Rattle.ofx_types.specs.FileForm.{SpellsReply}
use Rattle.ofx_types.specs.declared.account.AcctName.{AcctName}
use Rattle.ofx_types.specs.declared.recurring.ModelRow.{ModelRow}
use Rattle.ofx_types.specs.declared.mail.MailRow.{MailRow}
use Rattle.ofx_types.specs.declared.transfer.TransferRow.{TransferRow}
use Rattle.ofx_types.specs.declared.transfer.Change.{Change}
use Rattle.ofx_types.specs.declared.transfer.Change.TheVariants.{NewTransfer, SetTransfer, DropTransfer, NewModel, SetModel, DropModel, NewMail}
use Rattle.ofx_types.specs.declared.transfer.DeedReply.{DeedReply}
use Rattle.ofx_types.specs.declared.transfer.Family.{Family}
use Rattle.ofx_types.specs.declared.transfer.Family.TheVariants as families
use Rattle.ofx_types.specs.declared.reply.AskReply.{AskReply}
use Rattle.ofx_types.specs.declared.reply.AskReply.TheVariants as replies
use Rattle.ofx_types.specs.declared.reply.ReplyFile.{ReplyFile}
use Rattle.ofx_types.proofs.Trimming.{text_within_in}
use Rattle.bank_model.specs.Sound.{IsSoundAccount}
use Rattle.ofx_file.proofs.SoundDeeds.{sound_account, sound_id, sound_recur, sound_info, sound_text}
use Rattle.client_saved.specs.Bounds.{IsSoundTransfer, IsSoundModel, IsSoundMailRow}
use Rattle.client_core.specs.ReportLines.{IsSoundChange, IsSoundDeedReply, IsSoundReply}

-- ---- parts

maybe_id : (name : List ℕ) (parent : Item) (id : ℕ) → IsMaybeIdIn name parent id → IsId id
maybe_id name parent id (inl none) = subst IsId (sym none.1) (omega arith)
maybe_id name parent id (inr there) = sound_id name parent id there

-- ---- rows

spelled_row : (reply : Item) (row : TransferRow) → IsRow reply row → IsId row.model → IsSoundTransfer row
spelled_row reply row is few =
    let info = sound_info reply (info_of row) is.info in
    record {
      id = sound_id (codes "SRVRTID") reply row.id is.id;
      model = few;
      from = info.from;
      to = info.to;
      amount = info.amount;
      due = info.due;
      stamp = let stamp = is.processing.has_stamp in stamp.holds.is_moment;
    }

spelled_model : (reply : Item) (row : ModelRow) → IsModelRow reply row → IsSoundModel row
spelled_model reply row is =
    let each = is.is_first in
    let info = sound_info each.intrars (first_info row) each.has_info in
    record {
      id = sound_id (codes "RECSRVRTID") reply row.id is.id;
      recur = sound_recur reply row.recur is.recur;
      from = info.from;
      to = info.to;
      amount = info.amount;
      first = info.due;
    }

spelled_change : (reply : Item) (change : Change) → IsChange reply change → IsSoundChange change
spelled_change reply (NewTransfer row) (name, is, made_by) = spelled_row reply row is (maybe_id (codes "RECSRVRTID") reply row.model made_by)
spelled_change reply (SetTransfer row) (name, is, made_by) = spelled_row reply row is (subst IsId (sym made_by) (omega arith))
spelled_change reply (DropTransfer id) (name, is) = sound_id (codes "SRVRTID") reply id is
spelled_change reply (NewModel row) (name, is) = spelled_model reply row is
spelled_change reply (SetModel row pending) (name, is, flag) = spelled_model reply row is
spelled_change reply (DropModel id pending) (name, is, flag) = sound_id (codes "RECSRVRTID") reply id is
spelled_change reply (NewMail row) is = absurd is

mail_of : (parent : Item) (row : MailRow) → HasMailOf parent row.user row.mail → IfSome row.about IsSoundAccount → IsSoundMailRow row
mail_of parent row (item, only, user, is) about = record {
  about = about;
  user = text_within_in (codes "USERID") 32 item row.user (omega arith) user;
  mail = sound_text item row.mail is;
}

bank_mail : (transaction : Item) (row : MailRow) → IsBankMailRow transaction row → IsSoundMailRow row
bank_mail transaction row (reply, only, (account, about, (from, has, is), mail)) =
    mail_of reply row mail (subst (λ (a : Option AcctName). IfSome a IsSoundAccount) (sym about) (sound_account from account is))

plain_mail : (transaction : Item) (row : MailRow) → IsPlainMailRow transaction row → IsSoundMailRow row
plain_mail transaction row (reply, only, about, mail) = mail_of reply row mail (subst (λ (a : Option AcctName). IfSome a IsSoundAccount) (sym about) tt)

-- ---- answers

by_code : (code : ℕ) (family : Family) (transaction : Item) (change : Option Change) → IsChangeByCode code family transaction change → IfSome change IsSoundChange
by_code code family transaction None is = tt
by_code code family transaction (Some change) (zero_code, (reply, only, is)) = spelled_change reply change is

mail_by_code : (code : ℕ) (family : Family) (transaction : Item) (change : Option Change) → IsMailByCode code family transaction change → IfSome change IsSoundChange
mail_by_code code family transaction None is = tt
mail_by_code code families.BankMail transaction (Some (NewMail row)) is = bank_mail transaction row is.1
mail_by_code code families.Mail transaction (Some (NewMail row)) is = plain_mail transaction row is.1
mail_by_code code families.Intra transaction (Some (NewMail row)) is = absurd is
mail_by_code code families.RecIntra transaction (Some (NewMail row)) is = absurd is
mail_by_code code families.Intra transaction (Some change) is = absurd is
mail_by_code code families.RecIntra transaction (Some change) is = absurd is
mail_by_code code families.BankMail transaction (Some (NewTransfer row)) is = absurd is
mail_by_code code families.BankMail transaction (Some (SetTransfer row)) is = absurd is
mail_by_code code families.BankMail transaction (Some (DropTransfer id)) is = absurd is
mail_by_code code families.BankMail transaction (Some (NewModel row)) is = absurd is
mail_by_code code families.BankMail transaction (Some (SetModel row pending)) is = absurd is
mail_by_code code families.BankMail transaction (Some (DropModel id pending)) is = absurd is
mail_by_code code families.Mail transaction (Some (NewTransfer row)) is = absurd is
mail_by_code code families.Mail transaction (Some (SetTransfer row)) is = absurd is
mail_by_code code families.Mail transaction (Some (DropTransfer id)) is = absurd is
mail_by_code code families.Mail transaction (Some (NewModel row)) is = absurd is
mail_by_code code families.Mail transaction (Some (SetModel row pending)) is = absurd is
mail_by_code code families.Mail transaction (Some (DropModel id pending)) is = absurd is

spelled_answer : (transaction : Item) (reply : DeedReply) → IsTransactionReply transaction reply → IsSoundDeedReply reply
spelled_answer transaction reply (inl is) = by_code reply.code reply.family transaction reply.change is.is_change
spelled_answer transaction reply (inr is) = mail_by_code reply.code reply.family transaction reply.change is.is_change

spelled_answers : (items : List Item) (reported : List DeedReply) → AllZip IsTransactionReply items reported → AllByRecursion IsSoundDeedReply reported
spelled_answers [] [] are = tt
spelled_answers [] (reply ∷ reported) are = absurd are
spelled_answers (item ∷ items) [] are = absurd are
spelled_answers (item ∷ items) (reply ∷ reported) are = (spelled_answer item reply are.0, spelled_answers items reported are.1)

spelled_reply : (item : Item) (reply : AskReply) → IsAskReply item reply → IsSoundReply reply
spelled_reply item (replies.Statement trnuid code body) is = tt
spelled_reply item (replies.One reply) is = spelled_answer item reply is
spelled_reply item (replies.Sync reply) is = let all = is.replies in spelled_answers _ reply.replies all

spelled_each : (items : List Item) (reported : List AskReply) → AllZip IsAskReply items reported → AllByRecursion IsSoundReply reported
spelled_each [] [] are = tt
spelled_each [] (reply ∷ reported) are = absurd are
spelled_each (item ∷ items) [] are = absurd are
spelled_each (item ∷ items) (reply ∷ reported) are = (spelled_reply item reply are.0, spelled_each items reported are.1)

spelled_set : (name : List ℕ) (names : List (List ℕ)) (ofx : Item) (reported : List AskReply) → AreMaybeMessages IsAskReply name names ofx reported
    → AllByRecursion IsSoundReply reported
spelled_set name names ofx reported (inl none) = subst (AllByRecursion IsSoundReply) (sym none.1) tt
spelled_set name names ofx reported (inr (set, only, are)) = spelled_each _ reported are

both_sets : (xs ys : List AskReply) → AllByRecursion IsSoundReply xs → AllByRecursion IsSoundReply ys → AllByRecursion IsSoundReply (xs ++ ys)
both_sets [] ys first second = second
both_sets (x ∷ xs) ys first second = (first.0, both_sets xs ys first.1 second)

pub spelled_file : (bytes : List ℕ) (reply : ReplyFile) → SpellsReply bytes reply → AllByRecursion IsSoundReply reply.replies
spelled_file bytes reply is =
    let form = is.form in
    subst (AllByRecursion IsSoundReply) (sym form.are_answers)
    (both_sets form.bank form.mail (spelled_set (codes "BANKMSGSRSV1") bank_reply_names is.ofx form.bank form.are_bank)
    (spelled_set (codes "EMAILMSGSRSV1") mail_reply_names is.ofx form.mail form.are_mail))
