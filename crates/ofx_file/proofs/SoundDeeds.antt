-- What is read is within the bounds of a bank: texts and uids; and of a deed its accounts, its amount, its due day, its id and
-- its count, and the texts and the moment of a mail.
use Rattle.std.proofs.Common.{◌≡◌, inl, inr, ℕ, ◌<◌, ◌≤◌, ◌^◌, Bool, true, false, cond, ℤ, pos, negsuc, List, [], length, take, Option, None, Some, codes, append-nil, refl, sym, ap, subst, ◌∙◌, arith}
use Rattle.std.proofs.Math.Seq.{take-append_seam}
use Rattle.std.proofs.lemmas.Int.{ints}
use Rattle.std.specs.Option.{IfSome}
use Rattle.std.specs.Prelude.{unwrap_or}
use Rattle.std.specs.Str.Parse.{digits_value}
use Rattle.ofx_types.proofs.Trimming.{file_uid_of_faultless, text_within_in}
use Rattle.ofx_types.specs.TextRules.{IsFileUid}
use Rattle.ofx_types.specs.HeaderForm.{IsHeaderLine, IsUidValue}
use Rattle.ofx_types.specs.Calendar.{IsMoment, IsDay, day_of}
use Rattle.ofx_types.specs.NumberReading.{is_number_within, number_at}
use Rattle.ofx_types.specs.Nodes.{Item}
use Rattle.ofx_types.specs.FormWords.{id_of, IsIdIn}
use Rattle.ofx_types.specs.RequestForm.{IsTrnUidOf, IsAccount}
use Rattle.ofx_types.specs.TransferForm.{IsMaybeDue, HasXferInfo}
use Rattle.ofx_types.specs.RecurringForm.{IsMaybeCount, HasRecur, HasEachInfo}
use Rattle.ofx_types.specs.DeedForm.{IsDeedRequest}
use Rattle.ofx_types.specs.MailForm.{IsMailText, HasMail, IsMailRequest}
use Rattle.ofx_types.specs.SyncForm.{IsTransaction, HasObject}
use Rattle.ofx_types.specs.declared.account.AcctName.{AcctName}
use Rattle.ofx_types.specs.declared.number.Day.{Day}
use Rattle.ofx_types.specs.declared.recurring.Recur.{Recur}
use Rattle.ofx_types.specs.declared.transfer.XferInfo.{XferInfo}
use Rattle.ofx_types.specs.declared.transfer.Deed.{Deed}
use Rattle.ofx_types.specs.declared.transfer.Deed.TheVariants.{Transfer, ModifyTransfer, CancelTransfer, Model, ModifyModel, CancelModel, BankMail, Mail}
use Rattle.ofx_types.specs.declared.mail.MailText.{MailText}
use Rattle.ofx_types.specs.declared.sync.ObjectName.{ObjectName}
use Rattle.ofx_types.specs.declared.sync.ObjectName.TheVariants as objects
use Rattle.ofx_types.proofs.Numbers.{amount_within, digits_within}
use Rattle.bank_model.specs.Sound.{IsClientUid, IsSoundAccount, IsSoundInfo, IsSoundRecur, IsId, IsSoundMail, IsSoundDeed, IsSoundObject}

-- ---- texts and uids

pub client_uid : (wrapper : Item) (trnuid : List ℕ) → IsTrnUidOf wrapper trnuid → IsClientUid trnuid
client_uid wrapper trnuid u =
    let text = text_within_in (codes "TRNUID") 36 wrapper trnuid (omega arith) u.text in
    (u.is_own, record { is_text = text.is_text; is_there = text.is_there; is_within = text.is_within })

take_whole : (text : List ℕ) → take (length text) text ≡ text
take_whole text = ap (take (length text)) (sym (append-nil text)) ∙ take-append_seam text []

pub file_uid : (tag value line : List ℕ) (uid : Option (List ℕ)) → IsHeaderLine tag value line → IsUidValue value uid → IfSome uid IsFileUid
file_uid tag value line None has is = tt
file_uid tag value line (Some uid) has is =
    subst IsFileUid (take_whole uid) (file_uid_of_faultless has.raw uid uid (take_whole uid) (sym is.0 ∙ has.meant) (sym is.1)).1

-- ---- accounts

pub sound_account : (aggregate : Item) (account : AcctName) → IsAccount aggregate account → IsSoundAccount account
sound_account aggregate account a =
    (text_within_in (codes "BANKID") 32 aggregate account.bank (omega arith) a.bank, text_within_in (codes "ACCTID") 32 aggregate account.number (omega arith) a.number)

-- ---- amounts

-- ---- days

day_within : (moment : ℤ) → IsMoment moment → IsDay (day_of moment)
day_within (pos n) h = omega (arith, ints)
day_within (negsuc n) h = omega (arith, ints)

sound_due : (xferinfo : Item) (due : Option Day) → IsMaybeDue xferinfo due → IfSome due (λ (day : Day). IsDay day.0)
sound_due xferinfo None h = tt
sound_due xferinfo (Some day) (moment, there, same) = let holds = there.holds in rw same (day_within moment.0 holds.is_moment)

-- ---- numbers

id_within : (text : List ℕ) → IsId (id_of text)
unfolding number_at
id_within text = by_test (is_number_within 10 text) (digits_within 10 text)
  where
    by_test : (b : Bool) → (b ≡ true → digits_value 10 text < 10 ^ 10) → IsId (unwrap_or (cond b (Some (digits_value 10 text)) None) 0)
    by_test true small = let least : digits_value 10 text < 10 ^ 10 = small refl in omega arith
    by_test false small = omega arith

pub sound_id : (name : List ℕ) (parent : Item) (id : ℕ) → IsIdIn name parent id → IsId id
sound_id name parent id i = rw i.is_id (id_within i.text)

-- three digits stay below 1,000
count_within : (text : List ℕ) (count : ℕ) → number_at 3 text ≡ Some count → count ≤ 999
unfolding number_at
count_within text count h = by_test (is_number_within 3 text) (digits_within 3 text) h
  where
    by_test : (b : Bool) → (b ≡ true → digits_value 10 text < 10 ^ 3) → cond b (Some (digits_value 10 text)) None ≡ Some count → count ≤ 999
    by_test true small e =
        let least : digits_value 10 text < 10 ^ 3 = small refl in
        let same : digits_value 10 text ≡ count = cc in
        omega arith
    by_test false small e = cc

sound_count : (recurrinst : Item) (count : Option ℕ) → IsMaybeCount recurrinst count → IfSome count (λ (n : ℕ). (0 < n) × (n ≤ 999))
sound_count recurrinst None h = tt
sound_count recurrinst (Some count) (there, some) = (some, count_within _ count there.holds)

pub sound_recur : (parent : Item) (recur : Recur) → HasRecur parent recur → IsSoundRecur recur
sound_recur parent recur (recurrinst, only, is) = sound_count recurrinst recur.count is.count

-- ---- deeds

pub sound_info : (parent : Item) (info : XferInfo) → HasXferInfo parent info → IsSoundInfo info
sound_info parent info (xferinfo, only, i) = record {
  from = sound_account i.bankacctfrom info.from i.is_from;
  to = sound_account i.bankacctto info.to i.is_to;
  amount = let holds = i.amount.holds in amount_within _ info.amount.0 holds;
  due = sound_due xferinfo info.due i.due;
}

sound_each : (parent : Item) (info : XferInfo) → HasEachInfo parent info → IsSoundInfo info
sound_each parent info (intrarq, only, has) = sound_info intrarq info has

sound_deed : (request : Item) (deed : Deed) → IsDeedRequest request deed → IsSoundDeed deed
sound_deed request (Transfer info) (name, has) = sound_info request info has
sound_deed request (ModifyTransfer id info) (name, has_id, has) = (sound_id (codes "SRVRTID") request id has_id, sound_info request info has)
sound_deed request (CancelTransfer id) (name, has_id) = sound_id (codes "SRVRTID") request id has_id
sound_deed request (Model recur info) (name, has_recur, has) = (sound_recur request recur has_recur, sound_each request info has)
sound_deed request (ModifyModel id recur info pending) (name, has_id, has_recur, has, has_flag) =
    (sound_id (codes "RECSRVRTID") request id has_id, sound_recur request recur has_recur, sound_each request info has)
sound_deed request (CancelModel id pending) (name, has_id, has_flag) = sound_id (codes "RECSRVRTID") request id has_id
sound_deed request (BankMail account mail) r = absurd r
sound_deed request (Mail mail) r = absurd r

-- ---- mails

pub sound_text : (item : Item) (mail : MailText) → IsMailText item mail → IsSoundMail mail
sound_text item mail m = record {
  created = m.created.holds.is_moment;
  sender = text_within_in (codes "FROM") 32 item mail.sender (omega arith) m.sender;
  target = text_within_in (codes "TO") 32 item mail.target (omega arith) m.target;
  subject = text_within_in (codes "SUBJECT") 64 item mail.subject (omega arith) m.subject;
  body = text_within_in (codes "MSGBODY") 10000 item mail.body (omega arith) m.body;
}

sound_mail : (parent : Item) (mail : MailText) → HasMail parent mail → IsSoundMail mail
sound_mail parent mail (item, only, is) = sound_text item mail is

mail_deed : (transaction : Item) (deed : Deed) → IsMailRequest transaction deed → IsSoundDeed deed
mail_deed transaction (BankMail account mail) (name, (request, only, (from, has, is), text)) = (sound_account from account is, sound_mail request mail text)
mail_deed transaction (Mail mail) (name, (request, only, text)) = sound_mail request mail text
mail_deed transaction deed r = absurd r

-- ---- transactions and objects

pub sound_transaction : (transaction : Item) (deed : List ℕ × Deed) → IsTransaction transaction deed → IsClientUid deed.0 × IsSoundDeed deed.1
sound_transaction transaction deed (inl d) = (client_uid transaction deed.0 d.has_trnuid, sound_deed d.request deed.1 d.is_request)
sound_transaction transaction deed (inr d) = (client_uid transaction deed.0 d.has_trnuid, mail_deed transaction deed.1 d.is_request)

pub sound_object : (sync : Item) (object : ObjectName) → HasObject sync object → IsSoundObject object
sound_object sync (objects.Intra account) (from, only, is) = sound_account from account is
sound_object sync (objects.RecIntra account) (from, only, is) = sound_account from account is
sound_object sync (objects.BankMail account) (from, only, is) = sound_account from account is
sound_object sync objects.Mail h = tt
