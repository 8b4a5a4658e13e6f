-- Reading what a file asks: accounts, transfers, mails, deeds, synchronisations, and lists of asks.
use Rattle.std.specs.Prelude.{ℕ, zero, suc, nat_lt, nat_le, ◌==◌, ◌&&◌, ◌||◌, Bool, true, false, if◌then◌else◌, List, [], ◌∷◌, Option, None, Some, Result, Ok, Err}
use Rattle.ofx_types.specs.SyncForm.{object_family}
use Rattle.ofx_types.specs.PrintedFile.{is_mail_ask}
use Rattle.ofx_types.specs.declared.account.AcctKind.{AcctKind}
use Rattle.ofx_types.specs.declared.account.AcctKind.TheVariants.{Checking, Savings, MoneyMarket, CreditLine}
use Rattle.ofx_types.specs.declared.account.AcctName.{AcctName}
use Rattle.ofx_types.specs.declared.recurring.Freq.{Freq}
use Rattle.ofx_types.specs.declared.recurring.Freq.TheVariants.{Weekly, Biweekly, TwiceMonthly, Monthly, FourWeeks, Bimonthly, Quarterly, Semiannually, Annually}
use Rattle.ofx_types.specs.declared.recurring.Recur.{Recur}
use Rattle.ofx_types.specs.declared.mail.MailText.{MailText}
use Rattle.ofx_types.specs.declared.transfer.XferInfo.{XferInfo}
use Rattle.ofx_types.specs.declared.transfer.Deed.{Deed}
use Rattle.ofx_types.specs.declared.transfer.Deed.TheVariants as deeds
use Rattle.ofx_types.specs.declared.transfer.Family.{Family}
use Rattle.ofx_types.specs.declared.transfer.Family.TheVariants as families
use Rattle.ofx_types.specs.declared.sync.ObjectName.{ObjectName}
use Rattle.ofx_types.specs.declared.sync.ObjectName.TheVariants as objects
use Rattle.ofx_types.specs.declared.sync.SyncKind.{SyncKind}
use Rattle.ofx_types.specs.declared.sync.SyncKind.TheVariants.{After, TokenOnly, Refresh}
use Rattle.ofx_types.specs.declared.sync.SyncAsk.{SyncAsk}
use Rattle.ofx_types.specs.declared.request.Period.{Period}
use Rattle.ofx_types.specs.declared.request.Ask.{Ask}
use Rattle.ofx_types.specs.declared.request.Ask.TheVariants as asks
use Rattle.record_fields.specs.FieldReading.{◌>>=◌, u8_at, u16_at, count_at, flag_at, choice_at, optional_at, id_at, amount_at, moment_at, day_at, filled_text_at, given_uid_at}
use Rattle.record_fields.specs.PartReading.{acct_at, info_at, mail_at, recur_at}

-- ---- periods

unfoldable pub period_at : List ℕ → ℕ → Result (Period × ℕ) ℕ
period_at rec at = do
  start ← optional_at moment_at rec at
  end ← optional_at moment_at rec start.1
  include ← flag_at rec end.1
  Ok (record { start = start.0; end = end.0; include = include.0 }, include.1)

-- ---- deeds, each after its kind

unfoldable pub transfer_at : List ℕ → ℕ → Result (Deed × ℕ) ℕ
transfer_at rec at = do
  info ← info_at rec at
  Ok (deeds.Transfer info.0, info.1)

unfoldable pub modify_transfer_at : List ℕ → ℕ → Result (Deed × ℕ) ℕ
modify_transfer_at rec at = do
  id ← id_at rec at
  info ← info_at rec id.1
  Ok (deeds.ModifyTransfer id.0 info.0, info.1)

unfoldable pub cancel_transfer_at : List ℕ → ℕ → Result (Deed × ℕ) ℕ
cancel_transfer_at rec at = do
  id ← id_at rec at
  Ok (deeds.CancelTransfer id.0, id.1)

unfoldable pub model_at : List ℕ → ℕ → Result (Deed × ℕ) ℕ
model_at rec at = do
  recur ← recur_at rec at
  info ← info_at rec recur.1
  Ok (deeds.Model recur.0 info.0, info.1)

unfoldable pub modify_model_at : List ℕ → ℕ → Result (Deed × ℕ) ℕ
modify_model_at rec at = do
  id ← id_at rec at
  recur ← recur_at rec id.1
  info ← info_at rec recur.1
  pending ← flag_at rec info.1
  Ok (deeds.ModifyModel id.0 recur.0 info.0 pending.0, pending.1)

unfoldable pub cancel_model_at : List ℕ → ℕ → Result (Deed × ℕ) ℕ
cancel_model_at rec at = do
  id ← id_at rec at
  pending ← flag_at rec id.1
  Ok (deeds.CancelModel id.0 pending.0, pending.1)

unfoldable pub bank_mail_at : List ℕ → ℕ → Result (Deed × ℕ) ℕ
bank_mail_at rec at = do
  account ← acct_at rec at
  mail ← mail_at rec account.1
  Ok (deeds.BankMail account.0 mail.0, mail.1)

unfoldable pub mail_deed_at : List ℕ → ℕ → Result (Deed × ℕ) ℕ
mail_deed_at rec at = do
  mail ← mail_at rec at
  Ok (deeds.Mail mail.0, mail.1)

-- a deed of the kind that was read at an offset
unfoldable pub deed_of : ℕ → List ℕ → ℕ → ℕ → Result (Deed × ℕ) ℕ
deed_of kind rec at next =
    if kind == 1 then transfer_at rec next
    else (if kind == 2 then modify_transfer_at rec next
    else (if kind == 3 then cancel_transfer_at rec next
    else (if kind == 4 then model_at rec next
    else (if kind == 5 then modify_model_at rec next
    else (if kind == 6 then cancel_model_at rec next
    else (if kind == 7 then bank_mail_at rec next
    else (if kind == 8 then mail_deed_at rec next
    else Err at)))))))

-- which kinds of deeds are of a family
abbrev pub is_kind_of : Family → ℕ → Bool
is_kind_of families.Intra kind = nat_le 1 kind && nat_le kind 3
is_kind_of families.RecIntra kind = nat_le 4 kind && nat_le kind 6
is_kind_of families.BankMail kind = kind == 7
is_kind_of families.Mail kind = kind == 8

-- Where a family is wanted, a deed of any other has no form from its kind on.
abbrev pub is_wanted : Option Family → ℕ → Bool
is_wanted None kind = true
is_wanted (Some family) kind = is_kind_of family kind

unfoldable pub deed_at : Option Family → List ℕ → ℕ → Result (Deed × ℕ) ℕ
deed_at wanted rec at = do
  kind ← u8_at rec at
  if is_wanted wanted kind.0 then deed_of kind.0 rec at kind.1 else Err at

-- ---- synchronisations

unfoldable pub intra_at : List ℕ → ℕ → Result (ObjectName × ℕ) ℕ
intra_at rec at = do
  account ← acct_at rec at
  Ok (objects.Intra account.0, account.1)

unfoldable pub rec_intra_at : List ℕ → ℕ → Result (ObjectName × ℕ) ℕ
rec_intra_at rec at = do
  account ← acct_at rec at
  Ok (objects.RecIntra account.0, account.1)

unfoldable pub bank_mail_object_at : List ℕ → ℕ → Result (ObjectName × ℕ) ℕ
bank_mail_object_at rec at = do
  account ← acct_at rec at
  Ok (objects.BankMail account.0, account.1)

-- an object of the kind that was read at an offset
unfoldable pub object_of : ℕ → List ℕ → ℕ → ℕ → Result (ObjectName × ℕ) ℕ
object_of kind rec at next =
    if kind == 0 then intra_at rec next
    else (if kind == 1 then rec_intra_at rec next
    else (if kind == 2 then bank_mail_object_at rec next
    else (if kind == 3 then Ok (objects.Mail, next)
    else Err at)))

-- After a mail ask an object of an account has no form from its kind on.
unfoldable pub object_at : Bool → List ℕ → ℕ → Result (ObjectName × ℕ) ℕ
object_at is_after_mail rec at = do
  kind ← u8_at rec at
  if is_after_mail && nat_lt kind.0 3 then Err at else object_of kind.0 rec at kind.1

unfoldable pub after_at : List ℕ → ℕ → Result (SyncKind × ℕ) ℕ
after_at rec at = do
  token ← filled_text_at 64 rec at
  Ok (After token.0, token.1)

unfoldable pub sync_kind_at : List ℕ → ℕ → Result (SyncKind × ℕ) ℕ
sync_kind_at rec at = do
  kind ← u8_at rec at
  if kind.0 == 0 then after_at rec kind.1
      else (if kind.0 == 1 then Ok (TokenOnly, kind.1)
      else (if kind.0 == 2 then Ok (Refresh, kind.1)
      else Err at))

unfoldable pub pair_at : Family → List ℕ → ℕ → Result ((List ℕ × Deed) × ℕ) ℕ
pair_at family rec at = do
  uid ← given_uid_at rec at
  deed ← deed_at (Some family) rec uid.1
  Ok ((uid.0, deed.0), deed.1)

-- this many deeds of a family, each under its uid
unfoldable pub pairs_from : ℕ → Family → List ℕ → ℕ → Result (List (List ℕ × Deed) × ℕ) ℕ
pairs_from zero family rec at = Ok ([], at)
pairs_from (suc n) family rec at = do
  first ← pair_at family rec at
  others ← pairs_from n family rec first.1
  Ok (first.0 ∷ others.0, others.1)

unfoldable pub pairs_at : Family → List ℕ → ℕ → Result (List (List ℕ × Deed) × ℕ) ℕ
pairs_at family rec at = do
  count ← u16_at rec at
  pairs_from count.0 family rec count.1

unfoldable pub sync_at : Bool → List ℕ → ℕ → Result (SyncAsk × ℕ) ℕ
sync_at is_after_mail rec at = do
  object ← object_at is_after_mail rec at
  kind ← sync_kind_at rec object.1
  reject ← flag_at rec kind.1
  pairs ← pairs_at (object_family object.0) rec reject.1
  Ok (record { object = object.0; kind = kind.0; reject = reject.0; deeds = pairs.0 }, pairs.1)

-- ---- asks

unfoldable pub statement_at : List ℕ → ℕ → Result (Ask × ℕ) ℕ
statement_at rec at = do
  uid ← given_uid_at rec at
  account ← acct_at rec uid.1
  period ← optional_at period_at rec account.1
  Ok (asks.Statement uid.0 account.0 period.0, period.1)

-- After a mail ask only mail may follow.
abbrev pub wanted_after : Bool → Option Family
wanted_after false = None
wanted_after true = Some families.Mail

unfoldable pub one_at : Bool → List ℕ → ℕ → Result (Ask × ℕ) ℕ
one_at is_after_mail rec at = do
  uid ← given_uid_at rec at
  deed ← deed_at (wanted_after is_after_mail) rec uid.1
  Ok (asks.One uid.0 deed.0, deed.1)

unfoldable pub sync_ask_at : Bool → List ℕ → ℕ → Result (Ask × ℕ) ℕ
sync_ask_at is_after_mail rec at = do
  ask ← sync_at is_after_mail rec at
  Ok (asks.Sync ask.0, ask.1)

-- an ask of the kind that was read at an offset
unfoldable pub ask_of : ℕ → Bool → List ℕ → ℕ → ℕ → Result (Ask × ℕ) ℕ
ask_of kind is_after_mail rec at next =
    if kind == 1 then (if is_after_mail then Err at else statement_at rec next)
    else (if kind == 2 then one_at is_after_mail rec next
    else (if kind == 3 then sync_ask_at is_after_mail rec next
    else Err at))

unfoldable pub ask_at : Bool → List ℕ → ℕ → Result (Ask × ℕ) ℕ
ask_at is_after_mail rec at = do
  kind ← u8_at rec at
  ask_of kind.0 is_after_mail rec at kind.1

-- this many asks, those to the bank before mail
unfoldable pub asks_from : ℕ → Bool → List ℕ → ℕ → Result (List Ask × ℕ) ℕ
asks_from zero is_after_mail rec at = Ok ([], at)
asks_from (suc n) is_after_mail rec at = do
  first ← ask_at is_after_mail rec at
  others ← asks_from n (is_after_mail || is_mail_ask first.0) rec first.1
  Ok (first.0 ∷ others.0, others.1)

unfoldable pub asks_at : List ℕ → ℕ → Result (List Ask × ℕ) ℕ
asks_at rec at = do
  count ← u16_at rec at
  asks_from count.0 false rec count.1
