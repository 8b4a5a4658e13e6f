-- What holds of a deed whose code is 0.
use Rattle.std.proofs.Common.{◌≡◌, ℕ, ◌<◌, Bool, true, false, not, ◌&&◌, cond, List, [], ◌∷◌, Option, None, Some, ℤ, refl, arith, lit<}
use Rattle.std.specs.Prelude.{is_some}
use Rattle.std.specs.List.{AllByRecursion}
use Rattle.std.proofs.lemmas.Bool.{and_parts}
use Rattle.ofx_types.specs.AccountForm.{same_account}
use Rattle.ofx_types.specs.declared.number.AcctId.{AcctId}
use Rattle.ofx_types.specs.declared.number.UserId.{UserId}
use Rattle.ofx_types.specs.declared.number.Day.{Day}
use Rattle.ofx_types.specs.declared.account.AcctName.{AcctName}
use Rattle.ofx_types.specs.declared.transfer.TransferRow.{TransferRow}
use Rattle.ofx_types.specs.declared.transfer.XferInfo.{XferInfo}
use Rattle.ofx_types.specs.declared.transfer.XferCode.{XferCode}
use Rattle.ofx_types.specs.declared.transfer.XferCode.TheVariants.{Waiting, Posted, NoFunds, Cancelled}
use Rattle.ofx_types.specs.declared.recurring.ModelRow.{ModelRow}
use Rattle.ofx_types.specs.declared.mail.MailText.{MailText}
use Rattle.bank_model.specs.declared.setup.Setup.{Setup}
use Rattle.bank_model.specs.Models.{is_waiting}
use Rattle.bank_model.specs.SetupLookups.{account_of}
use Rattle.bank_model.specs.Ledger.{is_covered}
use Rattle.bank_model.specs.Judging.{Refusal, refused, first_of, is_own, is_own_account, is_destination, is_positive, is_due, is_after, is_cancelled, is_closed, transfer_code, modify_code, cancel_code, model_code, model_modify_code, model_cancel_code, bank_mail_code, is_to_bank}

-- ---- a table in which nothing holds

no_refusal : (holds : Bool) (code rest : ℕ) → 0 < code → cond holds code rest ≡ 0 → (holds ≡ false) × (rest ≡ 0)
no_refusal true code rest some none = absurd (omega arith)
no_refusal false code rest some none = (refl, none)

none_holds : (refusals : List Refusal) → AllByRecursion (λ (refusal : Refusal). 0 < refusal.code) refusals → first_of refusals ≡ 0 → AllByRecursion (λ (refusal : Refusal). refusal.holds ≡ false) refusals
none_holds [] codes none = tt
none_holds (refusal ∷ more) codes none =
    let first = no_refusal refusal.holds refusal.code (first_of more) codes.0 none in
    (first.0, none_holds more codes.1 first.1)

not_not : (b : Bool) → not b ≡ false → b ≡ true
not_not true h = refl
not_not false h = cc

-- the account of a name that is a user's own
own_some : (setup : Setup) (user : UserId) (only found : Option AcctId) → is_own_account setup user only found ≡ true → is_some found ≡ true
own_some setup user only None own = cc
own_some setup user only (Some account) own = refl

abbrev pub IsInBank : Setup → AcctName → Type 0
IsInBank setup name = is_some (account_of setup name) ≡ true

-- ---- transfers

pub record IsTaken (setup : Setup) (info : XferInfo) (day : Day) (balance : ℤ) : Type 0 where
  pub from : IsInBank setup info.from
  pub to : IsInBank setup info.to
  pub apart : same_account info.to info.from ≡ false
  pub positive : is_positive info ≡ true
  pub covered : is_due info day ≡ true → is_covered info.amount.0 balance ≡ true

cover_if_due : (due covered : Bool) → (due && not covered) ≡ false → due ≡ true → covered ≡ true
cover_if_due true true h d = refl
cover_if_due true false h d = cc
cover_if_due false covered h d = cc

destination : (setup : Setup) (info : XferInfo) → is_destination setup info ≡ true → IsInBank setup info.to × (same_account info.to info.from ≡ false)
destination setup info is =
    let both = and_parts (is_some (account_of setup info.to)) (not (same_account info.to info.from)) is in
    (both.0, flip (same_account info.to info.from) both.1)
  where
    flip : (b : Bool) → not b ≡ true → b ≡ false
    flip true h = cc
    flip false h = refl

pub IsTaken-from_code : (setup : Setup) (user : UserId) (only : Option AcctId) (info : XferInfo) (day : Day) (balance : ℤ) → transfer_code setup user only info day balance ≡ 0 → IsTaken setup info day balance
unfolding transfer_code
IsTaken-from_code setup user only info day balance done =
    let none = none_holds (
    refused 2006 (not (is_own setup user only info.from))
    ∷ refused 2009 (not (is_destination setup info))
    ∷ refused 2012 (not (is_positive info))
    ∷ refused 10504 (is_due info day && not (is_covered info.amount.0 balance))
    ∷ []) (lit< tt, (lit< tt, (lit< tt, (lit< tt, tt)))) done in
    let to = destination setup info (not_not (is_destination setup info) none.1.0) in
    record {
      from = own_some setup user only (account_of setup info.from) (not_not (is_own setup user only info.from) none.0);
      to = to.0;
      apart = to.1;
      positive = not_not (is_positive info) none.1.1.0;
      covered = cover_if_due (is_due info day) (is_covered info.amount.0 balance) none.1.1.1.0;
    }

-- ---- changes and cancellations

pub record IsOpen (setup : Setup) (row : TransferRow) : Type 0 where
  pub from : IsInBank setup row.from
  pub cancelled : is_cancelled row.code ≡ false
  pub closed : is_closed row.code ≡ false

pub record IsChange (setup : Setup) (row : TransferRow) (info : XferInfo) (day : Day) : Type 0 where
  pub is_open : IsOpen setup row
  pub from : same_account info.from row.from ≡ true
  pub to : IsInBank setup info.to
  pub apart : same_account info.to info.from ≡ false
  pub positive : is_positive info ≡ true
  pub later : is_after info.due day ≡ true

abbrev open_table : Setup → UserId → Option AcctId → TransferRow → List Refusal → List Refusal
open_table setup user only row more =
    refused 2018 (not (is_own setup user only row.from)) ∷ refused 2017 (is_cancelled row.code) ∷ refused 2016 (is_closed row.code) ∷ more

open_row : (setup : Setup) (user : UserId) (only : Option AcctId) (row : TransferRow) (more : List Refusal) → AllByRecursion (λ (refusal : Refusal). refusal.holds ≡ false) (open_table setup user only row more) → IsOpen setup row
open_row setup user only row more none = record {
  from = own_some setup user only (account_of setup row.from) (not_not (is_own setup user only row.from) none.0);
  cancelled = none.1.0;
  closed = none.1.1.0;
}

pub IsChange-from_code : (setup : Setup) (user : UserId) (only : Option AcctId) (found : Option TransferRow) (info : XferInfo) (day : Day) → modify_code setup user only found info day ≡ 0 → (row : TransferRow) × (found ≡ Some row) × IsChange setup row info day
unfolding modify_code
IsChange-from_code setup user only None info day done = absurd (omega (arith, done))
IsChange-from_code setup user only (Some row) info day done =
    let more : List Refusal =
    refused 2006 (not (same_account info.from row.from))
    ∷ refused 2009 (not (is_destination setup info))
    ∷ refused 2012 (not (is_positive info))
    ∷ refused 2014 (not (is_after info.due day))
    ∷ [] in
    let none = none_holds (open_table setup user only row more) (lit< tt, (lit< tt, (lit< tt, (lit< tt, (lit< tt, (lit< tt, (lit< tt, tt))))))) done in
    let asked = none.1.1.1 in
    let to = destination setup info (not_not (is_destination setup info) asked.1.0) in (
      row,
      refl,
      record {
        is_open = open_row setup user only row more none;
        from = not_not (same_account info.from row.from) asked.0;
        to = to.0;
        apart = to.1;
        positive = not_not (is_positive info) asked.1.1.0;
        later = not_not (is_after info.due day) asked.1.1.1.0;
      },
    )

pub IsOpen-from_code : (setup : Setup) (user : UserId) (only : Option AcctId) (found : Option TransferRow) → cancel_code setup user only found ≡ 0 → (row : TransferRow) × (found ≡ Some row) × IsOpen setup row
unfolding cancel_code
IsOpen-from_code setup user only None done = absurd (omega (arith, done))
IsOpen-from_code setup user only (Some row) done =
    (row, refl, open_row setup user only row [] (none_holds (open_table setup user only row []) (lit< tt, (lit< tt, (lit< tt, tt))) done))

-- A transfer that is neither cancelled nor closed waits.
pub waits_open : (code : XferCode) → is_cancelled code ≡ false → is_closed code ≡ false → is_waiting code ≡ true
waits_open Waiting here unclosed = refl
waits_open Posted here unclosed = cc
waits_open NoFunds here unclosed = cc
waits_open Cancelled here unclosed = cc

pub open_waits : (code : XferCode) → is_waiting code ≡ true → is_cancelled code ≡ false
open_waits Waiting waits = refl
open_waits Posted waits = cc
open_waits NoFunds waits = cc
open_waits Cancelled waits = cc

-- ---- recurring transfers

pub record IsTakenModel (setup : Setup) (info : XferInfo) (day : Day) : Type 0 where
  pub from : IsInBank setup info.from
  pub to : IsInBank setup info.to
  pub apart : same_account info.to info.from ≡ false
  pub positive : is_positive info ≡ true

pub record IsModelOpen (setup : Setup) (row : ModelRow) (cancelled : Bool) : Type 0 where
  pub own : IsInBank setup row.from
  pub goes_on : cancelled ≡ false

pub record IsModelChange (setup : Setup) (row : ModelRow) (info : XferInfo) (day : Day) : Type 0 where
  pub own : IsInBank setup row.from
  pub from : same_account info.from row.from ≡ true
  pub to : IsInBank setup info.to
  pub apart : same_account info.to info.from ≡ false
  pub positive : is_positive info ≡ true

pub IsTakenModel-from_code : (setup : Setup) (user : UserId) (only : Option AcctId) (info : XferInfo) (day : Day) → model_code setup user only info day ≡ 0 → IsTakenModel setup info day
unfolding model_code
IsTakenModel-from_code setup user only info day done =
    let none = none_holds (
    refused 2006 (not (is_own setup user only info.from))
    ∷ refused 2009 (not (is_destination setup info))
    ∷ refused 2012 (not (is_positive info))
    ∷ refused 2014 (not (is_after info.due day))
    ∷ []) (lit< tt, (lit< tt, (lit< tt, (lit< tt, tt)))) done in
    let to = destination setup info (not_not (is_destination setup info) none.1.0) in
    record {
      from = own_some setup user only (account_of setup info.from) (not_not (is_own setup user only info.from) none.0);
      to = to.0;
      apart = to.1;
      positive = not_not (is_positive info) none.1.1.0;
    }

abbrev model_table : Setup → UserId → Option AcctId → ModelRow → Bool → List Refusal → List Refusal
model_table setup user only row cancelled more = refused 10518 (not (is_own setup user only row.from)) ∷ refused 10509 cancelled ∷ more

open_model : (setup : Setup) (user : UserId) (only : Option AcctId) (row : ModelRow) (cancelled : Bool) (more : List Refusal) → AllByRecursion (λ (refusal : Refusal). refusal.holds ≡ false) (model_table setup user only row cancelled more) → IsModelOpen setup row cancelled
open_model setup user only row cancelled more none = record {
  own = own_some setup user only (account_of setup row.from) (not_not (is_own setup user only row.from) none.0);
  goes_on = none.1.0;
}

pub IsModelChange-from_code : (setup : Setup) (user : UserId) (only : Option AcctId) (found : Option ModelRow) (cancelled : Bool) (info : XferInfo) (day : Day) → model_modify_code setup user only found cancelled info day ≡ 0 → (row : ModelRow) × (found ≡ Some row) × (cancelled ≡ false) × IsModelChange setup row info day
unfolding model_modify_code
IsModelChange-from_code setup user only None cancelled info day done = absurd (omega (arith, done))
IsModelChange-from_code setup user only (Some row) cancelled info day done =
    let more : List Refusal =
    refused 2006 (not (same_account info.from row.from))
    ∷ refused 2009 (not (is_destination setup info))
    ∷ refused 2012 (not (is_positive info))
    ∷ refused 2014 (not (is_after info.due day))
    ∷ [] in
    let none = none_holds (model_table setup user only row cancelled more) (lit< tt, (lit< tt, (lit< tt, (lit< tt, (lit< tt, (lit< tt, tt)))))) done in
    let is_open = open_model setup user only row cancelled more none in
    let asked = none.1.1 in
    let to = destination setup info (not_not (is_destination setup info) asked.1.0) in (
      row,
      refl,
      is_open.goes_on,
      record {
        own = is_open.own;
        from = not_not (same_account info.from row.from) asked.0;
        to = to.0;
        apart = to.1;
        positive = not_not (is_positive info) asked.1.1.0;
      },
    )

pub IsModelOpen-from_code : (setup : Setup) (user : UserId) (only : Option AcctId) (found : Option ModelRow) (cancelled : Bool) → model_cancel_code setup user only found cancelled ≡ 0 → (row : ModelRow) × (found ≡ Some row) × IsModelOpen setup row cancelled
unfolding model_cancel_code
IsModelOpen-from_code setup user only None cancelled done = absurd (omega (arith, done))
IsModelOpen-from_code setup user only (Some row) cancelled done =
    (row, refl, open_model setup user only row cancelled [] (none_holds (model_table setup user only row cancelled []) (lit< tt, (lit< tt, tt)) done))

-- ---- mail

pub IsInBank-from_mail_code : (setup : Setup) (user : UserId) (only : Option AcctId) (account : AcctName) (mail : MailText) → bank_mail_code setup user only account mail ≡ 0 → IsInBank setup account
unfolding bank_mail_code
IsInBank-from_mail_code setup user only account mail done =
    let none = none_holds (refused 2003 (not (is_own setup user only account)) ∷ refused 16501 (not (is_to_bank mail)) ∷ []) (lit< tt, (lit< tt, tt)) done in
    own_some setup user only (account_of setup account) (not_not (is_own setup user only account) none.0)
