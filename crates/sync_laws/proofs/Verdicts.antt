-- Whose the accounts are of a deed whose code is 0, and what is free to be changed or cancelled.
use Rattle.std.proofs.Common.{◌≡◌, ◌≢◌, ℕ, Bool, true, false, not, cond, List, ◌∷◌, Option, None, Some, ℤ, refl, arith}
use Rattle.ofx_types.specs.declared.number.AcctId.{AcctId}
use Rattle.ofx_types.specs.declared.number.UserId.{UserId}
use Rattle.ofx_types.specs.declared.number.Day.{Day}
use Rattle.ofx_types.specs.declared.account.AcctName.{AcctName}
use Rattle.ofx_types.specs.declared.mail.MailText.{MailText}
use Rattle.ofx_types.specs.declared.transfer.TransferRow.{TransferRow}
use Rattle.ofx_types.specs.declared.transfer.XferInfo.{XferInfo}
use Rattle.ofx_types.specs.declared.recurring.ModelRow.{ModelRow}
use Rattle.bank_model.specs.declared.setup.Setup.{Setup}
use Rattle.bank_model.specs.Models.{is_waiting}
use Rattle.bank_model.specs.Judging.{Refusal, refused, first_of, is_own, is_cancelled, is_closed, row_code, model_row_code, transfer_code, modify_code, cancel_code, model_code, model_modify_code, model_cancel_code, bank_mail_code}
use Rattle.bank_invariants.proofs.Verdicts.{waits_open}

-- ---- a table in which nothing holds

no_refusal : (holds : Bool) (code rest : ℕ) → code ≢ 0 → cond holds code rest ≡ 0 → (holds ≡ false) × (rest ≡ 0)
no_refusal true code rest some none = absurd (some none)
no_refusal false code rest some none = (refl, none)

own_first : (own : Bool) (code rest : ℕ) → code ≢ 0 → cond (not own) code rest ≡ 0 → (own ≡ true) × (rest ≡ 0)
own_first true code rest some none = (refl, none)
own_first false code rest some none = absurd (some none)

-- ---- transfers

-- a transfer that may be changed or cancelled
pub record IsFree (setup : Setup) (user : UserId) (only : Option AcctId) (found : Option TransferRow) : Type 0 where
  pub row : TransferRow
  pub is : found ≡ Some row
  pub own : is_own setup user only row.from ≡ true
  pub waits : is_waiting row.code ≡ true

free_row : (setup : Setup) (user : UserId) (only : Option AcctId) (found : Option TransferRow) (more : TransferRow → List Refusal) → row_code setup user only found more ≡ 0 → IsFree setup user only found
free_row setup user only None more none = absurd (omega (arith, none))
free_row setup user only (Some row) more none =
    let own = own_first (is_own setup user only row.from) 2018 (first_of (refused 2017 (is_cancelled row.code) ∷ refused 2016 (is_closed row.code) ∷ more row)) (λ (e : 2018 ≡ 0). omega arith) none in
    let here = no_refusal (is_cancelled row.code) 2017 (first_of (refused 2016 (is_closed row.code) ∷ more row)) (λ (e : 2017 ≡ 0). omega arith) own.1 in
    let unclosed = no_refusal (is_closed row.code) 2016 (first_of (more row)) (λ (e : 2016 ≡ 0). omega arith) here.1 in
    record { row = row; is = refl; own = own.0; waits = waits_open row.code here.0 unclosed.0 }

pub free_to_modify : (setup : Setup) (user : UserId) (only : Option AcctId) (found : Option TransferRow) (info : XferInfo) (day : Day) → modify_code setup user only found info day ≡ 0 → IsFree setup user only found
unfolding modify_code
free_to_modify setup user only found info day none = free_row setup user only found _ none

pub free_to_cancel : (setup : Setup) (user : UserId) (only : Option AcctId) (found : Option TransferRow) → cancel_code setup user only found ≡ 0 → IsFree setup user only found
unfolding cancel_code
free_to_cancel setup user only found none = free_row setup user only found _ none

pub own_transfer : (setup : Setup) (user : UserId) (only : Option AcctId) (info : XferInfo) (day : Day) (balance : ℤ) → transfer_code setup user only info day balance ≡ 0 → is_own setup user only info.from ≡ true
unfolding transfer_code
own_transfer setup user only info day balance none = (own_first (is_own setup user only info.from) 2006 _ (λ (e : 2006 ≡ 0). omega arith) none).0

-- ---- recurring transfers

-- a recurring transfer that may be changed or cancelled
pub record IsModelFree (setup : Setup) (user : UserId) (only : Option AcctId) (found : Option ModelRow) (cancelled : Bool) : Type 0 where
  pub row : ModelRow
  pub is : found ≡ Some row
  pub own : is_own setup user only row.from ≡ true
  pub goes_on : cancelled ≡ false

free_model : (setup : Setup) (user : UserId) (only : Option AcctId) (found : Option ModelRow) (cancelled : Bool) (more : ModelRow → List Refusal) → model_row_code setup user only found cancelled more ≡ 0 → IsModelFree setup user only found cancelled
free_model setup user only None cancelled more none = absurd (omega (arith, none))
free_model setup user only (Some row) cancelled more none =
    let own = own_first (is_own setup user only row.from) 10518 (first_of (refused 10509 cancelled ∷ more row)) (λ (e : 10518 ≡ 0). omega arith) none in
    let here = no_refusal cancelled 10509 (first_of (more row)) (λ (e : 10509 ≡ 0). omega arith) own.1 in
    record { row = row; is = refl; own = own.0; goes_on = here.0 }

pub free_model_to_modify : (setup : Setup) (user : UserId) (only : Option AcctId) (found : Option ModelRow) (cancelled : Bool) (info : XferInfo) (day : Day) → model_modify_code setup user only found cancelled info day ≡ 0 → IsModelFree setup user only found cancelled
unfolding model_modify_code
free_model_to_modify setup user only found cancelled info day none = free_model setup user only found cancelled _ none

pub free_model_to_cancel : (setup : Setup) (user : UserId) (only : Option AcctId) (found : Option ModelRow) (cancelled : Bool) → model_cancel_code setup user only found cancelled ≡ 0 → IsModelFree setup user only found cancelled
unfolding model_cancel_code
free_model_to_cancel setup user only found cancelled none = free_model setup user only found cancelled _ none

pub own_model : (setup : Setup) (user : UserId) (only : Option AcctId) (info : XferInfo) (day : Day) → model_code setup user only info day ≡ 0 → is_own setup user only info.from ≡ true
unfolding model_code
own_model setup user only info day none = (own_first (is_own setup user only info.from) 2006 _ (λ (e : 2006 ≡ 0). omega arith) none).0

-- ---- mail

pub own_letter : (setup : Setup) (user : UserId) (only : Option AcctId) (about : AcctName) (mail : MailText) → bank_mail_code setup user only about mail ≡ 0 → is_own setup user only about ≡ true
unfolding bank_mail_code
own_letter setup user only about mail none = (own_first (is_own setup user only about) 2003 _ (λ (e : 2003 ≡ 0). omega arith) none).0
