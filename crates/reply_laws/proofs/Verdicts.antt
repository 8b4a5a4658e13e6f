-- The code of a deed has at most five digits.
use Rattle.std.proofs.Common.{ℕ, ◌+◌, ◌≤◌, Bool, true, false, not, cond, eqb, List, [], ◌∷◌, length, Option, None, Some, arith}
use Rattle.ofx_types.specs.declared.number.AcctId.{AcctId}
use Rattle.ofx_types.specs.declared.number.UserId.{UserId}
use Rattle.ofx_types.specs.declared.number.Moment.{Moment}
use Rattle.ofx_types.specs.declared.transfer.TransferRow.{TransferRow}
use Rattle.ofx_types.specs.declared.recurring.ModelRow.{ModelRow}
use Rattle.ofx_types.specs.declared.transfer.Deed.{Deed}
use Rattle.ofx_types.specs.declared.transfer.Deed.TheVariants.{Transfer, ModifyTransfer, CancelTransfer, Model, ModifyModel, CancelModel, BankMail, Mail}
use Rattle.bank_model.specs.declared.setup.Setup.{Setup}
use Rattle.bank_model.specs.declared.event.State.{State}
use Rattle.bank_model.specs.Once.{is_used}
use Rattle.bank_model.specs.Ledger.{row_of}
use Rattle.bank_model.specs.Models.{model_of, is_model_dropped}
use Rattle.bank_model.specs.Judging.{Refusal, refused, first_of, is_own, is_cancelled, is_closed, row_code, model_row_code, transfer_code, modify_code, cancel_code, model_code, model_modify_code, model_cancel_code, bank_mail_code, mail_code}
use Rattle.bank_model.specs.Deeds.{judged, done, is_full, code_of}

either_short : (b : Bool) (m n : ℕ) → m ≤ 65535 → n ≤ 65535 → cond b m n ≤ 65535
either_short true m n first second = first
either_short false m n first second = second

row_short : (setup : Setup) (user : UserId) (only : Option AcctId) (found : Option TransferRow) (more : TransferRow → List Refusal) → ((row : TransferRow) → first_of (more row) ≤ 65535) → row_code setup user only found more ≤ 65535
row_short setup user only None more all = omega arith
row_short setup user only (Some row) more all =
    either_short (not (is_own setup user only row.from)) 2018 _ (omega arith)
    (either_short (is_cancelled row.code) 2017 _ (omega arith) (either_short (is_closed row.code) 2016 _ (omega arith) (all row)))

model_short : (setup : Setup) (user : UserId) (only : Option AcctId) (found : Option ModelRow) (cancelled : Bool) (more : ModelRow → List Refusal) → ((row : ModelRow) → first_of (more row) ≤ 65535) → model_row_code setup user only found cancelled more ≤ 65535
model_short setup user only None cancelled more all = omega arith
model_short setup user only (Some row) cancelled more all =
    either_short (not (is_own setup user only row.from)) 10518 _ (omega arith) (either_short cancelled 10509 _ (omega arith) (all row))

four_short : (a b c d : Bool) (last : ℕ) → last ≤ 65535 → first_of (refused 2006 a ∷ refused 2009 b ∷ refused 2012 c ∷ refused last d ∷ []) ≤ 65535
four_short a b c d last short =
    either_short a 2006 _ (omega arith) (either_short b 2009 _ (omega arith) (either_short c 2012 _ (omega arith) (either_short d last 0 short (omega arith))))

judged_short : (setup : Setup) (S : State) (user : UserId) (only : Option AcctId) (deed : Deed) → judged setup S user only deed ≤ 65535
unfolding judged transfer_code modify_code cancel_code model_code model_modify_code model_cancel_code bank_mail_code mail_code
judged_short setup S user only (Transfer info) = four_short _ _ _ _ 10504 (omega arith)
judged_short setup S user only (ModifyTransfer id info) = row_short setup user only (row_of id S.entries) _ (λ row. four_short _ _ _ _ 2014 (omega arith))
judged_short setup S user only (CancelTransfer id) = row_short setup user only (row_of id S.entries) _ (λ row. omega arith)
judged_short setup S user only (Model recur info) = four_short _ _ _ _ 2014 (omega arith)
judged_short setup S user only (ModifyModel id recur info also) =
    model_short setup user only (model_of id S.entries) (is_model_dropped id S.entries) _ (λ row. four_short _ _ _ _ 2014 (omega arith))
judged_short setup S user only (CancelModel id also) =
    model_short setup user only (model_of id S.entries) (is_model_dropped id S.entries) _ (λ row. omega arith)
judged_short setup S user only (BankMail about mail) = either_short _ 2003 _ (omega arith) (either_short _ 16501 0 (omega arith) (omega arith))
judged_short setup S user only (Mail mail) = either_short _ 16501 0 (omega arith) (omega arith)

pub code_short : (setup : Setup) (S : State) (user : UserId) (only : Option AcctId) (at : Moment) (trnuid : List ℕ) (deed : Deed) → code_of setup S user only at trnuid deed ≤ 65535
unfolding code_of
code_short setup S user only at trnuid deed =
    let code : ℕ = judged setup S user only deed in
    either_short (is_used user trnuid S.used) 2019 _ (omega arith)
    (either_short (eqb code 0) _ code (either_short (is_full setup (length S.entries + length (done setup S user at trnuid deed))) 2000 0 (omega arith) (omega arith)) (judged_short setup S user only deed))
