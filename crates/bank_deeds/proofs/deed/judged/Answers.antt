use Rattle.bank_ledger.specs.DraftView.{drafted}
use Rattle.bank_deeds.proofs.DeedAnswers.{source_held, judged_transfer-is, judged_modify-is, judged_cancel-is, judged_model-is, judged_model_modify-is, judged_model_cancel-is, judged_bank_mail-is, judged_mail-is}
use Rattle.bank_deeds.proofs.deed.judged.Goals as goal

pub returns-in-Transfer : goal.returns-in-Transfer
returns-in-Transfer c =
    judged_transfer-is c.args.draft.now.setup (drafted c.args.draft.now) c.args.draft.now.user c.args.only c.args.deed.now c.in-Transfer.info c.judge_transfer.result c.source_balance-balance.result.0 c.in-Transfer.is c.source_balance-balance.ensures
    (rw (c.setup-setup.ensures.setup, c.user.ensures, c.day.ensures.value) at c.judge_transfer.ensures)

pub returns-in-ModifyTransfer : goal.returns-in-ModifyTransfer
returns-in-ModifyTransfer c =
    judged_modify-is c.args.draft.now.setup (drafted c.args.draft.now) c.args.draft.now.user c.args.only c.args.deed.now c.in-ModifyTransfer.id c.in-ModifyTransfer.info c.row-row.result c.judge_modify.result c.in-ModifyTransfer.is c.row-row.ensures
    (rw (c.setup-setup.ensures.setup, c.user-in-ModifyTransfer.ensures, c.day-in-ModifyTransfer.ensures.value) at c.judge_modify.ensures)

pub returns-in-CancelTransfer : goal.returns-in-CancelTransfer
returns-in-CancelTransfer c =
    judged_cancel-is c.args.draft.now.setup (drafted c.args.draft.now) c.args.draft.now.user c.args.only c.args.deed.now c.in-CancelTransfer.id c.row-row-in-CancelTransfer.result c.judge_cancel.result c.in-CancelTransfer.is c.row-row-in-CancelTransfer.ensures
    (rw (c.setup-setup.ensures.setup, c.user-in-CancelTransfer.ensures) at c.judge_cancel.ensures)

pub returns-in-Model : goal.returns-in-Model
returns-in-Model c =
    judged_model-is c.args.draft.now.setup (drafted c.args.draft.now) c.args.draft.now.user c.args.only c.args.deed.now _ c.in-Model.info c.judge_model.result c.in-Model.is
    (rw (c.setup-setup.ensures.setup, c.user-in-Model.ensures, c.day-in-Model.ensures.value) at c.judge_model.ensures)

pub returns-in-ModifyModel : goal.returns-in-ModifyModel
returns-in-ModifyModel c =
    judged_model_modify-is c.args.draft.now.setup (drafted c.args.draft.now) c.args.draft.now.user c.args.only c.args.deed.now c.in-ModifyModel.id _ c.in-ModifyModel.info _ c.model-row.result c.is_cancelled-cancelled.result c.judge_model_modify.result c.in-ModifyModel.is c.model-row.ensures c.is_cancelled-cancelled.ensures
    (rw (c.setup-setup.ensures.setup, c.user-in-ModifyModel.ensures, c.day-in-ModifyModel.ensures.value) at c.judge_model_modify.ensures)

pub returns-in-CancelModel : goal.returns-in-CancelModel
returns-in-CancelModel c =
    judged_model_cancel-is c.args.draft.now.setup (drafted c.args.draft.now) c.args.draft.now.user c.args.only c.args.deed.now c.in-CancelModel.id _ c.model-row-in-CancelModel.result c.is_cancelled-cancelled-in-CancelModel.result c.judge_model_cancel.result c.in-CancelModel.is c.model-row-in-CancelModel.ensures c.is_cancelled-cancelled-in-CancelModel.ensures
    (rw (c.setup-setup.ensures.setup, c.user-in-CancelModel.ensures) at c.judge_model_cancel.ensures)

pub returns-in-BankMail : goal.returns-in-BankMail
returns-in-BankMail c =
    judged_bank_mail-is c.args.draft.now.setup (drafted c.args.draft.now) c.args.draft.now.user c.args.only c.args.deed.now _ _ c.judge_bank_mail.result c.in-BankMail.is
    (rw (c.setup-setup.ensures.setup, c.user-in-BankMail.ensures) at c.judge_bank_mail.ensures)

pub returns-in-Mail : goal.returns-in-Mail
returns-in-Mail c =
    judged_mail-is c.args.draft.now.setup (drafted c.args.draft.now) c.args.draft.now.user c.args.only c.args.deed.now _ c.judge_mail.result c.in-Mail.is c.judge_mail.ensures

pub source_balance-balance-requires : goal.source_balance-balance-requires
source_balance-balance-requires c = source_held c.args.draft.now.setup c.args.draft.now.held c.args.deed.now c.in-Transfer.info c.in-Transfer.is c.requires
