use Rattle.std.proofs.Common.{subst}
use Rattle.ofx_types.specs.declared.transfer.Deed.{Deed}
use Rattle.bank_model.specs.Rules.{named_by_deed}
use Rattle.bank_accounts.specs.HeldAccounts.{AreHeld}
use Rattle.bank_ledger.specs.DraftView.{drafted}
use Rattle.bank_deeds.specs.Unrefused.{IsUnrefused}
use Rattle.bank_deeds.proofs.deed.perform.Goals as goal

pub transfer-requires-clause-named : goal.transfer-requires-clause-named
transfer-requires-clause-named c =
    subst (λ (deed : Deed). AreHeld c.args.draft.now.held (named_by_deed c.args.draft.now.setup deed)) c.in-Transfer.is c.requires.named

pub transfer-requires-clause-judged : goal.transfer-requires-clause-judged
transfer-requires-clause-judged c = subst (IsUnrefused c.args.draft.now.setup (drafted c.args.draft.now) c.args.draft.now.user) c.in-Transfer.is c.requires.judged

pub modify-requires-clause-judged : goal.modify-requires-clause-judged
modify-requires-clause-judged c = subst (IsUnrefused c.args.draft.now.setup (drafted c.args.draft.now) c.args.draft.now.user) c.in-ModifyTransfer.is c.requires.judged

pub cancel-requires-clause-judged : goal.cancel-requires-clause-judged
cancel-requires-clause-judged c = subst (IsUnrefused c.args.draft.now.setup (drafted c.args.draft.now) c.args.draft.now.user) c.in-CancelTransfer.is c.requires.judged

pub add_model-requires-clause-judged : goal.add_model-requires-clause-judged
add_model-requires-clause-judged c = subst (IsUnrefused c.args.draft.now.setup (drafted c.args.draft.now) c.args.draft.now.user) c.in-Model.is c.requires.judged

pub modify_model-requires-clause-judged : goal.modify_model-requires-clause-judged
modify_model-requires-clause-judged c = subst (IsUnrefused c.args.draft.now.setup (drafted c.args.draft.now) c.args.draft.now.user) c.in-ModifyModel.is c.requires.judged

pub cancel_model-requires-clause-judged : goal.cancel_model-requires-clause-judged
cancel_model-requires-clause-judged c = subst (IsUnrefused c.args.draft.now.setup (drafted c.args.draft.now) c.args.draft.now.user) c.in-CancelModel.is c.requires.judged

pub add_bank_mail-requires-clause-judged : goal.add_bank_mail-requires-clause-judged
add_bank_mail-requires-clause-judged c = subst (IsUnrefused c.args.draft.now.setup (drafted c.args.draft.now) c.args.draft.now.user) c.in-BankMail.is c.requires.judged
