use Rattle.std.proofs.Common.{Option, sym, ap, ◌∙◌}
use Rattle.ofx_types.specs.declared.number.AcctId.{AcctId}
use Rattle.bank_model.specs.Ledger.{is_covered}
use Rattle.bank_model.specs.Deeds.{balance_if_any}
use Rattle.bank_ledger.specs.DraftView.{drafted}
use Rattle.bank_deeds.proofs.due.covers.Goals as goal

pub returns : goal.returns
returns c =
    c.is_covered.ensures
    ∙ ap (is_covered c.args.row.now.amount.0) c.held_balance.ensures
    ∙ sym (ap (λ (account : Option AcctId). is_covered c.args.row.now.amount.0 (balance_if_any c.args.draft.now.setup (drafted c.args.draft.now).entries account)) c.account_named-from.ensures)
