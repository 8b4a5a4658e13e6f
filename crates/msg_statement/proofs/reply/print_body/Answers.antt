use Rattle.std.proofs.Transfers.{starts_with_of_append, starts_with_trans}
use Rattle.msg_statement.proofs.reply.print_body.Goals as goal

pub returns-in_err-print_balance-2-clause-kept : goal.returns-in_err-print_balance-2-clause-kept
returns-in_err-print_balance-2-clause-kept c =
    starts_with_trans _ _ _ c.in_err-print_balance-2.ensures.kept
    (starts_with_trans _ _ _ c.in_ok-print_balance.ensures.kept
    (starts_with_trans _ _ _ c.in_ok-print_maybe_list.ensures.kept
    (starts_with_trans _ _ _ c.in_ok-print_account.ensures.kept
    (starts_with_trans _ _ _ (starts_with_of_append _ _ _ c.in_ok-element.ensures.ok) (starts_with_of_append _ _ _ c.in_ok-start.ensures.ok)))))
