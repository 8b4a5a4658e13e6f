use Rattle.msg_parts.proofs.Joined.{aggregate_of_three}
use Rattle.ofx_types.specs.ReplyForm as form
use Rattle.msg_statement.proofs.list.print_list.Goals as goal

pub returns-clause-ok : goal.returns-clause-ok
unfolding form.statement_list
returns-clause-ok c =
    aggregate_of_three c.end.result _ _ _ _ _ _ _ _ _ _ c.in_ok-start.ensures.ok c.in_ok-moment.ensures.ok c.in_ok-moment-2.ensures.ok (rw c.items.ensures at c.in_ok-print_lines.ensures.ok) c.end.ensures.ok
