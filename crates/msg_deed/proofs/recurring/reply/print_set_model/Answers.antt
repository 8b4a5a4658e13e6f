use Rattle.msg_parts.proofs.Joined.{aggregate_of, rest}
use Rattle.ofx_types.specs.DeedText as text
use Rattle.msg_deed.proofs.recurring.reply.print_set_model.Goals as goal

pub returns-clause-ok : goal.returns-clause-ok
unfolding text.change_text
returns-clause-ok c =
    aggregate_of c.end.result _ _ _ _ _ _ c.in_ok-start.ensures.ok
    (rest _ _ _ _ _ c.in_ok-print_row.ensures.ok c.in_ok-print_flag.ensures.ok)
    c.end.ensures.ok
