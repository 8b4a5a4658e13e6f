use Rattle.msg_parts.proofs.Joined.{aggregate_of_four}
use Rattle.ofx_types.specs.DeedText as text
use Rattle.msg_deed.proofs.recurring.request.print_modify_model.Goals as goal

pub returns-clause-ok : goal.returns-clause-ok
unfolding text.request_text
returns-clause-ok c =
    aggregate_of_four c.end.result _ _ _ _ _ _ _ _ _ _ _ _ c.in_ok-start.ensures.ok c.in_ok-number.ensures.ok c.in_ok-print_recur.ensures.ok
    c.in_ok-print_each_info.ensures.ok c.in_ok-print_flag.ensures.ok c.end.ensures.ok
