use Rattle.bank_arguments.proofs.Plans.{plan_read}
use Rattle.bank_arguments.proofs.plan.plan_of.Goals as goal

pub returns-then-is_word : goal.returns-then-is_word
returns-then-is_word c =
    plan_read c.args.arguments.now c.command-item.result c._setup-item.result c._records-item.result c.port-item.result c.workers-item.result c.most-item.result c.numbers_of.result
    c.in-len6.len_at_least c.in-len6.len_below c.command-item.is c._setup-item.is c._records-item.is c.port-item.is c.workers-item.is c.most-item.is
    (c.is_word.ensures.0 c.if-is_word.true) c.numbers_of.ensures
