use Rattle.register_run.proofs.ArgumentLaws.{are_named}
use Rattle.register_run.proofs.run.are_arguments.Goals as goal

pub returns-in-len2 : goal.returns-in-len2
returns-in-len2 c =
    are_named c.args.arguments.now c.command-item.result c.as_bytes.result.now c.is_import.result c.in-len2.len_at_least c.in-len2.len_below c.command-item.is c.as_bytes.ensures.bytes c.is_import.ensures
