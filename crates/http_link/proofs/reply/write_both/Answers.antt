use Rattle.http_link.proofs.Written.{part_after}
use Rattle.http_link.proofs.reply.write_both.Goals as goal

pub returns-clause-part : goal.returns-clause-part
returns-clause-part g c = part_after c.write_all-2.result _ _ _ c.args.head.now c.args.body.now c.in_ok-write_all.ensures.whole c.write_all-2.ensures.part
