use Rattle.std.proofs.Common.{Some}
use Rattle.disk_keeper.proofs.Bodies.{after_write, image_written}
use Rattle.disk_keeper.proofs.appending.write_some.Goals as goal

pub returns-clause-suffix : goal.returns-clause-suffix
returns-clause-suffix g c h is = after_write c.write_at.result _ _ h c.args.at c.args.bytes.now c.write_at.ensures.written c.write_at.ensures.broken is
