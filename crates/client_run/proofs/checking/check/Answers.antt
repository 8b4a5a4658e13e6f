use Rattle.client_run.proofs.Checked.{poll_printable}
use Rattle.client_run.proofs.checking.check.Goals as goal

pub poll-requires-after_bounds : goal.poll-requires-after_bounds
poll-requires-after_bounds g c κs within = poll_printable c.args.client.now c.args.account.now c.in-Ok.file c.now-at.result c.in-Ok.ensures c.now-at.ensures.lawful
