use Rattle.std.proofs.Common.{refl}
use Rattle.register_run.proofs.run.register_run.Goals as goal

pub returns : goal.returns
returns g c = (c.register_told.result, refl, c.register_told.ensures)
