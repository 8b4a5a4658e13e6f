use Rattle.std.proofs.Common.{subst}
use Rattle.ofx_world.specs.Truths.{IsRightWorld}
use Rattle.ofx_world.proofs.Truth.{true_of_sound}
use Rattle.ofx_world.proofs.world.World.known.Goals as goal

pub returns : goal.returns
returns c = subst IsRightWorld c.self.view_is (true_of_sound c.laws_below.ensures c.self.inside.parts c.self.invariant)
