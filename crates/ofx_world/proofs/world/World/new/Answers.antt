use Rattle.ofx_world.proofs.Begun.{begins_sound}
use Rattle.ofx_world.proofs.world.World.new.Goals as goal

pub invariant_of-result : goal.invariant_of-result
invariant_of-result c = begins_sound c.laws_below.ensures c.args.setup c.args.clients.items _ c.requires.within c.requires.new c.in_ok-parts.ensures
