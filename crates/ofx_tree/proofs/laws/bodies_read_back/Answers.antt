use Rattle.ofx_tree.proofs.Printed.{bodies}
use Rattle.ofx_tree.proofs.laws.bodies_read_back.Goals as goal

pub returns : goal.returns
returns c = bodies
