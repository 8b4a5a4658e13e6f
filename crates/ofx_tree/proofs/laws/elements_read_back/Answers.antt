use Rattle.ofx_tree.proofs.Printed.{elements}
use Rattle.ofx_tree.proofs.laws.elements_read_back.Goals as goal

pub returns : goal.returns
returns c = elements
