use Rattle.ofx_tree.proofs.Printed.{aggregates}
use Rattle.ofx_tree.proofs.laws.aggregates_read_back.Goals as goal

pub returns : goal.returns
returns c = aggregates
