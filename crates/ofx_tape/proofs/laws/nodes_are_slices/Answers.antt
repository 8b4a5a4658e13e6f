use Rattle.ofx_tape.proofs.SlicesLaws.{nodes_are_slices}
use Rattle.ofx_tape.proofs.laws.nodes_are_slices.Goals as goal

pub returns : goal.returns
returns c = nodes_are_slices
