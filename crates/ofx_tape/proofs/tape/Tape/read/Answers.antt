use Rattle.std.proofs.Common.{Ok, Err, map}
use Rattle.ofx_tape.specs.NodeView.{node_view}
use Rattle.ofx_tape.proofs.NestedLaws.{nodes_are_nested}
use Rattle.ofx_tape.proofs.OutcomeLaws.{tape_of_nodes, reads_all}
use Rattle.ofx_tape.proofs.SlicesLaws.{nodes_are_slices}
use Rattle.ofx_tape.proofs.tape.Tape.read.Goals as goal

pub invariant_of-result : goal.invariant_of-result
invariant_of-result c = nodes_are_nested c.args.body.now (map node_view c.in-Ok.nodes.items) c.in-Ok.ensures

pub returns-in-Ok-clause-tape : goal.returns-in-Ok-clause-tape
returns-in-Ok-clause-tape c = tape_of_nodes c.args.body.now (map node_view c.in-Ok.nodes.items) c.in-Ok.ensures

pub returns-in-Ok-clause-all : goal.returns-in-Ok-clause-all
returns-in-Ok-clause-all c =
    let nodes = map node_view c.in-Ok.nodes.items in
    reads_all c.args.body.now (Ok nodes) (tape_of_nodes c.args.body.now nodes c.in-Ok.ensures)

pub returns-in-Ok-clause-slices : goal.returns-in-Ok-clause-slices
returns-in-Ok-clause-slices c = nodes_are_slices c.args.body.now (map node_view c.in-Ok.nodes.items) c.in-Ok.ensures

pub returns-in-Err-clause-all : goal.returns-in-Err-clause-all
returns-in-Err-clause-all c = reads_all c.args.body.now (Err c.in-Err.fault) c.in-Err.ensures
