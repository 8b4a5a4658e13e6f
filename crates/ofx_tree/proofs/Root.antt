-- A tape that was read has a first node.
use Rattle.std.proofs.Common.{◌<◌, List, length, ℕ, arith}
use Rattle.ofx_types.specs.Nodes.{TagNode, AreNodesOf}

-- the nodes of a body are at least that of OFX
pub first_node : (body : List ℕ) (nodes : List TagNode) → AreNodesOf body nodes → 0 < length nodes
first_node body nodes are =
    let spelled = are.spelled in
    rw (are.are, spelled.is_whole) (omega arith)
