-- What a node is, apart from where its bytes lie in memory.
use Rattle.std.specs.Prelude.{List, length}
use Rattle.ofx_types.specs.Nodes.{TagNode}
use Rattle.ofx_tape.specs.Slices.{AreInside}
use Rattle.ofx_tape.specs.declared.tape.Node.{Node}

abbrev pub node_view : Node → TagNode
node_view n = record { is_element = n.element; name = n.name.now; text = n.value.now; offset = n.at; after = n.after }

-- Each node ends after itself, and among the nodes there are.
abbrev pub AreNested : List TagNode → Type 0
AreNested nodes = AreInside 0 (length nodes) nodes
