-- Tapes that have a root.
use Rattle.std.specs.Prelude.{ℕ, List}
use Rattle.ofx_types.specs.Nodes.{TagNode, AreNodesOf}

-- The nodes were read from a body, so the first of them is OFX with all the others in it.
abbrev pub AreRead : List TagNode → Type 0
AreRead nodes = (body : List ℕ) × AreNodesOf body nodes
