-- How many nodes a body has at most: each takes at least its start tag.
use Rattle.std.specs.Prelude.{ℕ, ◌+◌, ◌*◌, ◌≤◌, List, length, codes}
use Rattle.std.specs.List.{sum_by, count_by}
use Rattle.std.specs.Str.{bytes_eq}
use Rattle.ofx_types.specs.Nodes.{TagNode, AreNodesOf}

-- the bytes of a start tag: `<`, the name, `>`
abbrev pub tag_size : TagNode → ℕ
tag_size node = length node.name + 2

-- how many nodes have this name
abbrev pub count_named : List ℕ → List TagNode → ℕ
count_named name nodes = count_by (λ n. bytes_eq n.name name) nodes

-- The start tags of all nodes of a body fit in it.
abbrev pub TagsFit : Type 0
TagsFit = (body : List ℕ) (nodes : List TagNode) → AreNodesOf body nodes → sum_by tag_size nodes ≤ length body

-- So do those of the nodes of one name.
abbrev pub NamedTagsFit : Type 0
NamedTagsFit =
    (body name : List ℕ) (nodes : List TagNode) → AreNodesOf body nodes → (length name + 2) * count_named name nodes ≤ length body

-- A statement request takes 11 bytes at least.
abbrev pub StatementTagsFit : Type 0
StatementTagsFit = (body : List ℕ) (nodes : List TagNode) → AreNodesOf body nodes → 11 * count_named (codes "STMTTRNRQ") nodes ≤ length body
