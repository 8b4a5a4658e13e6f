-- The nodes of a body: its elements and aggregates in the order of their start tags, each aggregate before what
-- is in it.
use Rattle.std.specs.Prelude.{◌≡◌, ℕ, ◌+◌, ◌-◌, Bool, true, false, nat_lt, List, [], ◌∷◌, ◌++◌, length, take, if◌then◌else◌}
use Rattle.ofx_types.specs.TagForm.{Tree, nothing, element, aggregate, SpellsBody}

-- A node: its name and the text after its start tag, the offset of that tag, and the index after its last inner node.
pub record TagNode : Type 0 where
  pub is_element : Bool
  pub name : List ℕ
  pub text : List ℕ
  pub offset : ℕ
  pub after : ℕ

-- the nodes of elements and aggregates of which the first has this index
abbrev pub nodes_from : ℕ → Tree → List TagNode
nodes_from index nothing = []
nodes_from index (element offset name text suffix) =
    record { is_element = true; name = name; text = text; offset = offset; after = index + 1 } ∷ nodes_from (index + 1) suffix
nodes_from index (aggregate offset name text inner suffix) =
    let within = nodes_from (index + 1) inner in
    let after = index + 1 + length within in
    record { is_element = false; name = name; text = text; offset = offset; after = after } ∷ within ++ nodes_from after suffix

-- The nodes are those of what the body spells.
pub record AreNodesOf (body : List ℕ) (nodes : List TagNode) : Type 0 where
  pub tree : Tree
  pub spelled : SpellsBody body tree
  pub are : nodes ≡ nodes_from 0 tree

-- A node with its inner nodes, of which the first has this index.
pub record Item : Type 0 where
  pub node : TagNode
  pub first : ℕ
  pub inner : List TagNode

-- The nodes that are in no other among these, each with its inner nodes. The first of these nodes has this index, and
-- those before the second index are passed over.
unfoldable pub items_from : ℕ → ℕ → List TagNode → List Item
items_from index until [] = []
items_from index until (n ∷ nodes) =
    if nat_lt index until then items_from (index + 1) until nodes
    else record { node = n; first = index + 1; inner = take (n.after - (index + 1)) nodes } ∷ items_from (index + 1) n.after nodes

-- the children of a node, in order
abbrev pub children : Item → List Item
children item = items_from item.first item.first item.inner

-- The first node with all that is in it.
abbrev pub IsRoot : List TagNode → Item → Type 0
IsRoot nodes ofx = (inner : List TagNode) × (nodes ≡ ofx.node ∷ inner) × (ofx.first ≡ 1) × (ofx.inner ≡ inner)
