-- What a node with its inner nodes is, apart from where they lie in memory.
use Rattle.std.specs.Prelude.{◌≡◌, ℕ, ◌+◌, List, ◌∷◌, map, drop, slice_range, slice_index_or}
use Rattle.ofx_types.specs.Nodes.{Item, items_from}
use Rattle.ofx_tape.specs.NodeView.{node_view}
use Rattle.ofx_tape.specs.declared.tape.Node.{Node}

abbrev pub item_view : Node → ℕ → List Node → Item
item_view node first inner = record { node = node_view node; first = first; inner = map node_view inner }

-- the items among nodes of which the first has this index
abbrev pub items_at : ℕ → List Node → List Item
items_at index nodes = items_from index index (map node_view nodes)

-- So many of these nodes, of which the first has this index, make the first item: a node and its inner nodes. The others
-- make the items after it.
abbrev pub BeginsWithItem : ℕ → ℕ → List Node → Type 0
BeginsWithItem index size nodes =
    (d : Node)
    → items_at index nodes
    ≡ item_view (slice_index_or nodes 0 d) (index + 1) (slice_range nodes 1 size) ∷ items_at (index + size) (drop size nodes)
