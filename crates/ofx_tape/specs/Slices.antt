-- Where the parts of nodes lie in the body.
use Rattle.std.specs.Prelude.{◌≡◌, ℕ, ◌+◌, ◌-◌, ◌<◌, ◌≤◌, List, [], ◌∷◌, length, take, drop}
use Rattle.ofx_types.specs.Nodes.{TagNode, AreNodesOf}

-- The name is the slice of the body after the `<` at the node's offset, and the text the slice after the `>`.
pub record IsSliced (body : List ℕ) (node : TagNode) : Type 0 where
  pub name : node.name ≡ take (length node.name) (drop (node.offset + 1) body)
  pub text : node.text ≡ take (length node.text) (drop (node.offset + length node.name + 2) body)
  pub inside : node.offset + length node.name + 2 + length node.text ≤ length body

-- Offsets rise: each node comes after this many bytes, and after the nodes before it.
abbrev pub AreLocated : ℕ → List ℕ → List TagNode → Type 0
AreLocated from body [] = Unit {0}
AreLocated from body (n ∷ nodes) =
    (from ≤ n.offset) × IsSliced body n × AreLocated (n.offset + length n.name + 2 + length n.text) body nodes

-- Inner nodes lie inside their parent: each of the nodes, of which the first has this index, ends after itself and not
-- after the end of the parent.
abbrev pub AreInside : ℕ → ℕ → List TagNode → Type 0
AreInside index end [] = Unit {0}
AreInside index end (n ∷ nodes) = (index < n.after) × (n.after ≤ end) × AreInside (index + 1) end nodes

-- So do the inner nodes of each node.
abbrev pub AreInsideEach : ℕ → List TagNode → Type 0
AreInsideEach index [] = Unit {0}
AreInsideEach index (n ∷ nodes) =
    AreInside (index + 1) n.after (take (n.after - (index + 1)) nodes) × AreInsideEach (index + 1) nodes

-- The nodes of a tape are slices of the body, in order, each inside its parent.
pub record AreSlices (body : List ℕ) (nodes : List TagNode) : Type 0 where
  pub located : AreLocated 0 body nodes
  pub inside_all : AreInside 0 (length nodes) nodes
  pub inside_each : AreInsideEach 0 nodes

abbrev pub NodesAreSlices : Type 0
NodesAreSlices = (body : List ℕ) (nodes : List TagNode) → AreNodesOf body nodes → AreSlices body nodes
