-- The nodes of a tree stand inside each other.
use Rattle.std.proofs.Common.{◌≡◌, ℕ, suc, ◌+◌, ◌-◌, ◌≤◌, List, [], ◌∷◌, ◌++◌, length, take, sym, add-zero, arith}
use Rattle.std.proofs.lemmas.List.{length-append, take-append-le, take_at}
use Rattle.ofx_types.specs.TagForm.{Tree, nothing, element, aggregate}
use Rattle.ofx_types.specs.Nodes.{TagNode, nodes_from, AreNodesOf}
use Rattle.ofx_tape.specs.Slices.{AreInside, AreInsideEach}
use Rattle.ofx_tape.specs.NodeView.{AreNested}

-- nodes after others are counted on from them
pub inside_append : (xs ys : List TagNode) (index end : ℕ) → AreInside index end xs → AreInside (index + length xs) end ys → AreInside index end (xs ++ ys)
inside_append [] ys index end first later = rw add-zero at later
inside_append (x ∷ xs) ys index end first later =
    let on : index + length (x ∷ xs) ≡ index + 1 + length xs = omega arith in
    (first.0, first.1, inside_append xs ys (index + 1) end first.2 (rw on at later))

-- The nodes of a tree end where the tree does.
pub inside_tree : (tree : Tree) (index end : ℕ) → index + length (nodes_from index tree) ≤ end → AreInside index end (nodes_from index tree)
inside_tree nothing index end fits = tt
inside_tree (element offset name text suffix) index end fits =
    (omega arith, omega arith, inside_tree suffix (index + 1) end (omega arith))
inside_tree (aggregate offset name text inner suffix) index end fits =
    let within = nodes_from (index + 1) inner in
    let after = index + 1 + length within in
    let whole : index + suc (length within + length (nodes_from after suffix)) ≤ end = rw (length-append within (nodes_from after suffix)) at fits in (
      omega arith,
      omega arith,
      inside_append within (nodes_from after suffix) (index + 1) end
          (inside_tree inner (index + 1) end (omega arith)) (inside_tree suffix after end (omega arith)),
    )

inner_is : (n : ℕ) (xs ys : List TagNode) → n ≡ length xs → take n (xs ++ ys) ≡ xs
inner_is n xs ys is = take_at xs ys n (sym is)

-- what is in a node is the same where others follow
each_append : (xs ys : List TagNode) (index : ℕ) → AreInside index (index + length xs) xs → AreInsideEach index xs →
    AreInsideEach (index + length xs) ys → AreInsideEach index (xs ++ ys)
each_append [] ys index inside first later = rw add-zero at later
each_append (x ∷ xs) ys index inside first later =
    let on : index + length (x ∷ xs) ≡ index + 1 + length xs = omega arith in
    let most : x.after - (index + 1) ≤ length xs = omega arith in
    let inside_rest : AreInside (index + 1) (index + 1 + length xs) xs = rw on at inside.2 in (
      rw (take-append-le (x.after - (index + 1)) xs ys most) first.0,
      each_append xs ys (index + 1) inside_rest first.1 (rw on at later),
    )

-- What is in a node of a tree ends where the node does.
pub each_tree : (tree : Tree) (index : ℕ) → AreInsideEach index (nodes_from index tree)
each_tree nothing index = tt
each_tree (element offset name text suffix) index =
    let none : index + 1 - (index + 1) ≡ 0 = omega arith in
    (rw none tt, each_tree suffix (index + 1))
each_tree (aggregate offset name text inner suffix) index =
    let within = nodes_from (index + 1) inner in
    let after = index + 1 + length within in
    let inner_nodes : take (after - (index + 1)) (within ++ nodes_from after suffix) ≡ within = inner_is (after - (index + 1)) within (nodes_from after suffix) (omega arith) in
    let inside : AreInside (index + 1) after within = inside_tree inner (index + 1) after (omega arith) in
    (rw inner_nodes inside, each_append within (nodes_from after suffix) (index + 1) inside (each_tree inner (index + 1)) (each_tree suffix after))

-- The nodes of a body are nested.
pub nodes_are_nested : (body : List ℕ) (nodes : List TagNode) → AreNodesOf body nodes → AreNested nodes
nodes_are_nested body nodes are = rw are.are (inside_tree are.tree 0 (length (nodes_from 0 are.tree)) (omega arith))
