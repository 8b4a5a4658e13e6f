-- The start tags of a body's nodes stand in it.
use Rattle.std.proofs.Common.{◌≡◌, ℕ, ◌+◌, ◌-◌, ◌*◌, ◌≤◌, Bool, true, false, cond, List, [], ◌∷◌, ◌++◌, length, codes, refl, ap, ◌∙◌, arith}
use Rattle.std.proofs.lemmas.List.{length-append}
use Rattle.std.proofs.lemmas.List.Sums.{sum_by-append, sum_by-cons}
use Rattle.std.proofs.lemmas.Slice.Eq.{bytes_eq-Decides}
use Rattle.std.specs.List.{sum_by}
use Rattle.std.specs.Str.{bytes_eq}
use Rattle.ofx_types.specs.TagForm.{end_tag, Tree, nothing, element, aggregate, Spells}
use Rattle.ofx_types.specs.Nodes.{TagNode, nodes_from}
use Rattle.ofx_tape.specs.NodeCounts.{tag_size, count_named, TagsFit, NamedTagsFit, StatementTagsFit}

tree_fits : (tree : Tree) (size room index : ℕ) (bytes rest : List ℕ) → Spells size room bytes tree rest →
    sum_by tag_size (nodes_from index tree) + length rest ≤ length bytes
tree_fits nothing size room index bytes rest spells = rw spells (omega arith)
tree_fits (element offset name text suffix) size room index bytes rest spells =
    let (closing, more, is_one, located, split, further) = spells in
    let again = tree_fits suffix size room (index + 1) more rest further in
    let bytes_is : length bytes ≡ length name + 2 + (length text + (length closing + length more)) = ap length split ∙ simp length-append (omega arith) in
    let sum_is = sum_by-cons tag_size (record { is_element = true; name = name; text = text; offset = offset; after = index + 1 }) (nodes_from (index + 1) suffix) in
    omega arith
tree_fits (aggregate offset name text inner suffix) size room index bytes rest spells =
    let (within, white, more, is_one, has_room, located, split, inside, further) = spells in
    let inner_nodes = nodes_from (index + 1) inner in
    let after = index + 1 + length inner_nodes in
    let closing = end_tag name ++ (white ++ more) in
    let inner_fits = tree_fits inner size (room - 1) (index + 1) within closing inside in
    let again = tree_fits suffix size room after more rest further in
    let bytes_is : length bytes ≡ length name + 2 + (length text + length within) = ap length split ∙ simp length-append (omega arith) in
    let closing_is : length closing ≡ length (end_tag name) + (length white + length more) = simp length-append (omega arith) in
    let sum_is = sum_by-cons tag_size (record { is_element = false; name = name; text = text; offset = offset; after = after }) (inner_nodes ++ nodes_from after suffix) in
    let sum_both = sum_by-append tag_size inner_nodes (nodes_from after suffix) in
    omega arith

-- The start tags of all nodes of a body stand in it.
pub tags_fit : TagsFit
tags_fit body nodes are =
    let spelled = are.spelled in
    let size : length body ≡ length spelled.white + length spelled.rest = ap length spelled.spelled ∙ length-append spelled.white spelled.rest in
    let fits = tree_fits are.tree (length body) 16 0 spelled.rest [] spelled.spells in
    rw are.are (omega arith)

named_fit : (name : List ℕ) (nodes : List TagNode) → (length name + 2) * count_named name nodes ≤ sum_by tag_size nodes
named_fit name [] = omega arith
named_fit name (n ∷ nodes) = go (bytes_eq n.name name) refl (named_fit name nodes)
  where
    go : (c : Bool) → bytes_eq n.name name ≡ c → (length name + 2) * count_named name nodes ≤ sum_by tag_size nodes →
        (length name + 2) * count_named name (n ∷ nodes) ≤ sum_by tag_size (n ∷ nodes)
    go true e again =
        let is = (bytes_eq-Decides n.name name).0 e in
        rw (sum_by-cons tag_size n nodes, sum_by-cons (λ m. cond (bytes_eq m.name name) 1 0) n nodes, e) (omega (arith, ap length is))
    go false e again = rw (sum_by-cons tag_size n nodes, sum_by-cons (λ m. cond (bytes_eq m.name name) 1 0) n nodes, e) (omega arith)

pub named_tags_fit : NamedTagsFit
named_tags_fit body name nodes are = omega (arith, named_fit name nodes, tags_fit body nodes are)

pub statement_tags_fit : StatementTagsFit
statement_tags_fit body nodes are = named_tags_fit body (codes "STMTTRNRQ") nodes are
