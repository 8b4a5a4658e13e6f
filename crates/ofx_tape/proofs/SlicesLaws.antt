-- The nodes of a body are slices of it.
use Rattle.std.proofs.Common.{◌≡◌, ℕ, ◌+◌, ◌-◌, ◌≤◌, true, false, List, [], ◌∷◌, ◌++◌, length, take, drop, refl, sym, ap, ◌∙◌, append_assoc, append-nil, arith}
use Rattle.std.proofs.lemmas.List.{length-append, length_push, take_at, drop_at}
use Rattle.ofx_types.specs.Sheet.{tag}
use Rattle.ofx_types.specs.TagForm.{end_tag, Tree, nothing, element, aggregate, Spells}
use Rattle.ofx_types.specs.Nodes.{TagNode, nodes_from, AreNodesOf}
use Rattle.ofx_tape.specs.Slices.{IsSliced, AreLocated, AreSlices}
use Rattle.ofx_tape.proofs.NestedLaws.{inside_tree, each_tree}
use Rattle.ofx_tape.proofs.Spelled.{EndsIn, ends_further, ends_here, ends_after, spelled_ends}

-- a slice, by what comes before it
sliced : (prefix slice rest : List ℕ) (at : ℕ) → at ≡ length prefix → slice ≡ take (length slice) (drop at (prefix ++ (slice ++ rest)))
sliced prefix slice rest at is =
    rw (drop_at prefix (slice ++ rest) at (sym is), take_at slice rest (length slice) refl) refl

-- A tag and the text after it are slices of the body that they are in.
pub tag_is_sliced : (prefix name text rest body : List ℕ) (node : TagNode) → node.name ≡ name → node.text ≡ text → node.offset ≡ length prefix →
    body ≡ prefix ++ (tag name ++ (text ++ rest)) → IsSliced body node
tag_is_sliced prefix name text rest body node name_is text_is offset_is split = record {
  name = rw (name_is, offset_is, split, name_prefix) (sliced (prefix ++ 60 ∷ []) name (62 ∷ (text ++ rest)) (length prefix + 1) (sym (length_push prefix 60)));
  text = rw (name_is, text_is, offset_is, split, text_prefix) (sliced (prefix ++ tag name) text rest (length prefix + length name + 2) (omega (arith, prefix_is)));
  inside = rw (name_is, text_is, offset_is, split, text_prefix, length-append (prefix ++ tag name) (text ++ rest), length-append text rest) (omega (arith, prefix_is));
}
  where
    name_prefix : prefix ++ (tag name ++ (text ++ rest)) ≡ (prefix ++ 60 ∷ []) ++ (name ++ 62 ∷ (text ++ rest))
    name_prefix = simp append_assoc

    text_prefix : prefix ++ (tag name ++ (text ++ rest)) ≡ (prefix ++ tag name) ++ (text ++ rest)
    text_prefix = simp append_assoc

    prefix_is : length (prefix ++ tag name) ≡ length prefix + length name + 2
    prefix_is = simp length-append (omega arith)

offset_is : (body bytes : List ℕ) (ends : EndsIn body bytes) (offset : ℕ) → offset + length bytes ≡ length body → offset ≡ length ends.prefix
offset_is body bytes ends offset located = omega (arith, simp length-append at (ap length ends.split))

-- The nodes of what is spelled at the end of a body are slices of it, each after those before it; others may follow.
pub located_tree : (body : List ℕ) (tree : Tree) (room index : ℕ) (bytes rest : List ℕ) (from : ℕ) (others : List TagNode) →
    EndsIn body bytes → Spells (length body) room bytes tree rest → from + length bytes ≤ length body →
    ((last : ℕ) → last + length rest ≤ length body → AreLocated last body others) →
    AreLocated from body (nodes_from index tree ++ others)
located_tree body nothing room index bytes rest from others ends spells fits follow = follow from (rw (← spells) fits)
located_tree body (element offset name text suffix) room index bytes rest from others ends spells fits follow =
    let (closing, more, is_one, located, split, further) = spells in
    let size : length bytes ≡ length name + 2 + (length text + (length closing + length more)) = ap length split ∙ simp length-append (omega arith) in
    let sliced_node = tag_is_sliced ends.prefix name text (closing ++ more) body (record { is_element = true; name = name; text = text; offset = offset; after = index + 1 })
    refl refl (offset_is body bytes ends offset located) (ends.split ∙ ap (λ x. ends.prefix ++ x) split) in
    let ends_more : EndsIn body more = ends_further body bytes more ends (rw split (ends_after (tag name) (text ++ (closing ++ more)) more
    (ends_after text (closing ++ more) more (ends_after closing more more (ends_here more))))) in (
      omega arith,
      sliced_node,
      located_tree body suffix room (index + 1) more rest (offset + length name + 2 + length text) others ends_more further (omega arith) follow,
    )
located_tree body (aggregate offset name text inner suffix) room index bytes rest from others ends spells fits follow =
    let (within, white, more, is_one, has_room, located, split, inside, further) = spells in
    let inner_nodes = nodes_from (index + 1) inner in
    let after = index + 1 + length inner_nodes in
    let size : length bytes ≡ length name + 2 + (length text + length within) = ap length split ∙ simp length-append (omega arith) in
    let after_size : length (end_tag name ++ (white ++ more)) ≡ length (end_tag name) + (length white + length more) = simp length-append (omega arith) in
    let sliced_node = tag_is_sliced ends.prefix name text within body (record { is_element = false; name = name; text = text; offset = offset; after = after })
    refl refl (offset_is body bytes ends offset located) (ends.split ∙ ap (λ x. ends.prefix ++ x) split) in
    let ends_within : EndsIn body within = ends_further body bytes within ends (rw split (ends_after (tag name) (text ++ within) within
    (ends_after text within within (ends_here within)))) in
    let ends_more : EndsIn body more = ends_further body within more ends_within
    (ends_further within (end_tag name ++ (white ++ more)) more (spelled_ends (length body) (room - 1) within inner (end_tag name ++ (white ++ more)) inside)
    (ends_after (end_tag name) (white ++ more) more (ends_after white more more (ends_here more)))) in (
      omega arith,
      sliced_node,
      rw (append_assoc inner_nodes (nodes_from after suffix) others) (located_tree body inner (room - 1) (index + 1) within (end_tag name ++ (white ++ more)) (offset + length name + 2 + length text)
          (nodes_from after suffix ++ others) ends_within inside (omega arith)
          (λ last ends_by. located_tree body suffix room after more rest last others ends_more further (omega arith) follow)),
    )

-- The nodes of a body are slices of it.
pub nodes_are_slices : (body : List ℕ) (nodes : List TagNode) → AreNodesOf body nodes → AreSlices body nodes
nodes_are_slices body nodes are =
    let spelled = are.spelled in
    let size : length body ≡ length spelled.white + length spelled.rest = ap length spelled.spelled ∙ length-append spelled.white spelled.rest in
    let ends : EndsIn body spelled.rest = record { prefix = spelled.white; split = spelled.spelled } in
    let located : AreLocated 0 body (nodes_from 0 are.tree ++ []) =
    located_tree body are.tree 16 0 spelled.rest [] 0 [] ends spelled.spells (omega arith) (λ last fits. tt) in
    rw are.are (record {
      located = rw append-nil at located;
      inside_all = inside_tree are.tree 0 (length (nodes_from 0 are.tree)) (omega arith);
      inside_each = each_tree are.tree 0;
    })
