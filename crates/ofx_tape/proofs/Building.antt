-- How a tree grows from the left: the aggregates still open, and what is in the innermost of them so far.
use Rattle.std.proofs.Common.{◌≡◌, ℕ, suc, ◌+◌, ◌-◌, ◌<◌, true, false, List, [], ◌∷◌, ◌++◌, length, set, codes, Option, None, Some, inl, inr, refl, sym, ap, ◌∙◌, append_assoc, append-nil, add-zero, arith}
use Rattle.std.proofs.lemmas.List.{length-append, length_push, set_at}
use Rattle.ofx_types.specs.Sheet.{tag}
use Rattle.ofx_types.specs.TagForm.{end_tag, IsWhite, Tree, nothing, element, aggregate, Closes, IsElement, Spells, SpellsBody}
use Rattle.ofx_types.specs.Nodes.{TagNode, nodes_from}
use Rattle.ofx_tape.proofs.FaultLaws.{Awaits}
pub use Rattle.ofx_tape.specs.OpenAggregates.{join, Frame, Begins, room_in, Holds, names_in, BeginsElement, Waits, HoldsAfter, open_node, nodes_after, open_nodes, built_nodes, open_indices}

pub spells_join : (first later : Tree) (size room : ℕ) (bytes more rest : List ℕ) → Spells size room bytes first more → Spells size room more later rest →
    Spells size room bytes (join first later) rest
spells_join nothing later size room bytes more rest one then = rw one then
spells_join (element offset name text suffix) later size room bytes more rest one then =
    let (closing, next, is_one, located, split, further) = one in
    (closing, next, is_one, located, split, spells_join suffix later size room next more rest further then)
spells_join (aggregate offset name text inner suffix) later size room bytes more rest one then =
    let (within, white, next, is_one, has_room, located, split, inside, further) = one in
    (within, white, next, is_one, has_room, located, split, inside, spells_join suffix later size room next more rest further then)

pub nodes_join : (first later : Tree) (index : ℕ) →
    nodes_from index (join first later) ≡ nodes_from index first ++ nodes_from (index + length (nodes_from index first)) later
nodes_join nothing later index = rw add-zero refl
nodes_join (element offset name text suffix) later index =
    let on : index + 1 + length (nodes_from (index + 1) suffix) ≡ index + suc (length (nodes_from (index + 1) suffix)) = omega arith in
    ap (λ ns. record { is_element = true; name = name; text = text; offset = offset; after = index + 1 } ∷ ns)
    (nodes_join suffix later (index + 1) ∙ ap (λ i. nodes_from (index + 1) suffix ++ nodes_from i later) on)
nodes_join (aggregate offset name text inner suffix) later index =
    let within = nodes_from (index + 1) inner in
    let after = index + 1 + length within in
    let nodes_after = nodes_from after suffix in
    let on : after + length nodes_after ≡ index + suc (length (within ++ nodes_after)) = omega (arith, length-append within nodes_after) in
    ap (λ ns. record { is_element = false; name = name; text = text; offset = offset; after = after } ∷ ns)
    (ap (λ ns. within ++ ns) (nodes_join suffix later after ∙ ap (λ i. nodes_after ++ nodes_from i later) on)
    ∙ sym (append_assoc within nodes_after (nodes_from (index + suc (length (within ++ nodes_after))) later)))

-- ---- what is spelled so far

-- A start tag of an aggregate opens it.
pub holds_open : (size : ℕ) (start : List ℕ) (frames : List Frame) (built : Tree) (bytes : List ℕ) (offset : ℕ) (name text within : List ℕ) →
    Holds size start frames built bytes → Begins size bytes offset name text within → length frames < 16 →
    Holds size start (record { offset = offset; name = name; text = text; before = built } ∷ frames) nothing within
holds_open size start frames built bytes offset name text within holds begins room = (bytes, within, holds, begins, room, refl)

-- what is spelled after what is there, in the innermost aggregate
pub holds_more : (size : ℕ) (start : List ℕ) (frames : List Frame) (built later : Tree) (bytes rest : List ℕ) →
    Holds size start frames built bytes → Spells size (room_in frames) bytes later rest → Holds size start frames (join built later) rest
holds_more size start [] built later bytes rest holds spells = spells_join built later size 16 start bytes rest holds spells
holds_more size start (f ∷ outer) built later bytes rest holds spells =
    let (before, within, outside, begins, room, inside) = holds in
    (before, within, outside, begins, room, spells_join built later size (room_in (f ∷ outer)) within bytes rest inside spells)

-- An element, with what closes it.
pub holds_element : (size : ℕ) (start : List ℕ) (frames : List Frame) (built : Tree) (bytes : List ℕ) (offset : ℕ) (name text closing more : List ℕ) →
    Holds size start frames built bytes → IsElement name text closing more → offset + length bytes ≡ size →
    bytes ≡ tag name ++ (text ++ (closing ++ more)) → Holds size start frames (join built (element offset name text nothing)) more
holds_element size start frames built bytes offset name text closing more holds is_one located split =
    holds_more size start frames built (element offset name text nothing) bytes more holds (closing, more, is_one, located, split, refl)

-- An end tag closes the innermost aggregate.
pub holds_close : (size : ℕ) (start : List ℕ) (f : Frame) (outer : List Frame) (built : Tree) (white more : List ℕ) →
    Holds size start (f ∷ outer) built (end_tag f.name ++ (white ++ more)) → IsWhite white →
    Holds size start outer (join f.before (aggregate f.offset f.name f.text built nothing)) more
holds_close size start f outer built white more holds blank =
    let (bytes, within, outside, begins, room, inside) = holds in
    let rooms : room_in (f ∷ outer) ≡ room_in outer - 1 = omega arith in
    holds_more size start outer f.before (aggregate f.offset f.name f.text built nothing) bytes more outside (
      within,
      white,
      more,
      record { has_name = begins.has_name; is_one = begins.is_one; is_white = begins.is_white; is_white_after = blank },
      omega arith,
      begins.located,
      begins.split,
      rw rooms at inside,
      refl,
    )

-- Where the one aggregate is OFX and nothing is left, the body is spelled.
pub holds_whole : (body white start : List ℕ) (offset : ℕ) (text : List ℕ) (inner : Tree) → IsWhite white → body ≡ white ++ start →
    Holds (length body) start [] (aggregate offset (codes "OFX") text inner nothing) [] → SpellsBody body (aggregate offset (codes "OFX") text inner nothing)
holds_whole body white start offset text inner blank split holds = record {
  white = white;
  offset = offset;
  text = text;
  inner = inner;
  rest = start;
  is_white = blank;
  spelled = split;
  is_whole = refl;
  spells = holds;
}

-- ---- an element whose end tag may still come

pub holds_begin : (size : ℕ) (start : List ℕ) (frames : List Frame) (built : Tree) (bytes : List ℕ) (offset : ℕ) (name text rest : List ℕ) →
    Holds size start frames built bytes → BeginsElement size bytes offset name text rest →
    HoldsAfter size start frames (Some name) (join built (element offset name text nothing)) rest
holds_begin size start frames built bytes offset name text rest holds begins =
    record { before = built; bytes = bytes; offset = offset; text = text; is_built = refl; holds = holds; begins = begins }

closed_element : (size : ℕ) (start : List ℕ) (frames : List Frame) (name : List ℕ) (built : Tree) (rest closing more : List ℕ) →
    Waits size start frames name built rest → Closes name closing more → rest ≡ closing ++ more → Holds size start frames built more
closed_element size start frames name built rest closing more waits closes is =
    let begins = waits.begins in
    rw (waits.is_built) (holds_element size start frames waits.before waits.bytes waits.offset name waits.text closing more waits.holds
    (record { has_name = begins.has_name; is_one = begins.is_one; is_value = begins.is_value; closes = closes })
    begins.located (rw (← is) (begins.split)))

-- Its end tag comes next.
pub holds_ended : (size : ℕ) (start : List ℕ) (frames : List Frame) (name : List ℕ) (built : Tree) (white more : List ℕ) →
    HoldsAfter size start frames (Some name) built (end_tag name ++ (white ++ more)) → IsWhite white → Holds size start frames built more
holds_ended size start frames name built white more waits blank =
    closed_element size start frames name built (end_tag name ++ (white ++ more)) (end_tag name ++ white) more waits
    (inl (white, blank, refl)) (sym (append_assoc (end_tag name) white more))

-- Another tag comes next.
pub holds_unended : (size : ℕ) (start : List ℕ) (frames : List Frame) (before : Option (List ℕ)) (built : Tree) (rest : List ℕ) →
    HoldsAfter size start frames before built rest → Awaits before rest → Holds size start frames built rest
holds_unended size start frames None built rest holds awaits = holds
holds_unended size start frames (Some name) built rest waits awaits =
    closed_element size start frames name built rest [] rest waits (inr (refl, awaits)) refl

-- ---- the nodes of what is built so far

-- A start tag of an aggregate adds its node.
pub nodes_open : (unknown : ℕ) (frames : List Frame) (built : Tree) (offset : ℕ) (name text : List ℕ) →
    built_nodes unknown (record { offset = offset; name = name; text = text; before = built } ∷ frames) nothing
    ≡ built_nodes unknown frames built ++ record { is_element = false; name = name; text = text; offset = offset; after = unknown } ∷ []
nodes_open unknown frames built offset name text = append-nil (built_nodes unknown frames built ++ record { is_element = false; name = name; text = text; offset = offset; after = unknown } ∷ [])

nodes_after_join : (nodes : List TagNode) (built later : Tree) →
    nodes_after nodes (join built later) ≡ nodes_after nodes built ++ nodes_from (length (nodes_after nodes built)) later
nodes_after_join nodes built later =
    let first = nodes_from (length nodes) built in
    ap (λ ns. nodes ++ ns) (nodes_join built later (length nodes))
    ∙ sym (append_assoc nodes first (nodes_from (length nodes + length first) later))
    ∙ ap (λ i. (nodes ++ first) ++ nodes_from i later) (sym (length-append nodes first))

-- So does that of an element.
pub nodes_element : (unknown : ℕ) (frames : List Frame) (built : Tree) (offset : ℕ) (name text : List ℕ) →
    built_nodes unknown frames (join built (element offset name text nothing))
    ≡ built_nodes unknown frames built ++ record { is_element = true; name = name; text = text; offset = offset; after = length (built_nodes unknown frames built) + 1 } ∷ []
nodes_element unknown frames built offset name text = nodes_after_join (open_nodes unknown frames) built (element offset name text nothing)

closed_node : (prefix : List TagNode) (y : TagNode) (f : Frame) (built : Tree) →
    set (nodes_after (prefix ++ y ∷ []) built) (length prefix) (open_node (length (nodes_after (prefix ++ y ∷ []) built)) f)
    ≡ prefix ++ nodes_from (length prefix) (aggregate f.offset f.name f.text built nothing)
closed_node prefix y f built =
    let within = nodes_from (length prefix + 1) built in
    let nodes : nodes_after (prefix ++ y ∷ []) built ≡ prefix ++ y ∷ within =
    ap (λ i. (prefix ++ y ∷ []) ++ nodes_from i built) (length_push prefix y) ∙ append_assoc prefix (y ∷ []) within in
    let after : length (prefix ++ y ∷ within) ≡ length prefix + 1 + length within = length-append prefix (y ∷ within) ∙ omega arith in
    rw (nodes, after) (set_at prefix y within (open_node (length prefix + 1 + length within) f) (length prefix) refl
    ∙ ap (λ ns. prefix ++ open_node (length prefix + 1 + length within) f ∷ ns) (sym (append-nil within)))

-- An end tag of an aggregate sets the index after its last inner node.
pub nodes_close : (unknown : ℕ) (f : Frame) (outer : List Frame) (built : Tree) →
    set (built_nodes unknown (f ∷ outer) built) (length (built_nodes unknown outer f.before)) (open_node (length (built_nodes unknown (f ∷ outer) built)) f)
    ≡ built_nodes unknown outer (join f.before (aggregate f.offset f.name f.text built nothing))
nodes_close unknown f outer built =
    closed_node (built_nodes unknown outer f.before) (open_node unknown f) f built
    ∙ sym (nodes_after_join (open_nodes unknown outer) f.before (aggregate f.offset f.name f.text built nothing))
