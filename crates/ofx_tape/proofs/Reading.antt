-- What holds between two tags while a body is read from the left, and how each tag takes it further.
use Rattle.std.proofs.Common.{◌≡◌, ℕ, suc, ◌+◌, ◌<◌, Bool, true, false, ◌==◌, nat_eq, List, [], ◌∷◌, ◌++◌, length, get_or, set, drop, codes, Option, None, Some, ne_eqb, eqb-true, refl, sym, ap, ap₂, subst, ◌∙◌, append_assoc, arith}
use Rattle.std.proofs.lemmas.Bool.{both_ways, and_parts, not-false, false_from_ne_true}
use Rattle.std.proofs.lemmas.List.{length-append, length-map, get_or_at}
use Rattle.std.proofs.lemmas.Slice.Eq.{bytes_eq-Decides, starts_is}
use Rattle.std.proofs.lemmas.Bool.Decides.{Decides-eqb}
use Rattle.std.specs.Str.{bytes_eq}
use Rattle.std.specs.List.{list_all, starts_with}
use Rattle.ofx_types.specs.Sheet.{tag}
use Rattle.ofx_types.specs.TagNames.{is_name, is_name_byte, is_element}
use Rattle.ofx_types.specs.TagForm.{end_tag, IsWhite, is_value_byte, Tree, nothing, element, aggregate}
use Rattle.ofx_types.specs.Nodes.{TagNode, nodes_from, AreNodesOf}
use Rattle.ofx_types.specs.TagFault.{is_name_of, text_pieces, pieces_after, pieces_of, first_fault, tag_fault, around_body}
use Rattle.ofx_tape.proofs.Pieces.{is_at_tag, name_bytes, after_text}
use Rattle.ofx_tape.proofs.Steps.{is_wrong_first}
use Rattle.ofx_tape.proofs.Spelled.{white_avoids}
use Rattle.ofx_tape.proofs.FaultLaws.{Awaits, inside, past_white, past_element, past_aggregate, past_element_end, past_aggregate_end}
use Rattle.ofx_tape.proofs.Unambiguous.{same_tag}
use Rattle.ofx_tape.proofs.Building.{Frame, Begins, BeginsElement, Holds, HoldsAfter, join, names_in, open_node, built_nodes, open_indices, holds_open, holds_begin, holds_ended, holds_unended, holds_close, holds_whole, nodes_open, nodes_element, nodes_close}
pub use Rattle.ofx_tape.specs.OpenAggregates.{AreInOfx, IsOutermost, IsReading}

-- ---- which end tag comes next

slash_first : (name : List ℕ) (more rest : List ℕ) → is_name name ≡ true → starts_with nat_eq (tag name ++ more) (60 ∷ 47 ∷ rest) ≡ false
slash_first [] more rest named = cc
slash_first (c ∷ name) more rest named =
    let passes = (and_parts (is_name_byte c) (list_all is_name_byte name) (name_bytes (c ∷ name) named)).0 in
    let other : nat_eq 47 c ≡ false = false_from_ne_true (nat_eq 47 c) (λ same. let e = eqb-true 47 c same in both_ways (is_name_byte c) (rw (← e) refl) passes) in
    rw other refl

-- A start tag isn't the end tag of the element before.
pub start_awaits : (before : Option (List ℕ)) (name more : List ℕ) → is_name name ≡ true → Awaits before (tag name ++ more)
start_awaits None name more named = tt
start_awaits (Some other) name more named = slash_first name more (other ++ 62 ∷ []) named

-- Nor is an end tag with another name.
pub other_awaits : (other name more : List ℕ) → is_name other ≡ true → is_name name ≡ true → bytes_eq other name ≡ false → Awaits (Some other) (end_tag name ++ more)
other_awaits other name more other_named named differs =
    let all = end_tag name ++ more in
    false_from_ne_true (starts_with nat_eq all (end_tag other)) (λ begins.
    let is : all ≡ end_tag other ++ drop (length (end_tag other)) all = (starts_is Decides-eqb all (end_tag other) (starts_with nat_eq all (end_tag other)) refl).0 begins in
    let same : tag name ++ more ≡ tag other ++ drop (length (end_tag other)) all = ap (λ bytes. 60 ∷ drop 2 bytes) is in
    let names = (same_tag name other more (drop (length (end_tag other)) all) named other_named same).0 in
    both_ways (bytes_eq other name) differs ((bytes_eq-Decides other name).1 (sym names)))

-- ---- what holds between two tags

-- After the white space at its start the reading of a body begins.
pub reading_begins : (body white start : List ℕ) (unknown : ℕ) → body ≡ white ++ start → IsWhite white → is_at_tag start ≡ true →
    IsReading body unknown [] [] [] false None start
reading_begins body white start unknown split blank at = record {
  white = white;
  start = start;
  frames = [];
  built = nothing;
  is_white = blank;
  split = split;
  holds = refl;
  outermost = refl;
  names_are = refl;
  indices_are = refl;
  nodes_are = refl;
  same_fault =
      let size = length body in
      sym (ap (λ b. first_fault size around_body (pieces_of size b)) split
      ∙ ap (λ p. first_fault size around_body (text_pieces size (white ++ start) ++ p)) (after_text size white start (white_avoids white blank))
      ∙ past_white size around_body white start (pieces_after size start) refl blank at);
}

-- ---- start tags

frames_count : (frames : List Frame) (names : List (List ℕ)) → names ≡ names_in frames → length frames ≡ length names
frames_count frames names are = sym (ap length are ∙ length-map frames (λ f. f.name))

-- the first tag is that of OFX
first_name : (name : List ℕ) → is_wrong_first [] name ≡ false → name ≡ codes "OFX"
first_name name right = (bytes_eq-Decides name (codes "OFX")).0 (not-false (bytes_eq name (codes "OFX")) right)

opened_outermost : (frames : List Frame) (f : Frame) → IsOutermost frames false f.before → is_wrong_first (names_in frames) f.name ≡ false → AreInOfx (f ∷ frames)
opened_outermost [] f outermost right = (first_name f.name right, outermost)
opened_outermost (g ∷ outer) f outermost right = outermost.1

-- The start tag of an aggregate opens it.
pub reading_opens : (body : List ℕ) (unknown : ℕ) (nodes : List TagNode) (names : List (List ℕ)) (indices : List ℕ) (before : Option (List ℕ)) (rest : List ℕ)
    (offset : ℕ) (name text more : List ℕ) → IsReading body unknown nodes names indices false before rest → offset + length rest ≡ length body →
    rest ≡ tag name ++ (text ++ more) → is_name name ≡ true → is_element name text ≡ false → IsWhite text → is_at_tag more ≡ true →
    is_wrong_first names name ≡ false → length names < 16 →
    IsReading body unknown (nodes ++ record { is_element = false; name = name; text = text; offset = offset; after = unknown } ∷ [])
    (name ∷ names) (length nodes ∷ indices) false None more
reading_opens body unknown nodes names indices before rest offset name text more reading located is named is_none blank at right room =
    let size = length body in
    let r = reading in
    let f : Frame = record { offset = offset; name = name; text = text; before = r.built } in
    let awaits = subst (Awaits before) (sym is) (start_awaits before name (text ++ more) named) in
    let present = holds_unended size r.start r.frames before r.built rest r.holds awaits in
    let begins : Begins size rest offset name text more = record { has_name = named; is_one = is_none; is_white = blank; located = located; split = is } in
    let count = frames_count r.frames names r.names_are in
    record {
      white = r.white;
      start = r.start;
      frames = f ∷ r.frames;
      built = nothing;
      is_white = r.is_white;
      split = r.split;
      holds = holds_open size r.start r.frames r.built rest offset name text more present begins (omega arith);
      outermost = (refl, opened_outermost r.frames f r.outermost (rw r.names_are at right));
      names_are = ap (λ ns. name ∷ ns) r.names_are;
      indices_are = ap₂ (λ n ns. n ∷ ns) (ap length r.nodes_are) r.indices_are;
      nodes_are = ap (λ ns. ns ++ open_node unknown f ∷ []) r.nodes_are ∙ sym (nodes_open unknown r.frames r.built offset name text);
      same_fault =
          sym (ap (λ b. first_fault size (inside names before) (pieces_after size b)) is
          ∙ past_aggregate size names before name text more right room named is_none blank at)
          ∙ r.same_fault;
    }

kept_outermost : (frames : List Frame) (built later : Tree) → 0 < length frames → IsOutermost frames false built → IsOutermost frames false later
kept_outermost [] built later some outermost = absurd (omega arith)
kept_outermost (f ∷ outer) built later some outermost = outermost

ofx_is_none : (text : List ℕ) → is_element (codes "OFX") text ≡ false
ofx_is_none text = refl

-- OFX is no element, so an element is in it.
pub element_inside : (names : List (List ℕ)) (name text : List ℕ) → is_wrong_first names name ≡ false → is_element name text ≡ true → 0 < length names
element_inside [] name text right is_one =
    let is : name ≡ codes "OFX" = first_name name right in
    let none : is_element name text ≡ false = ap (λ n. is_element n text) is ∙ ofx_is_none text in
    absurd (both_ways (is_element name text) none is_one)
element_inside (n ∷ names) name text right is_one = omega arith

-- The start tag of an element, with its value; its end tag may come next.
pub reading_element : (body : List ℕ) (unknown : ℕ) (nodes : List TagNode) (names : List (List ℕ)) (indices : List ℕ) (before : Option (List ℕ)) (rest : List ℕ)
    (offset : ℕ) (name text more : List ℕ) → IsReading body unknown nodes names indices false before rest → offset + length rest ≡ length body →
    rest ≡ tag name ++ (text ++ more) → is_name name ≡ true → is_element name text ≡ true → list_all is_value_byte text ≡ true → is_at_tag more ≡ true →
    is_wrong_first names name ≡ false →
    IsReading body unknown (nodes ++ record { is_element = true; name = name; text = text; offset = offset; after = length nodes + 1 } ∷ [])
    names indices false (Some name) more
reading_element body unknown nodes names indices before rest offset name text more reading located is named is_one is_value at right =
    let size = length body in
    let r = reading in
    let awaits = subst (Awaits before) (sym is) (start_awaits before name (text ++ more) named) in
    let present = holds_unended size r.start r.frames before r.built rest r.holds awaits in
    let begins : BeginsElement size rest offset name text more = record { has_name = named; is_one = is_one; is_value = is_value; located = located; split = is } in
    let some = element_inside names name text right is_one in
    let count = frames_count r.frames names r.names_are in
    record {
      white = r.white;
      start = r.start;
      frames = r.frames;
      built = join r.built (element offset name text nothing);
      is_white = r.is_white;
      split = r.split;
      holds = holds_begin size r.start r.frames r.built rest offset name text more present begins;
      outermost = kept_outermost r.frames r.built (join r.built (element offset name text nothing)) (omega arith) r.outermost;
      names_are = r.names_are;
      indices_are = r.indices_are;
      nodes_are =
          ap (λ ns. ns ++ record { is_element = true; name = name; text = text; offset = offset; after = length ns + 1 } ∷ []) r.nodes_are
          ∙ sym (nodes_element unknown r.frames r.built offset name text);
      same_fault =
          sym (ap (λ b. first_fault size (inside names before) (pieces_after size b)) is
          ∙ past_element size names before name text more some named is_one is_value at)
          ∙ r.same_fault;
    }

-- ---- end tags

-- The end tag of the element before.
pub reading_ends_element : (body : List ℕ) (unknown : ℕ) (nodes : List TagNode) (names : List (List ℕ)) (indices : List ℕ) (ended : Bool) (rest : List ℕ)
    (name white more : List ℕ) → IsReading body unknown nodes names indices ended (Some name) rest →
    rest ≡ end_tag name ++ (white ++ more) → is_name name ≡ true → IsWhite white → is_at_tag more ≡ true →
    IsReading body unknown nodes names indices ended None more
reading_ends_element body unknown nodes names indices ended rest name white more reading is named blank at =
    let size = length body in
    let r = reading in
    record {
      white = r.white;
      start = r.start;
      frames = r.frames;
      built = r.built;
      is_white = r.is_white;
      split = r.split;
      holds = holds_ended size r.start r.frames name r.built white more (subst (HoldsAfter size r.start r.frames (Some name) r.built) is r.holds) blank;
      outermost = r.outermost;
      names_are = r.names_are;
      indices_are = r.indices_are;
      nodes_are = r.nodes_are;
      same_fault =
          sym (ap (λ b. first_fault size (record { open_names = names; has_ended = ended; element = Some name }) (pieces_after size b)) is
          ∙ past_element_end size names ended name white more named blank at)
          ∙ r.same_fault;
    }

closes_awaits : (size : ℕ) (start : List ℕ) (frames : List Frame) (before : Option (List ℕ)) (built : Tree) (rest name more : List ℕ) →
    HoldsAfter size start frames before built rest → is_name name ≡ true → is_name_of name before ≡ false → Awaits before (end_tag name ++ more)
closes_awaits size start frames None built rest name more holds named other = tt
closes_awaits size start frames (Some e) built rest name more holds named other = other_awaits e name more (holds.begins).has_name named other

closed_outermost : (f : Frame) (outside : List Frame) (outer : List (List ℕ)) (built : Tree) → AreInOfx (f ∷ outside) → outer ≡ names_in outside →
    IsOutermost outside (length outer == 0) (join f.before (aggregate f.offset f.name f.text built nothing))
closed_outermost f [] outer built rooted are = rw are (f.offset, f.text, built, rw (rooted.0, rooted.1) refl)
closed_outermost f (g ∷ outside) outer built rooted are = (rw are (ne_eqb (suc (length (names_in outside))) 0 (λ e. omega arith)), rooted)

-- the node of the innermost aggregate
innermost_node : (unknown : ℕ) (f : Frame) (outside : List Frame) (built : Tree) (d : TagNode) →
    get_or (built_nodes unknown (f ∷ outside) built) (length (built_nodes unknown outside f.before)) d ≡ open_node unknown f
innermost_node unknown f outside built d =
    let prefix = built_nodes unknown outside f.before in
    let within = nodes_from (length (prefix ++ open_node unknown f ∷ [])) built in
    rw (append_assoc prefix (open_node unknown f ∷ []) within) (get_or_at prefix (open_node unknown f) within d (length prefix) refl)

closed_nodes : (unknown : ℕ) (f : Frame) (outside : List Frame) (built : Tree) (nodes : List TagNode) (i : ℕ) (d : TagNode) →
    nodes ≡ built_nodes unknown (f ∷ outside) built → i ≡ length (built_nodes unknown outside f.before) →
    set nodes i (record (get_or nodes i d) { after = length nodes }) ≡ built_nodes unknown outside (join f.before (aggregate f.offset f.name f.text built nothing))
closed_nodes unknown f outside built nodes i d are is =
    rw (are, is, innermost_node unknown f outside built d) (nodes_close unknown f outside built)

-- The end tag of the innermost aggregate closes it.
pub reading_closes : (body : List ℕ) (unknown : ℕ) (nodes : List TagNode) (name : List ℕ) (outer : List (List ℕ)) (i : ℕ) (indices : List ℕ) (ended : Bool) (before : Option (List ℕ))
    (rest white more : List ℕ) (d : TagNode) → IsReading body unknown nodes (name ∷ outer) (i ∷ indices) ended before rest →
    rest ≡ end_tag name ++ (white ++ more) → is_name name ≡ true → is_name_of name before ≡ false → IsWhite white → is_at_tag more ≡ true →
    IsReading body unknown (set nodes i (record (get_or nodes i d) { after = length nodes })) outer indices (length outer == 0) None more
reading_closes body unknown nodes name outer i indices ended before rest white more d reading is named other blank at =
    go reading.frames reading.holds reading.outermost reading.names_are reading.indices_are reading.nodes_are
  where
    go : (frames : List Frame) → HoldsAfter (length body) reading.start frames before reading.built rest → IsOutermost frames ended reading.built →
        name ∷ outer ≡ names_in frames → i ∷ indices ≡ open_indices unknown frames → nodes ≡ built_nodes unknown frames reading.built →
        IsReading body unknown (set nodes i (record (get_or nodes i d) { after = length nodes })) outer indices (length outer == 0) None more
    go [] holds outermost names_are indices_are nodes_are = cc
    go (f ∷ outside) holds outermost names_are indices_are nodes_are =
        let size = length body in
        let name_is : name ≡ f.name = cc in
        let outer_is : outer ≡ names_in outside = cc in
        let i_is : i ≡ length (built_nodes unknown outside f.before) = cc in
        let others_are : indices ≡ open_indices unknown outside = cc in
        let awaits = closes_awaits size reading.start (f ∷ outside) before reading.built rest name (white ++ more) holds named other in
        let present = holds_unended size reading.start (f ∷ outside) before reading.built rest holds (subst (Awaits before) (sym is) awaits) in
        let at_end = subst (λ n. Holds size reading.start (f ∷ outside) reading.built (end_tag n ++ (white ++ more))) name_is
        (subst (Holds size reading.start (f ∷ outside) reading.built) is present) in
        record {
          white = reading.white;
          start = reading.start;
          frames = outside;
          built = join f.before (aggregate f.offset f.name f.text reading.built nothing);
          is_white = reading.is_white;
          split = reading.split;
          holds = holds_close size reading.start f outside reading.built white more at_end blank;
          outermost = closed_outermost f outside outer reading.built outermost.1 outer_is;
          names_are = outer_is;
          indices_are = others_are;
          nodes_are = closed_nodes unknown f outside reading.built nodes i d nodes_are i_is;
          same_fault =
              sym (ap (λ b. first_fault size (inside (name ∷ outer) before) (pieces_after size b)) is
              ∙ past_aggregate_end size outer before name white more named blank at awaits)
              ∙ subst (λ e. first_fault size (record { open_names = name ∷ outer; has_ended = e; element = before }) (pieces_after size rest) ≡ tag_fault body) outermost.0 reading.same_fault;
        }

-- ---- what a reading tells

-- Where OFX has ended and nothing is left, the nodes are those of the body.
pub reading_done : (body : List ℕ) (unknown : ℕ) (nodes : List TagNode) (names : List (List ℕ)) (indices : List ℕ) (before : Option (List ℕ)) →
    IsReading body unknown nodes names indices true before [] → AreNodesOf body nodes
reading_done body unknown nodes names indices before reading = go reading.frames reading.holds reading.outermost reading.nodes_are
  where
    at_end : (before : Option (List ℕ)) → Awaits before []
    at_end None = tt
    at_end (Some e) = refl

    go : (frames : List Frame) → HoldsAfter (length body) reading.start frames before reading.built [] → IsOutermost frames true reading.built →
        nodes ≡ built_nodes unknown frames reading.built → AreNodesOf body nodes
    go [] holds outermost nodes_are =
        let (offset, text, inner, whole) = outermost in
        let present = holds_unended (length body) reading.start [] before reading.built [] holds (at_end before) in
        record {
          tree = reading.built;
          spelled = rw whole (holds_whole body reading.white reading.start offset text inner reading.is_white reading.split
              (subst (λ t. Holds (length body) reading.start [] t []) whole present));
          are = nodes_are;
        }
    go (f ∷ outer) holds outermost nodes_are = absurd (both_ways true outermost.0 refl)

-- As many names are open as indices.
pub same_depth : (body : List ℕ) (unknown : ℕ) (nodes : List TagNode) (names : List (List ℕ)) (indices : List ℕ) (ended : Bool) (before : Option (List ℕ)) (rest : List ℕ) →
    IsReading body unknown nodes names indices ended before rest → length indices ≡ length names
same_depth body unknown nodes names indices ended before rest reading =
    ap length reading.indices_are ∙ counted reading.frames ∙ sym (ap length reading.names_are)
  where
    counted : (frames : List Frame) → length (open_indices unknown frames) ≡ length (names_in frames)
    counted [] = refl
    counted (f ∷ outer) = ap suc (counted outer)

-- The innermost name is that of the node at the innermost index.
pub innermost_is : (body : List ℕ) (unknown : ℕ) (nodes : List TagNode) (name : List ℕ) (outer : List (List ℕ)) (i : ℕ) (indices : List ℕ) (ended : Bool) (before : Option (List ℕ))
    (rest : List ℕ) (d : TagNode) → IsReading body unknown nodes (name ∷ outer) (i ∷ indices) ended before rest →
    (i < length nodes) × ((get_or nodes i d).name ≡ name) × (ended ≡ false)
innermost_is body unknown nodes name outer i indices ended before rest d reading = go reading.frames reading.outermost reading.names_are reading.indices_are reading.nodes_are
  where
    go : (frames : List Frame) → IsOutermost frames ended reading.built → name ∷ outer ≡ names_in frames → i ∷ indices ≡ open_indices unknown frames →
        nodes ≡ built_nodes unknown frames reading.built → (i < length nodes) × ((get_or nodes i d).name ≡ name) × (ended ≡ false)
    go [] outermost names_are indices_are nodes_are = cc
    go (f ∷ outside) outermost names_are indices_are nodes_are =
        let name_is : f.name ≡ name = cc in
        let i_is : i ≡ length (built_nodes unknown outside f.before) = cc in
        let prefix = built_nodes unknown outside f.before in
        let within = nodes_from (length (prefix ++ open_node unknown f ∷ [])) reading.built in
        let size : length nodes ≡ length prefix + suc (length within) =
        ap length nodes_are ∙ ap length (append_assoc prefix (open_node unknown f ∷ []) within) ∙ length-append prefix (open_node unknown f ∷ within) in
        (omega arith, rw (nodes_are, i_is) (ap (λ n. n.name) (innermost_node unknown f outside reading.built d) ∙ name_is), outermost.0)
