-- What a reader tells of its body at a tag, and how reading the tag takes it further.
use Rattle.std.proofs.Common.{◌≡◌, ℕ, ◌+◌, ◌-◌, ◌<◌, ◌≤◌, Bool, true, false, cond, not, ◌&&◌, ◌==◌, nat_eq, List, [], ◌∷◌, ◌++◌, length, take, get_or, set, reverse, map, codes, Option, None, Some, refl, sym, ap, subst, ◌∙◌, arith}
use Rattle.std.proofs.lemmas.Bool.{both_ways}
use Rattle.std.proofs.lemmas.List.{length-append, length-reverse, length-take-le, take_more, take_more_set, reverse-append, map_push, map-set, get_or-map, get_or_default, length-map, nil_from_length}
use Rattle.std.proofs.lemmas.Slice.Eq.{bytes_eq-Decides}
use Rattle.std.specs.Str.{bytes_eq}
use Rattle.ofx_types.specs.Sheet.{tag}
use Rattle.ofx_types.specs.TextRules.{trim_start}
use Rattle.ofx_types.specs.TagNames.{is_name, is_element}
use Rattle.ofx_types.specs.TagForm.{end_tag, is_value_byte}
use Rattle.ofx_types.specs.TagFault.{is_name_of, tag_fault}
use Rattle.ofx_types.specs.Nodes.{TagNode, AreNodesOf}
use Rattle.ofx_types.specs.declared.fault.TapeFault.{TapeFault}
use Rattle.ofx_types.specs.declared.fault.TapeFault.TheVariants.{Tag, Mismatch, Depth, Cut}
use Rattle.ofx_tape.specs.OpenAggregates.{is_at_tag, prefix_of, after_prefix, IsReading}
use Rattle.ofx_tape.specs.TagReading.{nodes_in, indices_in, element_in, IsRead, IsTagAt, IsStartAt, IsFaultOfEnd, IsFresh}
use Rattle.ofx_tape.specs.TapeOutcome.{IsTapeRefusal}
use Rattle.ofx_tape.specs.TagScan.{BeginsNoTag}
use Rattle.ofx_tape.specs.NodeView.{node_view}
use Rattle.ofx_tape.specs.declared.reader.Reader.{Reader}
use Rattle.ofx_tape.specs.declared.tape.Node.{Node}
use Rattle.ofx_tape.proofs.Splitting.{split_whole, prefix_passes}
use Rattle.ofx_tape.proofs.Steps.{is_wrong_first}
use Rattle.ofx_tape.proofs.TextEnds.{text_at, tag_at, text_then_tag, white_then_tag, trim_shorter, visible_at, value_then_tag, refused_at_value}
use Rattle.ofx_tape.proofs.Reading.{reading_begins, reading_done, reading_opens, reading_element, reading_ends_element, reading_closes, same_depth, innermost_is}
use Rattle.ofx_tape.proofs.ReadingFaults.{fault_start_after_end, fault_start_of_another, fault_too_deep, fault_in_value, fault_in_aggregate, fault_mismatch, fault_end_after_end, fault_end_before_start, fault_after_element, fault_after_aggregate, fault_no_tag, fault_cut_tag, fault_cut_body, fault_in_prefix}

-- as many names are open as the reader counts
pub depth_is : (r : Reader) (rest : List ℕ) (read : IsRead r rest) → length r.«open» ≡ 16 → length read.names ≡ r.depth
depth_is r rest read fits =
    sym (same_depth r.body.now 0 (nodes_in r) read.names (indices_in r) r.has_ended (element_in r) rest read.reading)
    ∙ length-reverse (take r.depth r.«open»)
    ∙ length-take-le r.depth r.«open» (omega (arith, read.is_deep))

-- where a tag is, by what is after it
tag_offset : (size offset at : ℕ) (rest prefix suffix next : List ℕ) (i : ℕ) → offset + length rest ≡ size → rest ≡ prefix ++ suffix →
    at + length next ≡ size → i + length next ≡ length suffix → offset + length prefix + i ≡ at
tag_offset size offset at rest prefix suffix next i located split there count = omega (arith, ap length split, length-append prefix suffix)

-- ---- what is no tag

pub cut_here : (r : Reader) (rest suffix : List ℕ) → IsRead r rest → rest ≡ 60 ∷ suffix → BeginsNoTag true (60 ∷ suffix) →
    tag_fault r.body.now ≡ Some (Cut (length r.body.now))
cut_here r rest suffix read is none =
    fault_cut_tag r.body.now 0 (nodes_in r) read.names (indices_in r) r.has_ended (element_in r) rest read.reading (rw is (none (length r.body.now)))

pub no_tag_here : (r : Reader) (rest suffix : List ℕ) (offset : ℕ) → IsRead r rest → rest ≡ 60 ∷ suffix → BeginsNoTag false (60 ∷ suffix) →
    offset + length rest ≡ length r.body.now → tag_fault r.body.now ≡ Some (Tag offset)
no_tag_here r rest suffix offset read is none located =
    fault_no_tag r.body.now 0 (nodes_in r) read.names (indices_in r) r.has_ended (element_in r) rest offset read.reading located (rw is (none (length r.body.now)))

-- ---- start tags

pub start_after_ofx : (r : Reader) (rest name suffix : List ℕ) (offset : ℕ) → IsTagAt tag r rest name suffix → r.has_ended ≡ true →
    offset + length rest ≡ length r.body.now → tag_fault r.body.now ≡ Some (Tag offset)
start_after_ofx r rest name suffix offset at ended located =
    let read = at.read in
    fault_start_after_end r.body.now 0 (nodes_in r) read.names (indices_in r) (element_in r) rest offset name suffix
    (subst (λ e. IsReading r.body.now 0 (nodes_in r) read.names (indices_in r) e (element_in r) rest) ended read.reading)
    located at.split at.has_name

pub start_first : (r : Reader) (rest name suffix : List ℕ) (offset : ℕ) (at : IsTagAt tag r rest name suffix) → length r.«open» ≡ 16 → r.has_ended ≡ false →
    ((r.depth == 0) && not (bytes_eq name (codes "OFX"))) ≡ true → offset + length rest ≡ length r.body.now → tag_fault r.body.now ≡ Some (Tag offset)
start_first r rest name suffix offset at fits ended wrong located =
    let read = at.read in
    fault_start_of_another r.body.now 0 (nodes_in r) read.names (indices_in r) (element_in r) rest offset name suffix
    (subst (λ e. IsReading r.body.now 0 (nodes_in r) read.names (indices_in r) e (element_in r) rest) ended read.reading)
    located at.split at.has_name
    (ap (λ n. (n == 0) && not (bytes_eq name (codes "OFX"))) (depth_is r rest read fits) ∙ wrong)

-- a start tag inside OFX, or that of OFX
record IsStart (r : Reader) (names : List (List ℕ)) (rest name suffix : List ℕ) : Type 0 where
  pub reading : IsReading r.body.now 0 (nodes_in r) names (indices_in r) false (element_in r) rest
  pub is_right : is_wrong_first names name ≡ false
  pub depth : length names ≡ r.depth
  pub has_name : is_name name ≡ true
  pub split : rest ≡ tag name ++ suffix

started : (r : Reader) (rest name suffix : List ℕ) (start : IsStartAt r rest name suffix) → length r.«open» ≡ 16 → IsStart r start.at.read.names rest name suffix
started r rest name suffix start fits =
    let at = start.at in
    let read = at.read in
    let depth = depth_is r rest read fits in
    record {
      reading = subst (λ e. IsReading r.body.now 0 (nodes_in r) read.names (indices_in r) e (element_in r) rest) start.is_open read.reading;
      is_right = ap (λ n. (n == 0) && not (bytes_eq name (codes "OFX"))) depth ∙ start.is_right;
      depth = depth;
      has_name = at.has_name;
      split = at.split;
    }

-- the bytes after a tag, as the text up to the next one
pub with_text : (rest prefix suffix : List ℕ) → rest ≡ prefix ++ suffix → rest ≡ prefix ++ (text_at suffix ++ tag_at suffix)
with_text rest prefix suffix split = split ∙ ap (λ l. prefix ++ l) (text_then_tag suffix).split

-- A control byte in an element's value.
pub fault_of_value : (r : Reader) (rest name suffix : List ℕ) (at : ℕ) → IsStartAt r rest name suffix → length r.«open» ≡ 16 →
    is_element name (text_at suffix) ≡ true → is_at_tag (after_prefix is_value_byte suffix) ≡ false → length rest ≤ length r.body.now →
    at + length (after_prefix is_value_byte suffix) ≡ length r.body.now → tag_fault r.body.now ≡ Some (Tag at)
fault_of_value r rest name suffix at start fits is_one stops within there =
    let s = started r rest name suffix start fits in
    let offset = length r.body.now - length rest in
    let located : offset + length rest ≡ length r.body.now = omega arith in
    let text = text_then_tag suffix in
    let value = prefix_of is_value_byte suffix in
    let count : length value + length (after_prefix is_value_byte suffix) ≡ length suffix =
    sym (ap length (split_whole is_value_byte suffix value (after_prefix is_value_byte suffix) refl refl) ∙ length-append value (after_prefix is_value_byte suffix)) in
    fault_in_value r.body.now 0 (nodes_in r) start.at.read.names (indices_in r) (element_in r) rest offset name (text_at suffix) (tag_at suffix) (length value)
    s.reading located (with_text rest (tag name) suffix s.split) s.has_name text.avoids text.at is_one s.is_right (refused_at_value suffix stops)
    ∙ ap (λ p. Some (Tag p)) (tag_offset (length r.body.now) offset at rest (tag name) suffix (after_prefix is_value_byte suffix) (length value) located s.split there count)

-- An element is read.
pub reads_element : (r : Reader) (rest name suffix : List ℕ) (start : IsStartAt r rest name suffix) → length r.«open» ≡ 16 →
    is_element name (text_at suffix) ≡ true → is_at_tag (after_prefix is_value_byte suffix) ≡ true → (nodes : List TagNode) (offset after : ℕ) →
    offset + length rest ≡ length r.body.now → after ≡ length (nodes_in r) + 1 →
    nodes ≡ nodes_in r ++ record { is_element = true; name = name; text = prefix_of is_value_byte suffix; offset = offset; after = after } ∷ [] →
    IsReading r.body.now 0 nodes start.at.read.names (indices_in r) r.has_ended (Some name) (after_prefix is_value_byte suffix)
reads_element r rest name suffix start fits is_one at nodes offset after located after_is nodes_are =
    let s = started r rest name suffix start fits in
    let value = prefix_of is_value_byte suffix in
    let next = after_prefix is_value_byte suffix in
    let split : rest ≡ tag name ++ (value ++ next) = s.split ∙ ap (λ l. tag name ++ l) (split_whole is_value_byte suffix value next refl refl) in
    let read = reading_element r.body.now 0 (nodes_in r) start.at.read.names (indices_in r) (element_in r) rest offset name value next s.reading located
    split s.has_name (subst (λ t. is_element name t ≡ true) (value_then_tag suffix at) is_one) (prefix_passes is_value_byte suffix value refl) at s.is_right in
    let same : nodes_in r ++ record { is_element = true; name = name; text = value; offset = offset; after = length (nodes_in r) + 1 } ∷ [] ≡ nodes =
    ap (λ n. nodes_in r ++ record { is_element = true; name = name; text = value; offset = offset; after = n } ∷ []) (sym after_is) ∙ sym nodes_are in
    subst (λ e. IsReading r.body.now 0 nodes start.at.read.names (indices_in r) e (Some name) next) (sym start.is_open)
    (subst (λ ns. IsReading r.body.now 0 ns start.at.read.names (indices_in r) false (Some name) next) same read)

-- A node is added.
pub node_pushed : (ok : Bool) (items old : List Node) (node : Node) → items ≡ cond ok (old ++ node ∷ []) old → ok ≡ true →
    map node_view items ≡ map node_view old ++ node_view node ∷ []
node_pushed ok items old node is pushed = ap (map node_view) (is ∙ ap (λ b. cond b (old ++ node ∷ []) old) pushed) ∙ map_push node_view old node

-- What is after a tag is shorter than from the tag on.
pub tag_shortens : (name rest suffix next : List ℕ) → rest ≡ tag name ++ suffix → length next ≤ length suffix → length next < length rest
tag_shortens name rest suffix next split shorter = omega (arith, ap length split, length-append (tag name) suffix)

pub end_tag_shortens : (name rest suffix next : List ℕ) → rest ≡ end_tag name ++ suffix → length next ≤ length suffix → length next < length rest
end_tag_shortens name rest suffix next split shorter = omega (arith, ap length split, length-append (end_tag name) suffix)

-- An element is read, in the words of the code.
pub element_goes_on : (r : Reader) (rest name suffix value next : List ℕ) (start : IsStartAt r rest name suffix) → length r.«open» ≡ 16 →
    is_element name (text_at suffix) ≡ true → value ≡ prefix_of is_value_byte suffix → next ≡ after_prefix is_value_byte suffix → is_at_tag next ≡ true →
    (nodes : List TagNode) (offset after : ℕ) → offset + length rest ≡ length r.body.now → after ≡ length (nodes_in r) + 1 →
    nodes ≡ nodes_in r ++ record { is_element = true; name = name; text = value; offset = offset; after = after } ∷ [] →
    IsReading r.body.now 0 nodes start.at.read.names (indices_in r) r.has_ended (Some name) next × (length next ≤ length suffix)
element_goes_on r rest name suffix value next start fits is_one value_is next_is at nodes offset after located after_is nodes_are =
    let whole = split_whole is_value_byte suffix value next value_is next_is in (
      subst (λ n. IsReading r.body.now 0 nodes start.at.read.names (indices_in r) r.has_ended (Some name) n) (sym next_is)
          (reads_element r rest name suffix start fits is_one (ap is_at_tag (sym next_is) ∙ at) nodes offset after located after_is
          (nodes_are ∙ ap (λ t. nodes_in r ++ record { is_element = true; name = name; text = t; offset = offset; after = after } ∷ []) value_is)),
      omega (arith, ap length whole, length-append value next),
    )

-- A seventeenth aggregate.
pub fault_of_depth : (r : Reader) (rest name suffix : List ℕ) (offset : ℕ) → IsStartAt r rest name suffix → length r.«open» ≡ 16 →
    is_element name (text_at suffix) ≡ false → r.depth ≡ 16 → offset + length rest ≡ length r.body.now → tag_fault r.body.now ≡ Some (Depth offset)
fault_of_depth r rest name suffix offset start fits is_none full located =
    let s = started r rest name suffix start fits in
    let text = text_then_tag suffix in
    fault_too_deep r.body.now 0 (nodes_in r) start.at.read.names (indices_in r) (element_in r) rest offset name (text_at suffix) (tag_at suffix)
    s.reading located (with_text rest (tag name) suffix s.split) s.has_name text.avoids text.at is_none (omega (arith, s.depth))

-- Text after the start tag of an aggregate.
pub fault_of_text : (r : Reader) (rest name suffix : List ℕ) (at : ℕ) → IsStartAt r rest name suffix → length r.«open» ≡ 16 →
    is_element name (text_at suffix) ≡ false → r.depth < 16 → is_at_tag (trim_start suffix) ≡ false → length rest ≤ length r.body.now →
    at + length (trim_start suffix) ≡ length r.body.now → tag_fault r.body.now ≡ Some (Tag at)
fault_of_text r rest name suffix at start fits is_none room stops within there =
    let s = started r rest name suffix start fits in
    let offset = length r.body.now - length rest in
    let located : offset + length rest ≡ length r.body.now = omega arith in
    let text = text_then_tag suffix in
    let (i, found, count) = visible_at suffix stops in
    fault_in_aggregate r.body.now 0 (nodes_in r) start.at.read.names (indices_in r) (element_in r) rest offset name (text_at suffix) (tag_at suffix) i
    s.reading located (with_text rest (tag name) suffix s.split) s.has_name text.avoids text.at is_none s.is_right (omega (arith, s.depth)) found
    ∙ ap (λ p. Some (Tag p)) (tag_offset (length r.body.now) offset at rest (tag name) suffix (trim_start suffix) i located s.split there count)

-- one more aggregate is open
pub open_more : (indices : List ℕ) (depth index : ℕ) → depth < length indices → reverse (take (depth + 1) (set indices depth index)) ≡ index ∷ reverse (take depth indices)
open_more indices depth index room = ap reverse (take_more_set indices depth index room) ∙ reverse-append (take depth indices) (index ∷ [])

-- An aggregate is opened.
pub reads_aggregate : (r : Reader) (rest name suffix : List ℕ) (start : IsStartAt r rest name suffix) → length r.«open» ≡ 16 →
    is_element name (text_at suffix) ≡ false → r.depth < 16 → is_at_tag (trim_start suffix) ≡ true → (nodes : List TagNode) (offset index : ℕ) →
    offset + length rest ≡ length r.body.now → index ≡ length (nodes_in r) →
    nodes ≡ nodes_in r ++ record { is_element = false; name = name; text = take (length suffix - length (trim_start suffix)) suffix; offset = offset; after = 0 } ∷ [] →
    IsReading r.body.now 0 nodes (name ∷ start.at.read.names) (reverse (take (r.depth + 1) (set r.«open» r.depth index))) r.has_ended None (trim_start suffix)
reads_aggregate r rest name suffix start fits is_none room at nodes offset index located index_is nodes_are =
    let s = started r rest name suffix start fits in
    let w = white_then_tag suffix at in
    let text = text_at suffix in
    let next = trim_start suffix in
    let split : rest ≡ tag name ++ (text ++ next) = s.split ∙ ap (λ l. tag name ++ l) w.split in
    let depth = depth_is r rest start.at.read fits in
    let read = reading_opens r.body.now 0 (nodes_in r) start.at.read.names (indices_in r) (element_in r) rest offset name text next s.reading located
    split s.has_name is_none w.white at s.is_right (omega (arith, depth)) in
    let same : nodes_in r ++ record { is_element = false; name = name; text = text; offset = offset; after = 0 } ∷ [] ≡ nodes =
    ap (λ t. nodes_in r ++ record { is_element = false; name = name; text = t; offset = offset; after = 0 } ∷ []) w.text ∙ sym nodes_are in
    let indices : length (nodes_in r) ∷ indices_in r ≡ reverse (take (r.depth + 1) (set r.«open» r.depth index)) =
    ap (λ n. n ∷ indices_in r) (sym index_is) ∙ sym (open_more r.«open» r.depth index (omega arith)) in
    subst (λ e. IsReading r.body.now 0 nodes (name ∷ start.at.read.names) (reverse (take (r.depth + 1) (set r.«open» r.depth index))) e None next) (sym start.is_open)
    (subst (λ ns. IsReading r.body.now 0 nodes (name ∷ start.at.read.names) ns false None next) indices
    (subst (λ ns. IsReading r.body.now 0 ns (name ∷ start.at.read.names) (length (nodes_in r) ∷ indices_in r) false None next) same read))

-- ---- end tags

pub element_before : (before : Option (List ℕ)) (name : List ℕ) → is_name_of name before ≡ true → before ≡ Some name
element_before None name h = absurd (both_ways false refl h)
element_before (Some other) name h = ap (λ n. Some n) ((bytes_eq-Decides other name).0 h)

reading_before : (r : Reader) (rest name : List ℕ) (read : IsRead r rest) → is_name_of name (element_in r) ≡ true →
    IsReading r.body.now 0 (nodes_in r) read.names (indices_in r) r.has_ended (Some name) rest
reading_before r rest name read it =
    subst (λ b. IsReading r.body.now 0 (nodes_in r) read.names (indices_in r) r.has_ended b rest) (element_before (element_in r) name it) read.reading

-- Text after the end tag of an element.
pub fault_after_end : (r : Reader) (rest name suffix : List ℕ) (at : ℕ) → IsTagAt end_tag r rest name suffix → is_name_of name (element_in r) ≡ true →
    is_at_tag (trim_start suffix) ≡ false → at + length (trim_start suffix) ≡ length r.body.now → tag_fault r.body.now ≡ Some (Tag at)
fault_after_end r rest name suffix at here it stops there =
    let read = here.read in
    let offset = length r.body.now - length rest in
    let located : offset + length rest ≡ length r.body.now = omega (arith, read.is_within) in
    let text = text_then_tag suffix in
    let (i, found, count) = visible_at suffix stops in
    fault_after_element r.body.now 0 (nodes_in r) read.names (indices_in r) r.has_ended rest offset name (text_at suffix) (tag_at suffix) i
    (reading_before r rest name read it) located (with_text rest (end_tag name) suffix here.split) here.has_name text.avoids text.at found
    ∙ ap (λ p. Some (Tag p)) (tag_offset (length r.body.now) offset at rest (end_tag name) suffix (trim_start suffix) i located here.split there count)

-- The end tag of an element is read.
pub reads_end : (r : Reader) (rest name suffix : List ℕ) (here : IsTagAt end_tag r rest name suffix) → is_name_of name (element_in r) ≡ true →
    is_at_tag (trim_start suffix) ≡ true → IsReading r.body.now 0 (nodes_in r) here.read.names (indices_in r) r.has_ended None (trim_start suffix)
reads_end r rest name suffix here it at =
    let w = white_then_tag suffix at in
    reading_ends_element r.body.now 0 (nodes_in r) here.read.names (indices_in r) r.has_ended rest name (text_at suffix) (trim_start suffix)
    (reading_before r rest name here.read it) (here.split ∙ ap (λ l. end_tag name ++ l) w.split) here.has_name w.white at

-- An aggregate is opened, in the words of the code.
pub aggregate_goes_on : (r : Reader) (rest name suffix value next : List ℕ) (start : IsStartAt r rest name suffix) → length r.«open» ≡ 16 →
    is_element name (text_at suffix) ≡ false → r.depth < 16 → next ≡ trim_start suffix → value ≡ take (length suffix - length next) suffix → is_at_tag next ≡ true →
    (nodes : List TagNode) (offset index : ℕ) → offset + length rest ≡ length r.body.now → index ≡ length (nodes_in r) →
    nodes ≡ nodes_in r ++ record { is_element = false; name = name; text = value; offset = offset; after = 0 } ∷ [] →
    IsReading r.body.now 0 nodes (name ∷ start.at.read.names) (reverse (take (r.depth + 1) (set r.«open» r.depth index))) r.has_ended None next
aggregate_goes_on r rest name suffix value next start fits is_none room next_is value_is at nodes offset index located index_is nodes_are =
    let text_is : value ≡ take (length suffix - length (trim_start suffix)) suffix = value_is ∙ ap (λ n. take (length suffix - length n) suffix) next_is in
    subst (λ n. IsReading r.body.now 0 nodes (name ∷ start.at.read.names) (reverse (take (r.depth + 1) (set r.«open» r.depth index))) r.has_ended None n) (sym next_is)
    (reads_aggregate r rest name suffix start fits is_none room (ap is_at_tag (sym next_is) ∙ at) nodes offset index located index_is
    (nodes_are ∙ ap (λ t. nodes_in r ++ record { is_element = false; name = name; text = t; offset = offset; after = 0 } ∷ []) text_is))

-- ---- the end tag of the innermost aggregate

-- the index of its node, and those of the others
abbrev pub innermost_index : Reader → ℕ
innermost_index r = get_or r.«open» (r.depth - 1) 0

abbrev pub outer_indices : Reader → List ℕ
outer_indices r = reverse (take (r.depth - 1) r.«open»)

record IsInnermost (r : Reader) (rest : List ℕ) (name : List ℕ) (outer : List (List ℕ)) : Type 0 where
  pub reading : IsReading r.body.now 0 (nodes_in r) (name ∷ outer) (innermost_index r ∷ outer_indices r) r.has_ended (element_in r) rest
  pub depth : length outer ≡ r.depth - 1

last_open : (indices : List ℕ) (depth : ℕ) → depth ≤ length indices → (depth ≡ 0 → ⊥) → reverse (take depth indices) ≡ get_or indices (depth - 1) 0 ∷ reverse (take (depth - 1) indices)
last_open indices depth fits some =
    let more : depth ≡ depth - 1 + 1 = omega arith in
    ap (λ n. reverse (take n indices)) more
    ∙ ap reverse (take_more indices (depth - 1) 0 (omega arith))
    ∙ reverse-append (take (depth - 1) indices) (get_or indices (depth - 1) 0 ∷ [])

innermost : (r : Reader) (rest : List ℕ) (read : IsRead r rest) → length r.«open» ≡ 16 → (r.depth ≡ 0 → ⊥) →
    (name : List ℕ) × (outer : List (List ℕ)) × IsInnermost r rest name outer
innermost r rest read fits some = go read.names read.reading (depth_is r rest read fits)
  where
    go : (names : List (List ℕ)) → IsReading r.body.now 0 (nodes_in r) names (indices_in r) r.has_ended (element_in r) rest → length names ≡ r.depth →
        (name : List ℕ) × (outer : List (List ℕ)) × IsInnermost r rest name outer
    go [] reading depth = absurd (some (sym depth))
    go (name ∷ outer) reading depth = (
      name,
      outer,
      record {
        reading = subst (λ ns. IsReading r.body.now 0 (nodes_in r) (name ∷ outer) ns r.has_ended (element_in r) rest)
            (last_open r.«open» r.depth (omega (arith, read.is_deep)) some) reading;
        depth = omega (arith, depth);
      },
    )

-- its node is among the nodes
pub innermost_inside : (r : Reader) (rest : List ℕ) → IsRead r rest → length r.«open» ≡ 16 → (r.depth ≡ 0 → ⊥) → innermost_index r < length (nodes_in r)
innermost_inside r rest read fits some =
    let (name, outer, i) = innermost r rest read fits some in
    let d : TagNode = record { is_element = true; name = []; text = []; offset = 0; after = 0 } in
    (innermost_is r.body.now 0 (nodes_in r) name outer (innermost_index r) (outer_indices r) r.has_ended (element_in r) rest d i.reading).0

-- the node that is at an index, in the words of the code
node_at : (items : List Node) (i : ℕ) (node : Node) → i < length items → node ≡ get_or items i node → get_or (map node_view items) i (node_view node) ≡ node_view node
node_at items i node inside is = get_or-map node_view items i node (node_view node) inside ∙ ap node_view (sym is)

-- the same node, however it is read
pub same_read : (items : List Node) (i : ℕ) (one other : Node) → i < length items → one ≡ get_or items i one → other ≡ get_or items i other → one ≡ other
same_read items i one other inside one_is other_is = one_is ∙ get_or_default items i one other inside ∙ sym other_is

-- it has the innermost name
innermost_name : (r : Reader) (rest name : List ℕ) (outer : List (List ℕ)) (node : Node) → IsInnermost r rest name outer → innermost_index r < length r.nodes.items →
    node ≡ get_or r.nodes.items (innermost_index r) node → node.name.now ≡ name
innermost_name r rest name outer node i inside is =
    ap (λ n. n.name) (sym (node_at r.nodes.items (innermost_index r) node inside is))
    ∙ (innermost_is r.body.now 0 (nodes_in r) name outer (innermost_index r) (outer_indices r) r.has_ended (element_in r) rest (node_view node) i.reading).1

pub items_inside : (r : Reader) (i : ℕ) → i < length (nodes_in r) → i < length r.nodes.items
items_inside r i inside = omega (arith, length-map r.nodes.items node_view)

-- An end tag with another name.
pub fault_of_other : (r : Reader) (rest name suffix : List ℕ) (offset : ℕ) (node : Node) (at : IsTagAt end_tag r rest name suffix) → length r.«open» ≡ 16 → (r.depth ≡ 0 → ⊥) →
    is_name_of name (element_in r) ≡ false → node ≡ get_or r.nodes.items (innermost_index r) node → bytes_eq node.name.now name ≡ false →
    offset + length rest ≡ length r.body.now → tag_fault r.body.now ≡ Some (Mismatch offset)
fault_of_other r rest name suffix offset node at fits some other is differs located =
    let (innermost_is_named, outer, i) = innermost r rest at.read fits some in
    let inside = items_inside r (innermost_index r) (innermost_inside r rest at.read fits some) in
    let same = innermost_name r rest innermost_is_named outer node i inside is in
    fault_mismatch r.body.now 0 (nodes_in r) innermost_is_named outer (innermost_index r ∷ outer_indices r) r.has_ended (element_in r) rest offset name suffix
    i.reading located at.split at.has_name other (ap (λ n. bytes_eq n name) (sym same) ∙ differs)

-- the reading at the end tag of the innermost aggregate
closing : (r : Reader) (rest name suffix : List ℕ) (node : Node) (at : IsTagAt end_tag r rest name suffix) → length r.«open» ≡ 16 → (r.depth ≡ 0 → ⊥) →
    node ≡ get_or r.nodes.items (innermost_index r) node → bytes_eq node.name.now name ≡ true → (outer : List (List ℕ)) × IsInnermost r rest name outer
closing r rest name suffix node at fits some is named =
    let (innermost_is_named, outer, i) = innermost r rest at.read fits some in
    let inside = items_inside r (innermost_index r) (innermost_inside r rest at.read fits some) in
    let same : innermost_is_named ≡ name = sym (innermost_name r rest innermost_is_named outer node i inside is) ∙ (bytes_eq-Decides node.name.now name).0 named in
    (outer, subst (λ n. IsInnermost r rest n outer) same i)

-- Text after the end tag of an aggregate.
pub fault_after_close : (r : Reader) (rest name suffix : List ℕ) (offset : ℕ) (node : Node) (at : IsTagAt end_tag r rest name suffix) → length r.«open» ≡ 16 → (r.depth ≡ 0 → ⊥) →
    is_name_of name (element_in r) ≡ false → node ≡ get_or r.nodes.items (innermost_index r) node → bytes_eq node.name.now name ≡ true →
    is_at_tag (trim_start suffix) ≡ false → offset + length (trim_start suffix) ≡ length r.body.now → tag_fault r.body.now ≡ Some (Tag offset)
fault_after_close r rest name suffix offset node at fits some other is named stops there =
    let (outer, closes) = closing r rest name suffix node at fits some is named in
    let here = length r.body.now - length rest in
    let located : here + length rest ≡ length r.body.now = omega (arith, at.read.is_within) in
    let text = text_then_tag suffix in
    let (i, found, count) = visible_at suffix stops in
    fault_after_aggregate r.body.now 0 (nodes_in r) name outer (innermost_index r ∷ outer_indices r) r.has_ended (element_in r) rest here (text_at suffix) (tag_at suffix) i
    closes.reading located (with_text rest (end_tag name) suffix at.split) at.has_name other text.avoids text.at found
    ∙ ap (λ p. Some (Tag p)) (tag_offset (length r.body.now) here offset rest (end_tag name) suffix (trim_start suffix) i located at.split there count)

-- the node with the index after its last inner node
closed_items : (items : List Node) (i : ℕ) (node closed : Node) → i < length items → node ≡ get_or items i node →
    node_view closed ≡ record (node_view node) { after = length (map node_view items) } →
    set (map node_view items) i (record (get_or (map node_view items) i (node_view node)) { after = length (map node_view items) }) ≡ map node_view (set items i closed)
closed_items items i node closed inside is closed_is =
    ap (λ n. set (map node_view items) i (record n { after = length (map node_view items) })) (node_at items i node inside is)
    ∙ ap (set (map node_view items) i) (sym closed_is)
    ∙ sym (map-set node_view items i closed)

-- An aggregate is closed.
pub close_goes_on : (r : Reader) (rest name suffix next : List ℕ) (node closed : Node) (at : IsTagAt end_tag r rest name suffix) → length r.«open» ≡ 16 → (r.depth ≡ 0 → ⊥) →
    is_name_of name (element_in r) ≡ false → node ≡ get_or r.nodes.items (innermost_index r) node → bytes_eq node.name.now name ≡ true →
    next ≡ trim_start suffix → is_at_tag next ≡ true → node_view closed ≡ record (node_view node) { after = length (nodes_in r) } →
    (names : List (List ℕ)) × IsReading r.body.now 0 (map node_view (set r.nodes.items (innermost_index r) closed)) names (outer_indices r) (nat_eq (r.depth - 1) 0) None next
close_goes_on r rest name suffix next node closed at fits some other is named next_is at_next closed_is =
    let (outer, closes) = closing r rest name suffix node at fits some is named in
    let inside = items_inside r (innermost_index r) (innermost_inside r rest at.read fits some) in
    let at_there : is_at_tag (trim_start suffix) ≡ true = ap is_at_tag (sym next_is) ∙ at_next in
    let w = white_then_tag suffix at_there in
    let read = reading_closes r.body.now 0 (nodes_in r) name outer (innermost_index r) (outer_indices r) r.has_ended (element_in r) rest (text_at suffix) (trim_start suffix)
    (node_view node) closes.reading (at.split ∙ ap (λ l. end_tag name ++ l) w.split) at.has_name other w.white at_there in (
      outer,
      subst (λ n. IsReading r.body.now 0 (map node_view (set r.nodes.items (innermost_index r) closed)) outer (outer_indices r) (nat_eq (r.depth - 1) 0) None n) (sym next_is)
          (subst (λ n. IsReading r.body.now 0 (map node_view (set r.nodes.items (innermost_index r) closed)) outer (outer_indices r) (nat_eq n 0) None (trim_start suffix)) closes.depth
          (subst (λ ns. IsReading r.body.now 0 ns outer (outer_indices r) (nat_eq (length outer) 0) None (trim_start suffix))
          (closed_items r.nodes.items (innermost_index r) node closed inside is closed_is) read)),
    )

-- An end tag where no aggregate is open.
no_names : (r : Reader) (rest : List ℕ) (read : IsRead r rest) → length r.«open» ≡ 16 → r.depth ≡ 0 →
    IsReading r.body.now 0 (nodes_in r) [] (indices_in r) r.has_ended (element_in r) rest
no_names r rest read fits none =
    subst (λ names. IsReading r.body.now 0 (nodes_in r) names (indices_in r) r.has_ended (element_in r) rest)
    (nil_from_length read.names (depth_is r rest read fits ∙ none)) read.reading

pub fault_of_no_open : (r : Reader) (rest name suffix : List ℕ) (fault : TapeFault) → IsTagAt end_tag r rest name suffix → length r.«open» ≡ 16 → r.depth ≡ 0 →
    is_name_of name (element_in r) ≡ false → IsFaultOfEnd r.has_ended (length r.body.now) rest fault → IsTapeRefusal r.body.now fault
fault_of_no_open r rest name suffix fault at fits none other is = go r.has_ended (no_names r rest at.read fits none) is
  where
    go : (ended : Bool) → IsReading r.body.now 0 (nodes_in r) [] (indices_in r) ended (element_in r) rest → IsFaultOfEnd ended (length r.body.now) rest fault → IsTapeRefusal r.body.now fault
    go true reading (offset, fault_is, located) =
        subst (IsTapeRefusal r.body.now) (sym fault_is)
        (fault_end_after_end r.body.now 0 (nodes_in r) (indices_in r) (element_in r) rest offset name suffix reading located at.split at.has_name other)
    go false reading (offset, fault_is, located) =
        subst (IsTapeRefusal r.body.now) (sym fault_is)
        (fault_end_before_start r.body.now 0 (nodes_in r) (indices_in r) (element_in r) rest offset name suffix reading located at.split at.has_name other)

-- The end tag of an element is read, in the words of the code.
pub reads_end_on : (r : Reader) (rest name suffix next : List ℕ) (here : IsTagAt end_tag r rest name suffix) → is_name_of name (element_in r) ≡ true →
    next ≡ trim_start suffix → is_at_tag next ≡ true → IsReading r.body.now 0 (nodes_in r) here.read.names (indices_in r) r.has_ended None next
reads_end_on r rest name suffix next here it next_is at =
    subst (λ n. IsReading r.body.now 0 (nodes_in r) here.read.names (indices_in r) r.has_ended None n) (sym next_is)
    (reads_end r rest name suffix here it (ap is_at_tag (sym next_is) ∙ at))

-- ---- the front and the end of the body

-- After white space a reader that has read nothing has read its body up to there.
pub fresh_is_read : (body : List ℕ) (r : Reader) (rest : List ℕ) → IsFresh body r → rest ≡ trim_start body → is_at_tag rest ≡ true → IsRead r rest
fresh_is_read body r rest fresh rest_is at =
    let start = trim_start body in
    let at_start : is_at_tag start ≡ true = ap is_at_tag (sym rest_is) ∙ at in
    let w = white_then_tag body at_start in
    let indices : [] ≡ indices_in r = ap (λ n. reverse (take n r.«open»)) (sym fresh.none_open) in
    record {
      names = [];
      reading =
          subst (λ n. IsReading r.body.now 0 (nodes_in r) [] (indices_in r) r.has_ended (element_in r) n) (sym rest_is)
          (subst (λ b. IsReading b 0 (nodes_in r) [] (indices_in r) r.has_ended (element_in r) start) (sym fresh.is_of_body)
          (subst (λ ns. IsReading body 0 ns [] (indices_in r) r.has_ended (element_in r) start) (sym fresh.no_nodes)
          (subst (λ ns. IsReading body 0 [] [] ns r.has_ended (element_in r) start) indices
          (subst (λ e. IsReading body 0 [] [] [] e (element_in r) start) (sym fresh.not_ended)
          (subst (λ e. IsReading body 0 [] [] [] false e start) (sym fresh.no_element)
          (reading_begins body (text_at body) start 0 w.split w.white at_start))))));
      is_deep = omega (arith, fresh.none_open);
      is_within = omega (arith, ap length fresh.is_of_body, ap length rest_is, trim_shorter body);
      is_at_tag = at;
    }

-- Text before the first tag.
pub fault_of_prefix : (body rest : List ℕ) → rest ≡ trim_start body → is_at_tag rest ≡ false → tag_fault body ≡ Some (Tag (length body - length rest))
fault_of_prefix body rest rest_is stops =
    let text = text_then_tag body in
    let (i, found, count) = visible_at body (ap is_at_tag (sym rest_is) ∙ stops) in
    fault_in_prefix body (text_at body) (tag_at body) i text.split text.avoids text.at found
    ∙ ap (λ p. Some (Tag p)) (omega (arith, ap length rest_is))

-- At the end of the body its nodes are read, or it is cut.
pub read_whole : (r : Reader) → IsRead r [] → r.has_ended ≡ true → AreNodesOf r.body.now (nodes_in r)
read_whole r read ended =
    reading_done r.body.now 0 (nodes_in r) read.names (indices_in r) (element_in r)
    (subst (λ e. IsReading r.body.now 0 (nodes_in r) read.names (indices_in r) e (element_in r) []) ended read.reading)

pub fault_at_end : (r : Reader) → IsRead r [] → r.has_ended ≡ false → tag_fault r.body.now ≡ Some (Cut (length r.body.now))
fault_at_end r read open_still =
    fault_cut_body r.body.now 0 (nodes_in r) read.names (indices_in r) (element_in r)
    (subst (λ e. IsReading r.body.now 0 (nodes_in r) read.names (indices_in r) e (element_in r) []) open_still read.reading)
