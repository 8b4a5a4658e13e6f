-- The bytes of a body tell its elements and aggregates.
use Rattle.std.proofs.Common.{◌≡◌, ℕ, ◌+◌, ◌-◌, Bool, true, false, ◌&&◌, ◌==◌, nat_eq, List, [], ◌∷◌, ◌++◌, length, drop, inl, inr, refl, sym, ap, subst, ◌∙◌, append_assoc, arith}
use Rattle.std.proofs.lemmas.Bool.{both_ways, and_parts}
use Rattle.std.proofs.lemmas.List.{append_cancel_left}
use Rattle.std.proofs.lemmas.Slice.Eq.{starts_is}
use Rattle.std.proofs.lemmas.Bool.Decides.{Decides-eqb}
use Rattle.std.specs.List.{list_all, list_any, starts_with}
use Rattle.ofx_types.specs.Sheet.{tag}
use Rattle.ofx_types.specs.TagNames.{is_name, is_name_byte, is_element}
use Rattle.ofx_types.specs.TagForm.{end_tag, Tree, nothing, element, aggregate, Closes, Spells, SpellsBody}
use Rattle.ofx_types.specs.TagFault.{is_open, is_close}
use Rattle.ofx_types.specs.Nodes.{nodes_from}
use Rattle.ofx_tape.specs.TapeOutcome.{TagsAreUnambiguous}
use Rattle.ofx_tape.proofs.Runs.{no_such_byte, same_run}
use Rattle.ofx_tape.proofs.Pieces.{is_at_tag, name_bytes, name_avoids}
use Rattle.ofx_tape.proofs.Spelled.{white_avoids, value_avoids, spelled_at_tag, closing_at_tag}

-- nothing is left, or `</` comes next
abbrev pub is_at_end : List ℕ → Bool
is_at_end [] = true
is_at_end (b ∷ []) = false
is_at_end (b ∷ c ∷ bytes) = (b == 60) && (c == 47)

end_at_tag : (rest : List ℕ) → is_at_end rest ≡ true → is_at_tag rest ≡ true
end_at_tag [] at = refl
end_at_tag (b ∷ []) at = cc
end_at_tag (b ∷ c ∷ bytes) at = (and_parts (b == 60) (c == 47) at).0

-- a start tag is no end
start_no_end : (name more : List ℕ) → is_name name ≡ true → is_at_end (tag name ++ more) ≡ false
start_no_end [] more named = cc
start_no_end (c ∷ name) more named =
    no_such_byte is_name_byte c 47 (and_parts (is_name_byte c) (list_all is_name_byte name) (name_bytes (c ∷ name) named)).0 refl

-- the bytes tell the name in a tag
pub same_tag : (name other more others : List ℕ) → is_name name ≡ true → is_name other ≡ true → tag name ++ more ≡ tag other ++ others →
    (name ≡ other) × (more ≡ others)
same_tag name other more others named other_named same =
    let inner : name ++ 62 ∷ more ≡ other ++ 62 ∷ others = rw (append_assoc name (62 ∷ []) more, append_assoc other (62 ∷ []) others) at (ap (drop 1) same) in
    let parts = same_run is_close name other (62 ∷ more) (62 ∷ others) (name_avoids 62 name refl (name_bytes name named)) (name_avoids 62 other refl (name_bytes other other_named)) refl refl inner in
    (parts.0, ap (drop 1) parts.1)

-- A start tag at its offset, the text after it, and what follows from the next tag on.
record IsTagged (size : ℕ) (bytes : List ℕ) (offset : ℕ) (name text next : List ℕ) : Type 0 where
  has_name : is_name name ≡ true
  avoids : list_any is_open text ≡ false
  at : is_at_tag next ≡ true
  located : offset + length bytes ≡ size
  split : bytes ≡ tag name ++ (text ++ next)

record IsSame (offset other_offset : ℕ) (name other_name text other_text next other_next : List ℕ) : Type 0 where
  offsets : offset ≡ other_offset
  names : name ≡ other_name
  texts : text ≡ other_text
  nexts : next ≡ other_next

same_tagged : (size offset other_offset : ℕ) (bytes others name other_name text other_text next other_next : List ℕ) →
    IsTagged size bytes offset name text next → IsTagged size others other_offset other_name other_text other_next → bytes ≡ others →
    IsSame offset other_offset name other_name text other_text next other_next
same_tagged size offset other_offset bytes others name other_name text other_text next other_next one another same =
    let tags = same_tag name other_name (text ++ next) (other_text ++ other_next) one.has_name another.has_name (sym one.split ∙ same ∙ another.split) in
    let parts = same_run is_open text other_text next other_next one.avoids another.avoids one.at another.at tags.1 in
    record {
      offsets = omega (arith, one.located, another.located, ap length same);
      names = tags.0;
      texts = parts.0;
      nexts = parts.1;
    }

tagged_element : (size room : ℕ) (bytes : List ℕ) (offset : ℕ) (name text : List ℕ) (suffix : Tree) (rest : List ℕ) (spells : Spells size room bytes (element offset name text suffix) rest) →
    is_at_end rest ≡ true → IsTagged size bytes offset name text (spells.0 ++ spells.1)
tagged_element size room bytes offset name text suffix rest spells at =
    let (closing, more, is_one, located, split, further) = spells in
    record {
      has_name = is_one.has_name;
      avoids = value_avoids text is_one.is_value;
      at = closing_at_tag name closing more is_one.closes (spelled_at_tag size room more suffix rest further (end_at_tag rest at));
      located = located;
      split = split;
    }

tagged_aggregate : (size room : ℕ) (bytes : List ℕ) (offset : ℕ) (name text : List ℕ) (inner suffix : Tree) (rest : List ℕ)
    (spells : Spells size room bytes (aggregate offset name text inner suffix) rest) → IsTagged size bytes offset name text spells.0
tagged_aggregate size room bytes offset name text inner suffix rest spells =
    let (within, white, more, is_one, has_room, located, split, inside, further) = spells in
    record {
      has_name = is_one.has_name;
      avoids = white_avoids text is_one.is_white;
      at = spelled_at_tag size (room - 1) within inner (end_tag name ++ (white ++ more)) inside refl;
      located = located;
      split = split;
    }

-- what is tagged doesn't end there
tagged_no_end : (size offset : ℕ) (bytes name text next rest : List ℕ) → IsTagged size bytes offset name text next → rest ≡ bytes → is_at_end rest ≡ true → ⊥
tagged_no_end size offset bytes name text next rest tagged same at =
    both_ways (is_at_end rest) (rw (same ∙ tagged.split) (start_no_end name (text ++ next) tagged.has_name)) at

-- an end tag stands where it closes an element, and not where the element has none
not_both : (name white more others : List ℕ) → end_tag name ++ white ++ more ≡ others → starts_with nat_eq others (end_tag name) ≡ false → ⊥
not_both name white more others same none =
    both_ways (starts_with nat_eq others (end_tag name)) none
    ((starts_is Decides-eqb others (end_tag name) (starts_with nat_eq others (end_tag name)) refl).1 (white ++ more) (sym same ∙ append_assoc (end_tag name) white more))

same_closing : (name closing more other_closing others : List ℕ) → Closes name closing more → Closes name other_closing others →
    is_at_tag more ≡ true → is_at_tag others ≡ true → closing ++ more ≡ other_closing ++ others → more ≡ others
same_closing name closing more other_closing others (inl one) (inl another) at other_at same =
    let whole : end_tag name ++ (one.0 ++ more) ≡ end_tag name ++ (another.0 ++ others) =
    sym (append_assoc (end_tag name) one.0 more) ∙ rw (one.2, another.2) at same ∙ append_assoc (end_tag name) another.0 others in
    (same_run is_open one.0 another.0 more others (white_avoids one.0 one.1) (white_avoids another.0 another.1) at other_at
    (append_cancel_left (end_tag name) (one.0 ++ more) (another.0 ++ others) whole)).1
same_closing name closing more other_closing others (inl one) (inr another) at other_at same =
    absurd (not_both name one.0 more others (rw (one.2, another.0) at same) another.1)
same_closing name closing more other_closing others (inr one) (inl another) at other_at same =
    absurd (not_both name another.0 others more (sym (rw (one.0, another.2) at same)) one.1)
same_closing name closing more other_closing others (inr one) (inr another) at other_at same = rw (one.0, another.0) at same

-- What is spelled up to the end of an aggregate, or of the body, is told by the bytes.
pub same_tree : (a b : Tree) (size room other_room : ℕ) (bytes other_bytes rest others : List ℕ) →
    Spells size room bytes a rest → Spells size other_room other_bytes b others → bytes ≡ other_bytes →
    is_at_end rest ≡ true → is_at_end others ≡ true → (a ≡ b) × (rest ≡ others)
same_tree nothing nothing size room other_room bytes other_bytes rest others one another same at other_at =
    (refl, sym one ∙ same ∙ another)
same_tree nothing (element offset name text suffix) size room other_room bytes other_bytes rest others one another same at other_at =
    absurd (tagged_no_end size offset other_bytes name text (another.0 ++ another.1) rest
    (tagged_element size other_room other_bytes offset name text suffix others another other_at) (sym one ∙ same) at)
same_tree nothing (aggregate offset name text inner suffix) size room other_room bytes other_bytes rest others one another same at other_at =
    absurd (tagged_no_end size offset other_bytes name text another.0 rest
    (tagged_aggregate size other_room other_bytes offset name text inner suffix others another) (sym one ∙ same) at)
same_tree (element offset name text suffix) nothing size room other_room bytes other_bytes rest others one another same at other_at =
    absurd (tagged_no_end size offset bytes name text (one.0 ++ one.1) others
    (tagged_element size room bytes offset name text suffix rest one at) (sym (same ∙ another)) other_at)
same_tree (aggregate offset name text inner suffix) nothing size room other_room bytes other_bytes rest others one another same at other_at =
    absurd (tagged_no_end size offset bytes name text one.0 others
    (tagged_aggregate size room bytes offset name text inner suffix rest one) (sym (same ∙ another)) other_at)
same_tree (element offset name text suffix) (aggregate other_offset other_name other_text other_inner other_after) size room other_room bytes other_bytes rest others one another same at other_at =
    let are = same_tagged size offset other_offset bytes other_bytes name other_name text other_text (one.0 ++ one.1) another.0
    (tagged_element size room bytes offset name text suffix rest one at)
    (tagged_aggregate size other_room other_bytes other_offset other_name other_text other_inner other_after others another) same in
    absurd (both_ways (is_element name text) (rw (are.names, are.texts) (another.3).is_one) (one.2).is_one)
same_tree (aggregate offset name text inner suffix) (element other_offset other_name other_text other_after) size room other_room bytes other_bytes rest others one another same at other_at =
    let are = same_tagged size offset other_offset bytes other_bytes name other_name text other_text one.0 (another.0 ++ another.1)
    (tagged_aggregate size room bytes offset name text inner suffix rest one)
    (tagged_element size other_room other_bytes other_offset other_name other_text other_after others another other_at) same in
    absurd (both_ways (is_element name text) (one.3).is_one (rw (are.names, are.texts) (another.2).is_one))
same_tree (element offset name text suffix) (element other_offset other_name other_text other_after) size room other_room bytes other_bytes rest others one another same at other_at =
    let (closing, more, is_one, located, split, further) = one in
    let (other_closing, other_more, is_another, other_located, other_split, other_further) = another in
    let are = same_tagged size offset other_offset bytes other_bytes name other_name text other_text (closing ++ more) (other_closing ++ other_more)
    (tagged_element size room bytes offset name text suffix rest one at)
    (tagged_element size other_room other_bytes other_offset other_name other_text other_after others another other_at) same in
    let more_is = same_closing name closing more other_closing other_more is_one.closes (subst (λ n. Closes n other_closing other_more) (sym are.names) is_another.closes)
    (spelled_at_tag size room more suffix rest further (end_at_tag rest at))
    (spelled_at_tag size other_room other_more other_after others other_further (end_at_tag others other_at)) are.nexts in
    let again = same_tree suffix other_after size room other_room more other_more rest others further other_further more_is at other_at in
    (cc (are.offsets, are.names, are.texts, again.0), again.1)
same_tree (aggregate offset name text inner suffix) (aggregate other_offset other_name other_text other_inner other_after) size room other_room bytes other_bytes rest others one another same at other_at =
    let (within, white, more, is_one, has_room, located, split, inside, further) = one in
    let (other_within, other_white, other_more, is_another, other_has_room, other_located, other_split, other_inside, other_further) = another in
    let are = same_tagged size offset other_offset bytes other_bytes name other_name text other_text within other_within
    (tagged_aggregate size room bytes offset name text inner suffix rest one)
    (tagged_aggregate size other_room other_bytes other_offset other_name other_text other_inner other_after others another) same in
    let inner_is = same_tree inner other_inner size (room - 1) (other_room - 1) within other_within
    (end_tag name ++ (white ++ more)) (end_tag other_name ++ (other_white ++ other_more)) inside other_inside are.nexts refl refl in
    let whites = append_cancel_left (end_tag name) (white ++ more) (other_white ++ other_more) (rw (← are.names) at inner_is.1) in
    let parts = same_run is_open white other_white more other_more (white_avoids white is_one.is_white_after) (white_avoids other_white is_another.is_white_after)
    (spelled_at_tag size room more suffix rest further (end_at_tag rest at))
    (spelled_at_tag size other_room other_more other_after others other_further (end_at_tag others other_at)) whites in
    let again = same_tree suffix other_after size room other_room more other_more rest others further other_further parts.1 at other_at in
    (cc (are.offsets, are.names, are.texts, inner_is.0, again.0), again.1)

-- A body spells one tree.
pub one_tree : (body : List ℕ) (a b : Tree) → SpellsBody body a → SpellsBody body b → a ≡ b
one_tree body a b one another =
    let size = length body in
    let parts = same_run is_open one.white another.white one.rest another.rest (white_avoids one.white one.is_white) (white_avoids another.white another.is_white)
    (spelled_at_tag size 16 one.rest a [] one.spells refl) (spelled_at_tag size 16 another.rest b [] another.spells refl) (sym one.spelled ∙ another.spelled) in
    (same_tree a b size 16 16 one.rest another.rest [] [] one.spells another.spells parts.1 refl refl).0

-- No body has two lists of nodes.
pub tags_are_unambiguous : TagsAreUnambiguous
tags_are_unambiguous body a b one another = one.are ∙ ap (nodes_from 0) (one_tree body one.tree another.tree one.spelled another.spelled) ∙ sym another.are
