-- A body whose tags have no fault is read to its end, and so has nodes.
use Rattle.std.proofs.Common.{◌≡◌, ℕ, zero, suc, ◌+◌, ◌-◌, ◌<◌, ◌≤◌, ◌⊎◌, inl, inr, Bool, true, false, ◌&&◌, ◌==◌, nat_le, nat_lt, List, [], ◌∷◌, ◌++◌, length, get_or, eqb-true, append-nil, append_assoc, Option, None, Some, refl, sym, ap, subst, ◌∙◌, arith}
use Rattle.std.proofs.lemmas.Bool.{both_ways, leb-true, leb-false, ltb-true, ltb-false}
use Rattle.std.proofs.lemmas.List.{length-append}
use Rattle.std.proofs.lemmas.Slice.Eq.{bytes_eq-Decides}
use Rattle.std.specs.Str.{bytes_eq}
use Rattle.std.specs.List.{list_all}
use Rattle.ofx_types.specs.Sheet.{tag}
use Rattle.ofx_types.specs.TextRules.{trim_start}
use Rattle.ofx_types.specs.TagNames.{is_name, is_name_byte, is_element}
use Rattle.ofx_types.specs.TagForm.{end_tag, is_value_byte}
use Rattle.ofx_types.specs.TagFault.{is_name_of, tag_fault}
use Rattle.ofx_types.specs.Nodes.{TagNode, AreNodesOf}
use Rattle.ofx_types.specs.declared.fault.TapeFault.{TapeFault}
use Rattle.ofx_tape.specs.OpenAggregates.{is_at_tag, prefix_of, after_prefix, IsReading}
use Rattle.ofx_tape.specs.TagScan.{IsNoName, BeginsNoTag}
use Rattle.ofx_tape.specs.TapeOutcome.{FaultlessTagsAreSpelled}
use Rattle.ofx_tape.proofs.Splitting.{split_whole, prefix_passes, no_name_at, name_at_is}
use Rattle.ofx_tape.proofs.TagEnds.{start_unfinished, start_broken, end_unfinished, end_broken, nothing_unfinished}
use Rattle.ofx_tape.proofs.TextEnds.{text_at, tag_at, text_then_tag, white_then_tag, trim_shorter, visible_at, value_then_tag, refused_at_value}
use Rattle.ofx_tape.proofs.Steps.{is_wrong_first}
use Rattle.ofx_tape.proofs.Reading.{reading_begins, reading_done, reading_opens, reading_element, reading_ends_element, reading_closes, same_depth}
use Rattle.ofx_tape.proofs.ReadingFaults.{fault_start_after_end, fault_start_of_another, fault_too_deep, fault_in_value, fault_in_aggregate, fault_mismatch, fault_end_after_end, fault_end_before_start, fault_after_element, fault_after_aggregate, fault_no_tag, fault_cut_tag, fault_cut_body, fault_in_prefix}
use Rattle.ofx_tape.proofs.ReaderLaws.{with_text, element_before, tag_shortens, end_tag_shortens}

-- ---- what follows a `<`

-- a name and a `>`
record HasName (bytes : List ℕ) : Type 0 where
  pub name : List ℕ
  pub suffix : List ℕ
  pub has_name : is_name name ≡ true
  pub split : bytes ≡ name ++ 62 ∷ suffix

-- the prefix of a name
record IsUnfinished (bytes : List ℕ) : Type 0 where
  pub of_name : list_all is_name_byte bytes ≡ true
  pub is_short : length bytes ≤ 32

name_prefix : (bytes : List ℕ) → HasName bytes ⊎ (IsUnfinished bytes ⊎ IsNoName bytes)
name_prefix bytes = go (after_prefix is_name_byte bytes) refl
  where
    name : List ℕ
    name = prefix_of is_name_byte bytes

    whole : after_prefix is_name_byte bytes ≡ [] → list_all is_name_byte bytes ≡ true
    whole is =
        let all : bytes ≡ name = split_whole is_name_byte bytes name (after_prefix is_name_byte bytes) refl refl ∙ ap (λ l. name ++ l) is ∙ append-nil name in
        prefix_passes is_name_byte bytes bytes all

    unended : (short : Bool) → nat_le (length bytes) 32 ≡ short → list_all is_name_byte bytes ≡ true → HasName bytes ⊎ (IsUnfinished bytes ⊎ IsNoName bytes)
    unended true e all = inr (inl (record { of_name = all; is_short = leb-true (length bytes) 32 e }))
    unended false e all = inr (inr (record { name = bytes; of_name = all; ends = inl (refl, leb-false (length bytes) 32 e) }))

    ended : (more : List ℕ) (fits : Bool) → (nat_le 1 (length name) && nat_le (length name) 32) ≡ fits → after_prefix is_name_byte bytes ≡ 62 ∷ more →
        HasName bytes ⊎ (IsUnfinished bytes ⊎ IsNoName bytes)
    ended more true e is =
        let (named, split) = name_at_is bytes name (after_prefix is_name_byte bytes) more refl refl is e in
        inl (record { name = name; suffix = more; has_name = named; split = split })
    ended more false e is = inr (inr (no_name_at bytes name (after_prefix is_name_byte bytes) 62 more refl refl is (rw e refl)))

    first : (b : ℕ) (more : List ℕ) (closes : Bool) → (b == 62) ≡ closes → after_prefix is_name_byte bytes ≡ b ∷ more → HasName bytes ⊎ (IsUnfinished bytes ⊎ IsNoName bytes)
    first b more true e is = ended more (nat_le 1 (length name) && nat_le (length name) 32) refl (is ∙ ap (λ c. c ∷ more) (eqb-true b 62 e))
    first b more false e is = inr (inr (no_name_at bytes name (after_prefix is_name_byte bytes) b more refl refl is (rw e refl)))

    go : (rest : List ℕ) → after_prefix is_name_byte bytes ≡ rest → HasName bytes ⊎ (IsUnfinished bytes ⊎ IsNoName bytes)
    go [] is = unended (nat_le (length bytes) 32) refl (whole is)
    go (b ∷ more) is = first b more (b == 62) refl is

-- the rest begins with a tag
record HasTag (spelled : List ℕ → List ℕ) (rest : List ℕ) : Type 0 where
  pub name : List ℕ
  pub suffix : List ℕ
  pub has_name : is_name name ≡ true
  pub split : rest ≡ spelled name ++ suffix

record HasNone (rest : List ℕ) : Type 0 where
  pub is_unfinished : Bool
  pub begins : BeginsNoTag is_unfinished rest

-- A `<` begins a start tag, an end tag, or none.
tag_prefix : (bytes : List ℕ) → HasTag tag (60 ∷ bytes) ⊎ (HasTag end_tag (60 ∷ bytes) ⊎ HasNone (60 ∷ bytes))
tag_prefix [] = inr (inr (record { is_unfinished = true; begins = nothing_unfinished [] (omega arith) }))
tag_prefix (b ∷ inside) = go (b == 47) refl
  where
    ends : HasName inside ⊎ (IsUnfinished inside ⊎ IsNoName inside) → HasTag end_tag (60 ∷ 47 ∷ inside) ⊎ HasNone (60 ∷ 47 ∷ inside)
    ends (inl n) = inl (record {
      name = n.name;
      suffix = n.suffix;
      has_name = n.has_name;
      split = ap (λ l. 60 ∷ 47 ∷ l) (n.split ∙ sym (append_assoc n.name (62 ∷ []) n.suffix));
    })
    ends (inr (inl u)) = inr (record { is_unfinished = true; begins = end_unfinished inside (u.of_name, u.is_short) })
    ends (inr (inr none)) = inr (record { is_unfinished = false; begins = end_broken inside none })

    starts : (get_or (b ∷ inside) 0 0 ≡ 47 → ⊥) → HasName (b ∷ inside) ⊎ (IsUnfinished (b ∷ inside) ⊎ IsNoName (b ∷ inside)) →
        HasTag tag (60 ∷ b ∷ inside) ⊎ (HasTag end_tag (60 ∷ b ∷ inside) ⊎ HasNone (60 ∷ b ∷ inside))
    starts other (inl n) = inl (record {
      name = n.name;
      suffix = n.suffix;
      has_name = n.has_name;
      split = ap (λ l. 60 ∷ l) (n.split ∙ sym (append_assoc n.name (62 ∷ []) n.suffix));
    })
    starts other (inr (inl u)) = inr (inr (record { is_unfinished = true; begins = start_unfinished (b ∷ inside) (u.of_name, u.is_short) }))
    starts other (inr (inr none)) = inr (inr (record { is_unfinished = false; begins = start_broken (b ∷ inside) other none }))

    go : (slash : Bool) → (b == 47) ≡ slash → HasTag tag (60 ∷ b ∷ inside) ⊎ (HasTag end_tag (60 ∷ b ∷ inside) ⊎ HasNone (60 ∷ b ∷ inside))
    go true e =
        let is : 47 ≡ b = sym (eqb-true b 47 e) in
        inr (subst (λ c. HasTag end_tag (60 ∷ c ∷ inside) ⊎ HasNone (60 ∷ c ∷ inside)) is (ends (name_prefix inside)))
    go false e = starts (λ is. both_ways (b == 47) e (rw is refl)) (name_prefix (b ∷ inside))

-- ---- what is read up to the rest, and how it goes on

record Reads (body rest : List ℕ) : Type 0 where
  pub nodes : List TagNode
  pub names : List (List ℕ)
  pub indices : List ℕ
  pub ended : Bool
  pub before : Option (List ℕ)
  pub reading : IsReading body 0 nodes names indices ended before rest
  pub at : is_at_tag rest ≡ true
  pub is_within : length rest ≤ length body

record GoesOn (body rest : List ℕ) : Type 0 where
  pub next : List ℕ
  pub reads : Reads body next
  pub is_shorter : length next < length rest

goes_on : (body rest next : List ℕ) (nodes : List TagNode) (names : List (List ℕ)) (indices : List ℕ) (ended : Bool) (before : Option (List ℕ)) →
    IsReading body 0 nodes names indices ended before next → is_at_tag next ≡ true → length rest ≤ length body → length next < length rest → GoesOn body rest
goes_on body rest next nodes names indices ended before reading at within shorter = record {
  next = next;
  reads = record {
    nodes = nodes;
    names = names;
    indices = indices;
    ended = ended;
    before = before;
    reading = reading;
    at = at;
    is_within = omega (arith, within, shorter);
  };
  is_shorter = shorter;
}

never : {A : Type 0} (body : List ℕ) (fault : TapeFault) → tag_fault body ≡ None → tag_fault body ≡ Some fault → A
never body fault none refused = absurd (let e : None ≡ Some fault = sym none ∙ refused in cc)

-- ---- start tags

goes_on_element : (body rest name suffix : List ℕ) (nodes : List TagNode) (names : List (List ℕ)) (indices : List ℕ) (before : Option (List ℕ)) →
    tag_fault body ≡ None → IsReading body 0 nodes names indices false before rest → length rest ≤ length body → rest ≡ tag name ++ suffix → is_name name ≡ true →
    is_wrong_first names name ≡ false → is_element name (text_at suffix) ≡ true → GoesOn body rest
goes_on_element body rest name suffix nodes names indices before none reading within split named right is_one = go (is_at_tag (after_prefix is_value_byte suffix)) refl
  where
    offset : ℕ
    offset = length body - length rest

    value : List ℕ
    value = prefix_of is_value_byte suffix

    next : List ℕ
    next = after_prefix is_value_byte suffix

    located : offset + length rest ≡ length body
    located = omega (arith, within)

    whole : suffix ≡ value ++ next
    whole = split_whole is_value_byte suffix value next refl refl

    go : (at : Bool) → is_at_tag (after_prefix is_value_byte suffix) ≡ at → GoesOn body rest
    go true at =
        let read = reading_element body 0 nodes names indices before rest offset name value next reading located (split ∙ ap (λ l. tag name ++ l) whole) named
        (subst (λ t. is_element name t ≡ true) (value_then_tag suffix at) is_one) (prefix_passes is_value_byte suffix value refl) at right in
        goes_on body rest next _ _ _ _ _ read at within (tag_shortens name rest suffix next split (omega (arith, ap length whole, length-append value next)))
    go false at =
        let text = text_then_tag suffix in
        never body _ none (fault_in_value body 0 nodes names indices before rest offset name (text_at suffix) (tag_at suffix) (length value)
        reading located (with_text rest (tag name) suffix split) named text.avoids text.at is_one right (refused_at_value suffix at))

goes_on_aggregate : (body rest name suffix : List ℕ) (nodes : List TagNode) (names : List (List ℕ)) (indices : List ℕ) (before : Option (List ℕ)) →
    tag_fault body ≡ None → IsReading body 0 nodes names indices false before rest → length rest ≤ length body → rest ≡ tag name ++ suffix → is_name name ≡ true →
    is_wrong_first names name ≡ false → is_element name (text_at suffix) ≡ false → GoesOn body rest
goes_on_aggregate body rest name suffix nodes names indices before none reading within split named right is_none = deep (nat_lt (length names) 16) refl
  where
    offset : ℕ
    offset = length body - length rest

    next : List ℕ
    next = trim_start suffix

    located : offset + length rest ≡ length body
    located = omega (arith, within)

    go : (at : Bool) → is_at_tag (trim_start suffix) ≡ at → length names < 16 → GoesOn body rest
    go true at room =
        let w = white_then_tag suffix at in
        let read = reading_opens body 0 nodes names indices before rest offset name (text_at suffix) next reading located (split ∙ ap (λ l. tag name ++ l) w.split) named
        is_none w.white at right room in
        goes_on body rest next _ _ _ _ _ read at within (tag_shortens name rest suffix next split (trim_shorter suffix))
    go false at room =
        let text = text_then_tag suffix in
        let (i, found, count) = visible_at suffix at in
        never body _ none (fault_in_aggregate body 0 nodes names indices before rest offset name (text_at suffix) (tag_at suffix) i
        reading located (with_text rest (tag name) suffix split) named text.avoids text.at is_none right room found)

    deep : (room : Bool) → nat_lt (length names) 16 ≡ room → GoesOn body rest
    deep true e = go (is_at_tag (trim_start suffix)) refl (ltb-true (length names) 16 e)
    deep false e =
        let text = text_then_tag suffix in
        never body _ none (fault_too_deep body 0 nodes names indices before rest offset name (text_at suffix) (tag_at suffix)
        reading located (with_text rest (tag name) suffix split) named text.avoids text.at is_none (ltb-false (length names) 16 e))

goes_on_start : (body rest : List ℕ) (r : Reads body rest) → tag_fault body ≡ None → HasTag tag rest → GoesOn body rest
goes_on_start body rest r none t = go r.ended r.reading
  where
    offset : ℕ
    offset = length body - length rest

    located : offset + length rest ≡ length body
    located = omega (arith, r.is_within)

    kind : (is_one : Bool) → is_element t.name (text_at t.suffix) ≡ is_one → IsReading body 0 r.nodes r.names r.indices false r.before rest → is_wrong_first r.names t.name ≡ false → GoesOn body rest
    kind true e reading right = goes_on_element body rest t.name t.suffix r.nodes r.names r.indices r.before none reading r.is_within t.split t.has_name right e
    kind false e reading right = goes_on_aggregate body rest t.name t.suffix r.nodes r.names r.indices r.before none reading r.is_within t.split t.has_name right e

    first : (wrong : Bool) → is_wrong_first r.names t.name ≡ wrong → IsReading body 0 r.nodes r.names r.indices false r.before rest → GoesOn body rest
    first true e reading = never body _ none (fault_start_of_another body 0 r.nodes r.names r.indices r.before rest offset t.name t.suffix reading located t.split t.has_name e)
    first false e reading = kind (is_element t.name (text_at t.suffix)) refl reading e

    go : (ended : Bool) → IsReading body 0 r.nodes r.names r.indices ended r.before rest → GoesOn body rest
    go true reading = never body _ none (fault_start_after_end body 0 r.nodes r.names r.indices r.before rest offset t.name t.suffix reading located t.split t.has_name)
    go false reading = first (is_wrong_first r.names t.name) refl reading

-- ---- end tags

goes_on_element_end : (body rest name suffix : List ℕ) (nodes : List TagNode) (names : List (List ℕ)) (indices : List ℕ) (ended : Bool) →
    tag_fault body ≡ None → IsReading body 0 nodes names indices ended (Some name) rest → length rest ≤ length body → rest ≡ end_tag name ++ suffix → is_name name ≡ true →
    GoesOn body rest
goes_on_element_end body rest name suffix nodes names indices ended none reading within split named = go (is_at_tag (trim_start suffix)) refl
  where
    go : (at : Bool) → is_at_tag (trim_start suffix) ≡ at → GoesOn body rest
    go true at =
        let w = white_then_tag suffix at in
        let next = trim_start suffix in
        let read = reading_ends_element body 0 nodes names indices ended rest name (text_at suffix) next reading (split ∙ ap (λ l. end_tag name ++ l) w.split) named w.white at in
        goes_on body rest next _ _ _ _ _ read at within (end_tag_shortens name rest suffix next split (trim_shorter suffix))
    go false at =
        let text = text_then_tag suffix in
        let offset = length body - length rest in
        let (i, found, count) = visible_at suffix at in
        never body _ none (fault_after_element body 0 nodes names indices ended rest offset name (text_at suffix) (tag_at suffix) i
        reading (omega (arith, within)) (with_text rest (end_tag name) suffix split) named text.avoids text.at found)

goes_on_close : (body rest name suffix : List ℕ) (nodes : List TagNode) (outer : List (List ℕ)) (indices : List ℕ) (ended : Bool) (before : Option (List ℕ)) →
    tag_fault body ≡ None → IsReading body 0 nodes (name ∷ outer) indices ended before rest → length rest ≤ length body → rest ≡ end_tag name ++ suffix → is_name name ≡ true →
    is_name_of name before ≡ false → GoesOn body rest
goes_on_close body rest name suffix nodes outer indices ended before none reading within split named other =
    go (is_at_tag (trim_start suffix)) refl indices reading (same_depth body 0 nodes (name ∷ outer) indices ended before rest reading)
  where
    go : (at : Bool) → is_at_tag (trim_start suffix) ≡ at → (indices : List ℕ) → IsReading body 0 nodes (name ∷ outer) indices ended before rest →
        length indices ≡ length (name ∷ outer) → GoesOn body rest
    go true at [] reading depth = absurd (omega (arith, depth))
    go true at (i ∷ others) reading depth =
        let w = white_then_tag suffix at in
        let next = trim_start suffix in
        let d : TagNode = record { is_element = true; name = []; text = []; offset = 0; after = 0 } in
        let read = reading_closes body 0 nodes name outer i others ended before rest (text_at suffix) next d reading (split ∙ ap (λ l. end_tag name ++ l) w.split) named other w.white at in
        goes_on body rest next _ _ _ _ _ read at within (end_tag_shortens name rest suffix next split (trim_shorter suffix))
    go false at indices reading depth =
        let text = text_then_tag suffix in
        let offset = length body - length rest in
        let (i, found, count) = visible_at suffix at in
        never body _ none (fault_after_aggregate body 0 nodes name outer indices ended before rest offset (text_at suffix) (tag_at suffix) i
        reading (omega (arith, within)) (with_text rest (end_tag name) suffix split) named other text.avoids text.at found)

goes_on_end : (body rest : List ℕ) (r : Reads body rest) → tag_fault body ≡ None → HasTag end_tag rest → GoesOn body rest
goes_on_end body rest r none t = go (is_name_of t.name r.before) refl
  where
    offset : ℕ
    offset = length body - length rest

    located : offset + length rest ≡ length body
    located = omega (arith, r.is_within)

    no_open : (ended : Bool) → IsReading body 0 r.nodes [] r.indices ended r.before rest → is_name_of t.name r.before ≡ false → GoesOn body rest
    no_open true reading other = never body _ none (fault_end_after_end body 0 r.nodes r.indices r.before rest offset t.name t.suffix reading located t.split t.has_name other)
    no_open false reading other = never body _ none (fault_end_before_start body 0 r.nodes r.indices r.before rest offset t.name t.suffix reading located t.split t.has_name other)

    close : (innermost : List ℕ) (outer : List (List ℕ)) (same : Bool) → bytes_eq innermost t.name ≡ same →
        IsReading body 0 r.nodes (innermost ∷ outer) r.indices r.ended r.before rest → is_name_of t.name r.before ≡ false → GoesOn body rest
    close innermost outer true e reading other =
        let is : innermost ≡ t.name = (bytes_eq-Decides innermost t.name).0 e in
        goes_on_close body rest t.name t.suffix r.nodes outer r.indices r.ended r.before none
        (subst (λ n. IsReading body 0 r.nodes (n ∷ outer) r.indices r.ended r.before rest) is reading) r.is_within t.split t.has_name other
    close innermost outer false e reading other =
        never body _ none (fault_mismatch body 0 r.nodes innermost outer r.indices r.ended r.before rest offset t.name t.suffix reading located t.split t.has_name other e)

    open_names : (names : List (List ℕ)) → IsReading body 0 r.nodes names r.indices r.ended r.before rest → is_name_of t.name r.before ≡ false → GoesOn body rest
    open_names [] reading other = no_open r.ended reading other
    open_names (innermost ∷ outer) reading other = close innermost outer (bytes_eq innermost t.name) refl reading other

    go : (it : Bool) → is_name_of t.name r.before ≡ it → GoesOn body rest
    go true e =
        goes_on_element_end body rest t.name t.suffix r.nodes r.names r.indices r.ended none
        (subst (λ b. IsReading body 0 r.nodes r.names r.indices r.ended b rest) (element_before r.before t.name e) r.reading) r.is_within t.split t.has_name
    go false e = open_names r.names r.reading e

-- ---- from the first byte to the last

goes_on_tag : (body bytes : List ℕ) (r : Reads body (60 ∷ bytes)) → tag_fault body ≡ None →
    HasTag tag (60 ∷ bytes) ⊎ (HasTag end_tag (60 ∷ bytes) ⊎ HasNone (60 ∷ bytes)) → GoesOn body (60 ∷ bytes)
goes_on_tag body bytes r none (inl t) = goes_on_start body (60 ∷ bytes) r none t
goes_on_tag body bytes r none (inr (inl t)) = goes_on_end body (60 ∷ bytes) r none t
goes_on_tag body bytes r none (inr (inr n)) = go n.is_unfinished n.begins
  where
    rest : List ℕ
    rest = 60 ∷ bytes

    go : (unfinished : Bool) → BeginsNoTag unfinished (60 ∷ bytes) → GoesOn body (60 ∷ bytes)
    go true begins = never body _ none (fault_cut_tag body 0 r.nodes r.names r.indices r.ended r.before rest r.reading (begins (length body)))
    go false begins =
        let offset = length body - length rest in
        never body _ none (fault_no_tag body 0 r.nodes r.names r.indices r.ended r.before rest offset r.reading (omega (arith, r.is_within)) (begins (length body)))

at_end : (body : List ℕ) (r : Reads body []) → tag_fault body ≡ None → (nodes : List TagNode) × AreNodesOf body nodes
at_end body r none = go r.ended r.reading
  where
    go : (ended : Bool) → IsReading body 0 r.nodes r.names r.indices ended r.before [] → (nodes : List TagNode) × AreNodesOf body nodes
    go true reading = (r.nodes, reading_done body 0 r.nodes r.names r.indices r.before reading)
    go false reading = never body _ none (fault_cut_body body 0 r.nodes r.names r.indices r.before reading)

reads_to_end : (n : ℕ) (body rest : List ℕ) → Reads body rest → length rest ≤ n → tag_fault body ≡ None → (nodes : List TagNode) × AreNodesOf body nodes
reads_to_end n body [] r bound none = at_end body r none
reads_to_end zero body (b ∷ bytes) r bound none = absurd (omega (arith, bound))
reads_to_end (suc n) body (b ∷ bytes) r bound none =
    let is : b ≡ 60 = eqb-true b 60 r.at in
    let further = goes_on_tag body bytes (subst (λ c. Reads body (c ∷ bytes)) is r) none (tag_prefix bytes) in
    reads_to_end n body further.next further.reads (omega (arith, bound, further.is_shorter)) none

-- A body whose tags have no fault has nodes.
pub faultless_is_spelled : FaultlessTagsAreSpelled
faultless_is_spelled body none = go (is_at_tag (trim_start body)) refl
  where
    go : (at : Bool) → is_at_tag (trim_start body) ≡ at → (nodes : List TagNode) × AreNodesOf body nodes
    go true at =
        let start = trim_start body in
        let w = white_then_tag body at in
        let begins : Reads body start = record {
          nodes = [];
          names = [];
          indices = [];
          ended = false;
          before = None;
          reading = reading_begins body (text_at body) start 0 w.split w.white at;
          at = at;
          is_within = trim_shorter body;
        } in
        reads_to_end (length start) body start begins (omega arith) none
    go false at =
        let text = text_then_tag body in
        let (i, found, count) = visible_at body at in
        never body _ none (fault_in_prefix body (text_at body) (tag_at body) i text.split text.avoids text.at found)
