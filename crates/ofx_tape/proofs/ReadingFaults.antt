-- Where a reading stops, the leftmost fault of its body is.
use Rattle.std.proofs.Common.{◌≡◌, ℕ, ◌+◌, ◌-◌, ◌<◌, ◌≤◌, Bool, true, false, not, ◌==◌, List, [], ◌∷◌, ◌++◌, length, position, Option, None, Some, refl, sym, ap, ◌∙◌, append_assoc, arith}
use Rattle.std.proofs.lemmas.List.{length-append}
use Rattle.std.specs.Str.{bytes_eq}
use Rattle.std.specs.List.{list_any}
use Rattle.ofx_types.specs.TextRules.{is_white, is_refused_in_text}
use Rattle.ofx_types.specs.Sheet.{tag}
use Rattle.ofx_types.specs.TagNames.{is_name, is_element}
use Rattle.ofx_types.specs.TagForm.{end_tag}
use Rattle.ofx_types.specs.TagFault.{start_piece, end_piece, no_tag, at_offset, is_open, text_pieces, pieces_after, pieces_of, Around, around_body, next_text, is_refused_after, is_name_of, first_fault, tag_fault}
use Rattle.ofx_types.specs.declared.fault.TapeFault.TheVariants.{Tag, Mismatch, Depth, Cut}
use Rattle.ofx_tape.proofs.Pieces.{is_at_tag, whole_start, whole_end, after_text, next_text_is}
use Rattle.ofx_tape.proofs.Steps.{is_wrong_first, at_refused, start_after_end, start_of_another, start_of_element, start_too_deep, start_of_aggregate, end_of_element, end_of_aggregate, end_of_another, end_after_end, end_before_start, at_no_tag, at_cut_tag, cut_body}
use Rattle.ofx_types.specs.Nodes.{TagNode}
use Rattle.ofx_tape.proofs.Reading.{IsReading}

-- a start tag is the next piece, at its offset
start_at_offset : (size offset : ℕ) (around : Around) (rest name more : List ℕ) → offset + length rest ≡ size → rest ≡ tag name ++ more → is_name name ≡ true →
    first_fault size around (pieces_after size rest)
    ≡ first_fault size around (at_offset offset (start_piece name) ∷ (text_pieces size more ++ pieces_after size more))
start_at_offset size offset around rest name more located is named =
    let here : size - length rest ≡ offset = omega arith in
    let split : rest ≡ 60 ∷ (name ++ 62 ∷ more) = is ∙ ap (λ bytes. 60 ∷ bytes) (append_assoc name (62 ∷ []) more) in
    ap (λ bytes. first_fault size around (pieces_after size bytes)) split
    ∙ ap (first_fault size around) (whole_start size name more named)
    ∙ ap (λ p. first_fault size around (at_offset p (start_piece name) ∷ (text_pieces size more ++ pieces_after size more)))
    (ap (λ bytes. size - length bytes) (sym split) ∙ here)

end_at_offset : (size offset : ℕ) (around : Around) (rest name more : List ℕ) → offset + length rest ≡ size → rest ≡ end_tag name ++ more → is_name name ≡ true →
    first_fault size around (pieces_after size rest)
    ≡ first_fault size around (at_offset offset (end_piece name) ∷ (text_pieces size more ++ pieces_after size more))
end_at_offset size offset around rest name more located is named =
    let here : size - length rest ≡ offset = omega arith in
    let split : rest ≡ 60 ∷ 47 ∷ (name ++ 62 ∷ more) = is ∙ ap (λ bytes. 60 ∷ 47 ∷ bytes) (append_assoc name (62 ∷ []) more) in
    ap (λ bytes. first_fault size around (pieces_after size bytes)) split
    ∙ ap (first_fault size around) (whole_end size name more named)
    ∙ ap (λ p. first_fault size around (at_offset p (end_piece name) ∷ (text_pieces size more ++ pieces_after size more)))
    (ap (λ bytes. size - length bytes) (sym split) ∙ here)

-- ---- start tags

pub fault_start_after_end : (body : List ℕ) (unknown : ℕ) (nodes : List TagNode) (names : List (List ℕ)) (indices : List ℕ) (before : Option (List ℕ)) (rest : List ℕ)
    (offset : ℕ) (name more : List ℕ) → IsReading body unknown nodes names indices true before rest → offset + length rest ≡ length body →
    rest ≡ tag name ++ more → is_name name ≡ true → tag_fault body ≡ Some (Tag offset)
fault_start_after_end body unknown nodes names indices before rest offset name more reading located is named =
    let size = length body in
    let around : Around = record { open_names = names; has_ended = true; element = before } in
    sym reading.same_fault ∙ start_at_offset size offset around rest name more located is named
    ∙ start_after_end size offset around name (text_pieces size more ++ pieces_after size more) refl

pub fault_start_of_another : (body : List ℕ) (unknown : ℕ) (nodes : List TagNode) (names : List (List ℕ)) (indices : List ℕ) (before : Option (List ℕ)) (rest : List ℕ)
    (offset : ℕ) (name more : List ℕ) → IsReading body unknown nodes names indices false before rest → offset + length rest ≡ length body →
    rest ≡ tag name ++ more → is_name name ≡ true → is_wrong_first names name ≡ true → tag_fault body ≡ Some (Tag offset)
fault_start_of_another body unknown nodes names indices before rest offset name more reading located is named wrong =
    let size = length body in
    let around : Around = record { open_names = names; has_ended = false; element = before } in
    sym reading.same_fault ∙ start_at_offset size offset around rest name more located is named
    ∙ start_of_another size offset around name (text_pieces size more ++ pieces_after size more) refl wrong

-- the text after a tag is the next piece
next_is : (size : ℕ) (text next : List ℕ) → list_any is_open text ≡ false → is_at_tag next ≡ true →
    next_text (text_pieces size (text ++ next) ++ pieces_after size (text ++ next)) ≡ text
next_is size text next avoids at = rw (after_text size text next avoids) (next_text_is size text next avoids at)

pub fault_too_deep : (body : List ℕ) (unknown : ℕ) (nodes : List TagNode) (names : List (List ℕ)) (indices : List ℕ) (before : Option (List ℕ)) (rest : List ℕ)
    (offset : ℕ) (name text next : List ℕ) → IsReading body unknown nodes names indices false before rest → offset + length rest ≡ length body →
    rest ≡ tag name ++ (text ++ next) → is_name name ≡ true → list_any is_open text ≡ false → is_at_tag next ≡ true → is_element name text ≡ false →
    16 ≤ length names → tag_fault body ≡ Some (Depth offset)
fault_too_deep body unknown nodes names indices before rest offset name text next reading located is named avoids at is_none full =
    let size = length body in
    let around : Around = record { open_names = names; has_ended = false; element = before } in
    sym reading.same_fault ∙ start_at_offset size offset around rest name (text ++ next) located is named
    ∙ start_too_deep size offset around name (text_pieces size (text ++ next) ++ pieces_after size (text ++ next)) refl (rw (next_is size text next avoids at) is_none) full

text_offset : (size offset : ℕ) (rest prefix text : List ℕ) → offset + length rest ≡ size → rest ≡ prefix ++ text → size - length text ≡ offset + length prefix
text_offset size offset rest prefix text located is = omega (arith, ap length is, length-append prefix text)

-- the first byte that is refused after a tag
refused_after : (size offset : ℕ) (around : Around) (rest prefix text next : List ℕ) (i : ℕ) → offset + length rest ≡ size → rest ≡ prefix ++ (text ++ next) →
    list_any is_open text ≡ false → is_at_tag next ≡ true → position (is_refused_after around.element) text ≡ Some i →
    first_fault size around (text_pieces size (text ++ next) ++ pieces_after size (text ++ next)) ≡ Some (Tag (offset + length prefix + i))
refused_after size offset around rest prefix text next i located is avoids at refused =
    at_refused size around text next (pieces_after size (text ++ next)) i avoids at refused
    ∙ ap (λ p. Some (Tag (p + i))) (text_offset size offset rest prefix (text ++ next) located is)

-- A control byte in an element's value.
pub fault_in_value : (body : List ℕ) (unknown : ℕ) (nodes : List TagNode) (names : List (List ℕ)) (indices : List ℕ) (before : Option (List ℕ)) (rest : List ℕ)
    (offset : ℕ) (name text next : List ℕ) (i : ℕ) → IsReading body unknown nodes names indices false before rest → offset + length rest ≡ length body →
    rest ≡ tag name ++ (text ++ next) → is_name name ≡ true → list_any is_open text ≡ false → is_at_tag next ≡ true → is_element name text ≡ true →
    is_wrong_first names name ≡ false → position is_refused_in_text text ≡ Some i → tag_fault body ≡ Some (Tag (offset + length (tag name) + i))
fault_in_value body unknown nodes names indices before rest offset name text next i reading located is named avoids at is_one right refused =
    let size = length body in
    let around : Around = record { open_names = names; has_ended = false; element = before } in
    let later : Around = record { open_names = names; has_ended = false; element = Some name } in
    sym reading.same_fault ∙ start_at_offset size offset around rest name (text ++ next) located is named
    ∙ start_of_element size offset around name (text_pieces size (text ++ next) ++ pieces_after size (text ++ next)) refl right (rw (next_is size text next avoids at) is_one)
    ∙ refused_after size offset later rest (tag name) text next i located is avoids at refused

-- Text after the start tag of an aggregate.
pub fault_in_aggregate : (body : List ℕ) (unknown : ℕ) (nodes : List TagNode) (names : List (List ℕ)) (indices : List ℕ) (before : Option (List ℕ)) (rest : List ℕ)
    (offset : ℕ) (name text next : List ℕ) (i : ℕ) → IsReading body unknown nodes names indices false before rest → offset + length rest ≡ length body →
    rest ≡ tag name ++ (text ++ next) → is_name name ≡ true → list_any is_open text ≡ false → is_at_tag next ≡ true → is_element name text ≡ false →
    is_wrong_first names name ≡ false → length names < 16 → position (λ b. not (is_white b)) text ≡ Some i →
    tag_fault body ≡ Some (Tag (offset + length (tag name) + i))
fault_in_aggregate body unknown nodes names indices before rest offset name text next i reading located is named avoids at is_none right room refused =
    let size = length body in
    let around : Around = record { open_names = names; has_ended = false; element = before } in
    let later : Around = record { open_names = name ∷ names; has_ended = false; element = None } in
    sym reading.same_fault ∙ start_at_offset size offset around rest name (text ++ next) located is named
    ∙ start_of_aggregate size offset around name (text_pieces size (text ++ next) ++ pieces_after size (text ++ next)) refl right (rw (next_is size text next avoids at) is_none) room
    ∙ refused_after size offset later rest (tag name) text next i located is avoids at refused

-- ---- end tags

pub fault_mismatch : (body : List ℕ) (unknown : ℕ) (nodes : List TagNode) (innermost : List ℕ) (outer : List (List ℕ)) (indices : List ℕ) (ended : Bool) (before : Option (List ℕ)) (rest : List ℕ)
    (offset : ℕ) (name more : List ℕ) → IsReading body unknown nodes (innermost ∷ outer) indices ended before rest → offset + length rest ≡ length body →
    rest ≡ end_tag name ++ more → is_name name ≡ true → is_name_of name before ≡ false → bytes_eq innermost name ≡ false → tag_fault body ≡ Some (Mismatch offset)
fault_mismatch body unknown nodes innermost outer indices ended before rest offset name more reading located is named other differs =
    let size = length body in
    let around : Around = record { open_names = innermost ∷ outer; has_ended = ended; element = before } in
    sym reading.same_fault ∙ end_at_offset size offset around rest name more located is named
    ∙ end_of_another size offset around name innermost outer (text_pieces size more ++ pieces_after size more) other refl differs

pub fault_end_after_end : (body : List ℕ) (unknown : ℕ) (nodes : List TagNode) (indices : List ℕ) (before : Option (List ℕ)) (rest : List ℕ)
    (offset : ℕ) (name more : List ℕ) → IsReading body unknown nodes [] indices true before rest → offset + length rest ≡ length body →
    rest ≡ end_tag name ++ more → is_name name ≡ true → is_name_of name before ≡ false → tag_fault body ≡ Some (Mismatch offset)
fault_end_after_end body unknown nodes indices before rest offset name more reading located is named other =
    let size = length body in
    let around : Around = record { open_names = []; has_ended = true; element = before } in
    sym reading.same_fault ∙ end_at_offset size offset around rest name more located is named
    ∙ end_after_end size offset around name (text_pieces size more ++ pieces_after size more) other refl refl

pub fault_end_before_start : (body : List ℕ) (unknown : ℕ) (nodes : List TagNode) (indices : List ℕ) (before : Option (List ℕ)) (rest : List ℕ)
    (offset : ℕ) (name more : List ℕ) → IsReading body unknown nodes [] indices false before rest → offset + length rest ≡ length body →
    rest ≡ end_tag name ++ more → is_name name ≡ true → is_name_of name before ≡ false → tag_fault body ≡ Some (Tag offset)
fault_end_before_start body unknown nodes indices before rest offset name more reading located is named other =
    let size = length body in
    let around : Around = record { open_names = []; has_ended = false; element = before } in
    sym reading.same_fault ∙ end_at_offset size offset around rest name more located is named
    ∙ end_before_start size offset around name (text_pieces size more ++ pieces_after size more) other refl refl

-- Text after the end tag of an element.
pub fault_after_element : (body : List ℕ) (unknown : ℕ) (nodes : List TagNode) (names : List (List ℕ)) (indices : List ℕ) (ended : Bool) (rest : List ℕ)
    (offset : ℕ) (name text next : List ℕ) (i : ℕ) → IsReading body unknown nodes names indices ended (Some name) rest → offset + length rest ≡ length body →
    rest ≡ end_tag name ++ (text ++ next) → is_name name ≡ true → list_any is_open text ≡ false → is_at_tag next ≡ true →
    position (λ b. not (is_white b)) text ≡ Some i → tag_fault body ≡ Some (Tag (offset + length (end_tag name) + i))
fault_after_element body unknown nodes names indices ended rest offset name text next i reading located is named avoids at refused =
    let size = length body in
    let around : Around = record { open_names = names; has_ended = ended; element = Some name } in
    let later : Around = record { open_names = names; has_ended = ended; element = None } in
    sym reading.same_fault ∙ end_at_offset size offset around rest name (text ++ next) located is named
    ∙ end_of_element size offset around name (text_pieces size (text ++ next) ++ pieces_after size (text ++ next)) refl
    ∙ refused_after size offset later rest (end_tag name) text next i located is avoids at refused

-- Text after the end tag of an aggregate.
pub fault_after_aggregate : (body : List ℕ) (unknown : ℕ) (nodes : List TagNode) (name : List ℕ) (outer : List (List ℕ)) (indices : List ℕ) (ended : Bool) (before : Option (List ℕ)) (rest : List ℕ)
    (offset : ℕ) (text next : List ℕ) (i : ℕ) → IsReading body unknown nodes (name ∷ outer) indices ended before rest → offset + length rest ≡ length body →
    rest ≡ end_tag name ++ (text ++ next) → is_name name ≡ true → is_name_of name before ≡ false → list_any is_open text ≡ false → is_at_tag next ≡ true →
    position (λ b. not (is_white b)) text ≡ Some i → tag_fault body ≡ Some (Tag (offset + length (end_tag name) + i))
fault_after_aggregate body unknown nodes name outer indices ended before rest offset text next i reading located is named other avoids at refused =
    let size = length body in
    let around : Around = record { open_names = name ∷ outer; has_ended = ended; element = before } in
    let later : Around = record { open_names = outer; has_ended = length outer == 0; element = None } in
    sym reading.same_fault ∙ end_at_offset size offset around rest name (text ++ next) located is named
    ∙ end_of_aggregate size offset around name outer (text_pieces size (text ++ next) ++ pieces_after size (text ++ next)) other refl
    ∙ refused_after size offset later rest (end_tag name) text next i located is avoids at refused

-- ---- what is no tag, the prefix of the body, and its end

pub fault_no_tag : (body : List ℕ) (unknown : ℕ) (nodes : List TagNode) (names : List (List ℕ)) (indices : List ℕ) (ended : Bool) (before : Option (List ℕ)) (rest : List ℕ)
    (offset : ℕ) → IsReading body unknown nodes names indices ended before rest → offset + length rest ≡ length body →
    pieces_after (length body) rest ≡ at_offset (length body - length rest) (no_tag false) ∷ [] → tag_fault body ≡ Some (Tag offset)
fault_no_tag body unknown nodes names indices ended before rest offset reading located is =
    let size = length body in
    let around : Around = record { open_names = names; has_ended = ended; element = before } in
    let here : size - length rest ≡ offset = omega arith in
    sym reading.same_fault ∙ ap (first_fault size around) is ∙ at_no_tag size (size - length rest) around [] ∙ ap (λ p. Some (Tag p)) here

pub fault_cut_tag : (body : List ℕ) (unknown : ℕ) (nodes : List TagNode) (names : List (List ℕ)) (indices : List ℕ) (ended : Bool) (before : Option (List ℕ)) (rest : List ℕ) →
    IsReading body unknown nodes names indices ended before rest →
    pieces_after (length body) rest ≡ at_offset (length body - length rest) (no_tag true) ∷ [] → tag_fault body ≡ Some (Cut (length body))
fault_cut_tag body unknown nodes names indices ended before rest reading is =
    let size = length body in
    let around : Around = record { open_names = names; has_ended = ended; element = before } in
    sym reading.same_fault ∙ ap (first_fault size around) is ∙ at_cut_tag size (size - length rest) around []

pub fault_cut_body : (body : List ℕ) (unknown : ℕ) (nodes : List TagNode) (names : List (List ℕ)) (indices : List ℕ) (before : Option (List ℕ)) →
    IsReading body unknown nodes names indices false before [] → tag_fault body ≡ Some (Cut (length body))
unfolding pieces_after
fault_cut_body body unknown nodes names indices before reading =
    sym reading.same_fault ∙ cut_body (length body) (record { open_names = names; has_ended = false; element = before }) refl

-- Text before the first tag.
pub fault_in_prefix : (body text next : List ℕ) (i : ℕ) → body ≡ text ++ next → list_any is_open text ≡ false → is_at_tag next ≡ true →
    position (λ b. not (is_white b)) text ≡ Some i → tag_fault body ≡ Some (Tag i)
fault_in_prefix body text next i is avoids at refused =
    let size = length body in
    let none : size - length (text ++ next) + i ≡ i = omega (arith, ap length is) in
    ap (λ b. first_fault size around_body (pieces_of size b)) is
    ∙ at_refused size around_body text next (pieces_after size (text ++ next)) i avoids at refused
    ∙ ap (λ p. Some (Tag p)) none
