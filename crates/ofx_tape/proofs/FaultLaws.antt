-- Tags that are spelled have no fault.
use Rattle.std.proofs.Common.{◌≡◌, ℕ, Bool, ◌+◌, ◌-◌, ◌<◌, true, false, not, ◌==◌, nat_eq, List, [], ◌∷◌, ◌++◌, length, codes, Option, None, Some, inl, inr, refl, ap, ◌∙◌, append_assoc, ne_eqb, arith}
use Rattle.std.proofs.lemmas.Bool.{both_ways, false_from_ne_true}
use Rattle.std.proofs.lemmas.Slice.Eq.{bytes_eq-Decides, starts_is}
use Rattle.std.proofs.lemmas.Bool.Decides.{Decides-eqb}
use Rattle.std.specs.Str.{bytes_eq}
use Rattle.std.specs.List.{list_all, list_any, starts_with}
use Rattle.ofx_types.specs.TextRules.{is_white, is_refused_in_text}
use Rattle.ofx_types.specs.Sheet.{tag}
use Rattle.ofx_types.specs.TagNames.{is_name, is_element}
use Rattle.ofx_types.specs.TagForm.{end_tag, IsWhite, is_value_byte, Tree, nothing, element, aggregate, Closes, Spells}
use Rattle.ofx_types.specs.TagFault.{Located, start_piece, end_piece, at_offset, is_open, text_pieces, pieces_after, pieces_of, Around, around_body, next_text, is_name_of, first_fault}
use Rattle.ofx_tape.specs.TapeOutcome.{SpelledTagsHaveNoFault}
use Rattle.ofx_tape.proofs.Runs.{none_from_all, none_from_avoids}
use Rattle.ofx_tape.proofs.Pieces.{is_at_tag, whole_start, whole_end, after_text, next_text_is}
use Rattle.ofx_tape.proofs.Steps.{is_wrong_first, inside_ofx, begins_ofx, past_allowed, start_of_element, start_of_aggregate, end_of_element, end_of_aggregate, ended_body}
use Rattle.ofx_tape.proofs.Spelled.{white_avoids, value_avoids, value_allowed, spelled_at_tag, closing_at_tag}

-- the end tag of this element isn't what comes next
abbrev pub Awaits : Option (List ℕ) → List ℕ → Type 0
Awaits None bytes = Unit {0}
Awaits (Some name) bytes = starts_with nat_eq bytes (end_tag name) ≡ false

-- where nothing but white space may stand, white space is passed over
pub past_white : (size : ℕ) (around : Around) (white rest : List ℕ) (more : List Located) → around.element ≡ None → IsWhite white → is_at_tag rest ≡ true →
    first_fault size around (text_pieces size (white ++ rest) ++ more) ≡ first_fault size around more
past_white size around white rest more none blank at =
    past_allowed size around white rest more (white_avoids white blank) at
    (rw none (none_from_avoids (λ b. not (is_white b)) white (none_from_all is_white white blank)))

-- a start tag and the text after it
pub start_pieces : (size : ℕ) (name text rest : List ℕ) → is_name name ≡ true → list_any is_open text ≡ false →
    pieces_after size (tag name ++ (text ++ rest))
    ≡ at_offset (size - length (tag name ++ (text ++ rest))) (start_piece name) ∷ (text_pieces size (text ++ rest) ++ pieces_after size rest)
start_pieces size name text rest named avoids =
    rw (append_assoc name (62 ∷ []) (text ++ rest), ← after_text size text rest avoids) (whole_start size name (text ++ rest) named)

pub end_pieces : (size : ℕ) (name text rest : List ℕ) → is_name name ≡ true → list_any is_open text ≡ false →
    pieces_after size (end_tag name ++ (text ++ rest))
    ≡ at_offset (size - length (end_tag name ++ (text ++ rest))) (end_piece name) ∷ (text_pieces size (text ++ rest) ++ pieces_after size rest)
end_pieces size name text rest named avoids =
    rw (append_assoc name (62 ∷ []) (text ++ rest), ← after_text size text rest avoids) (whole_end size name (text ++ rest) named)

-- what is round a piece inside OFX
abbrev pub inside : List (List ℕ) → Option (List ℕ) → Around
inside names before = record { open_names = names; has_ended = false; element = before }

pub past_element : (size : ℕ) (names : List (List ℕ)) (before : Option (List ℕ)) (name text rest : List ℕ) →
    0 < length names → is_name name ≡ true → is_element name text ≡ true → list_all is_value_byte text ≡ true → is_at_tag rest ≡ true →
    first_fault size (inside names before) (pieces_after size (tag name ++ (text ++ rest))) ≡ first_fault size (inside names (Some name)) (pieces_after size rest)
past_element size names before name text rest some named is_one is_value at =
    let avoids = value_avoids text is_value in
    let more = text_pieces size (text ++ rest) ++ pieces_after size rest in
    let next : next_text more ≡ text = next_text_is size text rest avoids at in
    ap (λ p. first_fault size (inside names before) p) (start_pieces size name text rest named avoids)
    ∙ start_of_element size (size - length (tag name ++ (text ++ rest))) (inside names before) name more refl (inside_ofx names name some) (rw next is_one)
    ∙ past_allowed size (inside names (Some name)) text rest (pieces_after size rest) avoids at (none_from_avoids is_refused_in_text text (value_allowed text is_value))

pub past_aggregate : (size : ℕ) (names : List (List ℕ)) (before : Option (List ℕ)) (name text rest : List ℕ) →
    is_wrong_first names name ≡ false → length names < 16 → is_name name ≡ true → is_element name text ≡ false → IsWhite text → is_at_tag rest ≡ true →
    first_fault size (inside names before) (pieces_after size (tag name ++ (text ++ rest))) ≡ first_fault size (inside (name ∷ names) None) (pieces_after size rest)
past_aggregate size names before name text rest right room named is_none blank at =
    let avoids = white_avoids text blank in
    let more = text_pieces size (text ++ rest) ++ pieces_after size rest in
    let next : next_text more ≡ text = next_text_is size text rest avoids at in
    ap (λ p. first_fault size (inside names before) p) (start_pieces size name text rest named avoids)
    ∙ start_of_aggregate size (size - length (tag name ++ (text ++ rest))) (inside names before) name more refl right (rw next is_none) room
    ∙ past_white size (inside (name ∷ names) None) text rest (pieces_after size rest) refl blank at

pub past_element_end : (size : ℕ) (names : List (List ℕ)) (ended : Bool) (name white rest : List ℕ) → is_name name ≡ true → IsWhite white → is_at_tag rest ≡ true →
    first_fault size (record { open_names = names; has_ended = ended; element = Some name }) (pieces_after size (end_tag name ++ (white ++ rest)))
    ≡ first_fault size (record { open_names = names; has_ended = ended; element = None }) (pieces_after size rest)
past_element_end size names ended name white rest named blank at =
    let around : Around = record { open_names = names; has_ended = ended; element = Some name } in
    let later : Around = record { open_names = names; has_ended = ended; element = None } in
    ap (λ p. first_fault size around p) (end_pieces size name white rest named (white_avoids white blank))
    ∙ end_of_element size (size - length (end_tag name ++ (white ++ rest))) around name (text_pieces size (white ++ rest) ++ pieces_after size rest) refl
    ∙ past_white size later white rest (pieces_after size rest) refl blank at

-- an end tag that isn't the one of the element before has another name
pub not_its_name : (before : Option (List ℕ)) (name more : List ℕ) → Awaits before (end_tag name ++ more) → is_name_of name before ≡ false
not_its_name None name more awaits = refl
not_its_name (Some other) name more awaits = false_from_ne_true (bytes_eq other name) (λ same.
    let is : other ≡ name = (bytes_eq-Decides other name).0 same in
    let begins : starts_with nat_eq (end_tag name ++ more) (end_tag name) ≡ true =
    (starts_is Decides-eqb (end_tag name ++ more) (end_tag name) (starts_with nat_eq (end_tag name ++ more) (end_tag name)) refl).1 more refl in
    both_ways (starts_with nat_eq (end_tag name ++ more) (end_tag name)) (rw is at awaits) begins)

pub past_aggregate_end : (size : ℕ) (outer : List (List ℕ)) (before : Option (List ℕ)) (name white rest : List ℕ) → is_name name ≡ true → IsWhite white → is_at_tag rest ≡ true →
    Awaits before (end_tag name ++ (white ++ rest)) →
    first_fault size (inside (name ∷ outer) before) (pieces_after size (end_tag name ++ (white ++ rest)))
    ≡ first_fault size (record { open_names = outer; has_ended = length outer == 0; element = None }) (pieces_after size rest)
past_aggregate_end size outer before name white rest named blank at awaits =
    ap (λ p. first_fault size (inside (name ∷ outer) before) p) (end_pieces size name white rest named (white_avoids white blank))
    ∙ end_of_aggregate size (size - length (end_tag name ++ (white ++ rest))) (inside (name ∷ outer) before) name outer (text_pieces size (white ++ rest) ++ pieces_after size rest)
    (not_its_name before name (white ++ rest) awaits) refl
    ∙ past_white size (record { open_names = outer; has_ended = length outer == 0; element = None }) white rest (pieces_after size rest) refl blank at

-- Past bytes no fault is found; an element may stand just before the rest, whose end tag doesn't come then.
record Passed (size : ℕ) (names : List (List ℕ)) (before : Option (List ℕ)) (bytes rest : List ℕ) : Type 0 where
  last : Option (List ℕ)
  awaits : Awaits last rest
  same : first_fault size (inside names before) (pieces_after size bytes) ≡ first_fault size (inside names last) (pieces_after size rest)

passed_more : (size : ℕ) (names : List (List ℕ)) (before after : Option (List ℕ)) (bytes more rest : List ℕ) →
    first_fault size (inside names before) (pieces_after size bytes) ≡ first_fault size (inside names after) (pieces_after size more) →
    Passed size names after more rest → Passed size names before bytes rest
passed_more size names before after bytes more rest same further = record { last = further.last; awaits = further.awaits; same = same ∙ further.same }

-- past what closes an element
past_closing : (size : ℕ) (names : List (List ℕ)) (name closing more : List ℕ) → is_name name ≡ true → Closes name closing more → is_at_tag more ≡ true →
    Passed size names (Some name) (closing ++ more) more
past_closing size names name closing more named (inl ended) at = record {
  last = None;
  awaits = tt;
  same = rw (ended.2, append_assoc (end_tag name) ended.0 more) (past_element_end size names false name ended.0 more named ended.1 at);
}
past_closing size names name closing more named (inr open_end) at = record { last = Some name; awaits = open_end.1; same = rw (open_end.0) refl }

passed_tree : (tree : Tree) (size room : ℕ) (bytes rest : List ℕ) (names : List (List ℕ)) (before : Option (List ℕ)) →
    Spells size room bytes tree rest → is_at_tag rest ≡ true → 0 < length names → length names + room ≡ 16 → Awaits before bytes →
    Passed size names before bytes rest
passed_tree nothing size room bytes rest names before spells at some held awaits =
    rw spells (record { last = before; awaits = rw spells at awaits; same = refl })
passed_tree (element offset name text suffix) size room bytes rest names before spells at some held awaits =
    let (closing, more, is_one, located, split, further) = spells in
    let at_more = spelled_at_tag size room more suffix rest further at in
    let closed = past_closing size names name closing more is_one.has_name is_one.closes at_more in
    rw split (passed_more size names before closed.last (tag name ++ (text ++ (closing ++ more))) more rest
    (past_element size names before name text (closing ++ more) some is_one.has_name is_one.is_one is_one.is_value
    (closing_at_tag name closing more is_one.closes at_more) ∙ closed.same)
    (passed_tree suffix size room more rest names closed.last further at some held closed.awaits))
passed_tree (aggregate offset name text inner suffix) size room bytes rest names before spells at some held awaits =
    let (within, white, more, is_one, has_room, located, split, spelled, further) = spells in
    let at_more = spelled_at_tag size room more suffix rest further at in
    let closing = end_tag name ++ (white ++ more) in
    let at_within = spelled_at_tag size (room - 1) within inner closing spelled refl in
    let inner_passed = passed_tree inner size (room - 1) within closing (name ∷ names) None spelled refl (omega arith) (omega arith) tt in
    let still : (length names == 0) ≡ false = ne_eqb (length names) 0 (λ e. omega arith) in
    rw split (passed_more size names before None (tag name ++ (text ++ within)) more rest
    (past_aggregate size names before name text within (inside_ofx names name some) (omega arith) is_one.has_name is_one.is_one is_one.is_white at_within
    ∙ inner_passed.same
    ∙ past_aggregate_end size names inner_passed.last name white more is_one.has_name is_one.is_white_after at_more inner_passed.awaits
    ∙ ap (λ b. first_fault size (record { open_names = names; has_ended = b; element = None }) (pieces_after size more)) still)
    (passed_tree suffix size room more rest names None further at some held tt))

-- past OFX and the white space round it
passed_body : (size offset : ℕ) (text : List ℕ) (inner : Tree) (rest : List ℕ) → Spells size 16 rest (aggregate offset (codes "OFX") text inner nothing) [] →
    first_fault size (inside [] None) (pieces_after size rest) ≡ None
unfolding pieces_after
passed_body size offset text inner rest spells =
    let (within, white, more, is_one, has_room, located, split, spelled, nothing_more) = spells in
    let name = codes "OFX" in
    let closing = end_tag name ++ (white ++ more) in
    let at_more : is_at_tag more ≡ true = rw nothing_more refl in
    let at_within = spelled_at_tag size 15 within inner closing spelled refl in
    let inner_passed = passed_tree inner size 15 within closing (name ∷ []) None spelled refl (omega arith) refl tt in
    rw split (past_aggregate size [] None name text within (begins_ofx [] name refl) (omega arith) is_one.has_name is_one.is_one is_one.is_white at_within
    ∙ inner_passed.same
    ∙ past_aggregate_end size [] inner_passed.last name white more is_one.has_name is_one.is_white_after at_more inner_passed.awaits
    ∙ ap (λ m. first_fault size (record { open_names = []; has_ended = true; element = None }) (pieces_after size m)) nothing_more
    ∙ ended_body size (record { open_names = []; has_ended = true; element = None }) refl)

-- A body whose tags are spelled has no fault.
pub spelled_has_no_fault : SpelledTagsHaveNoFault
spelled_has_no_fault body nodes are =
    let spelled = are.spelled in
    let spells = rw (spelled.is_whole) at spelled.spells in
    let at = spelled_at_tag (length body) 16 spelled.rest (aggregate spelled.offset (codes "OFX") spelled.text spelled.inner nothing) [] spells refl in
    let size = length body in
    let white = spelled.white in
    ap (λ b. first_fault size around_body (pieces_of size b)) spelled.spelled
    ∙ ap (λ p. first_fault size around_body (text_pieces size (white ++ spelled.rest) ++ p)) (after_text size white spelled.rest (white_avoids white spelled.is_white))
    ∙ past_white size around_body white spelled.rest (pieces_after size spelled.rest) refl spelled.is_white at
    ∙ passed_body size spelled.offset spelled.text spelled.inner spelled.rest spells
