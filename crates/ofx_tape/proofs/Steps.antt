-- One step of the search for the leftmost fault, in each of its cases.
use Rattle.std.proofs.Common.{◌≡◌, ℕ, if◌then◌else◌, ◌+◌, ◌-◌, ◌<◌, ◌≤◌, Bool, true, false, not, ◌&&◌, ◌==◌, List, [], ◌∷◌, ◌++◌, length, position, codes, Option, None, Some, Ok, Err, ne_eqb, refl, ap, ◌∙◌, arith}
use Rattle.std.proofs.lemmas.Bool.{le-leb, lt-leb, and_left, and_right}
use Rattle.std.proofs.lemmas.Slice.Eq.{bytes_eq-Decides}
use Rattle.std.specs.Str.{bytes_eq}
use Rattle.std.specs.List.{list_any}
use Rattle.ofx_types.specs.TagNames.{is_element}
use Rattle.ofx_types.specs.TagFault.{Located, start_piece, end_piece, text_piece, no_tag, at_offset, is_open, text_pieces, Around, next_text, is_refused_after, fault_at, past_text, past_start, past_close, past_end, is_name_of, or_further, first_fault}
use Rattle.ofx_types.specs.declared.fault.TapeFault.TheVariants.{Tag, Mismatch, Depth, Cut}
use Rattle.ofx_tape.proofs.Pieces.{is_at_tag, no_text, some_text}

-- ---- text

text_passes : (size : ℕ) (around : Around) (offset : ℕ) (run : List ℕ) (more : List Located) (found : Option ℕ) → position (is_refused_after around.element) run ≡ found →
    first_fault size around (at_offset offset (text_piece run) ∷ more) ≡ or_further (fault_at offset found around) (λ after. first_fault size after more)
unfolding first_fault past_text
text_passes size around offset run more found is_found = ap (λ o. or_further (fault_at offset o around) (λ after. first_fault size after more)) is_found

-- Text in which no byte is refused is passed over.
pub past_allowed : (size : ℕ) (around : Around) (run rest : List ℕ) (more : List Located) →
    list_any is_open run ≡ false → is_at_tag rest ≡ true → position (is_refused_after around.element) run ≡ None →
    first_fault size around (text_pieces size (run ++ rest) ++ more) ≡ first_fault size around more
past_allowed size around [] rest more avoids at allowed = rw (no_text size rest at) refl
past_allowed size around (b ∷ run) rest more avoids at allowed =
    rw (some_text size (b ∷ run) rest (omega arith) avoids at) (text_passes size around _ (b ∷ run) more None allowed)

-- The first byte that is refused is a fault at its offset.
pub at_refused : (size : ℕ) (around : Around) (run rest : List ℕ) (more : List Located) (i : ℕ) →
    list_any is_open run ≡ false → is_at_tag rest ≡ true → position (is_refused_after around.element) run ≡ Some i →
    first_fault size around (text_pieces size (run ++ rest) ++ more) ≡ Some (Tag (size - length (run ++ rest) + i))
at_refused size around [] rest more i avoids at refused = cc
at_refused size around (b ∷ run) rest more i avoids at refused =
    rw (some_text size (b ∷ run) rest (omega arith) avoids at) (text_passes size around _ (b ∷ run) more (Some i) refused)

-- ---- start tags

-- whether a start tag would be the first tag, and another than that of OFX
abbrev pub is_wrong_first : List (List ℕ) → List ℕ → Bool
is_wrong_first open_names name = (length open_names == 0) && not (bytes_eq name (codes "OFX"))

pub inside_ofx : (open_names : List (List ℕ)) (name : List ℕ) → 0 < length open_names → is_wrong_first open_names name ≡ false
inside_ofx open_names name some = and_left (length open_names == 0) (not (bytes_eq name (codes "OFX"))) (ne_eqb (length open_names) 0 (λ e. omega arith))

pub begins_ofx : (open_names : List (List ℕ)) (name : List ℕ) → name ≡ codes "OFX" → is_wrong_first open_names name ≡ false
begins_ofx open_names name is_ofx = rw is_ofx (and_right (length open_names == 0) false refl)

pub start_after_end : (size offset : ℕ) (around : Around) (name : List ℕ) (more : List Located) → around.has_ended ≡ true →
    first_fault size around (at_offset offset (start_piece name) ∷ more) ≡ Some (Tag offset)
unfolding first_fault past_start
start_after_end size offset around name more ended = rw ended refl

pub start_of_another : (size offset : ℕ) (around : Around) (name : List ℕ) (more : List Located) → around.has_ended ≡ false →
    is_wrong_first around.open_names name ≡ true → first_fault size around (at_offset offset (start_piece name) ∷ more) ≡ Some (Tag offset)
unfolding first_fault past_start
start_of_another size offset around name more ended wrong = rw (ended, wrong) refl

pub start_of_element : (size offset : ℕ) (around : Around) (name : List ℕ) (more : List Located) → around.has_ended ≡ false →
    is_wrong_first around.open_names name ≡ false → is_element name (next_text more) ≡ true →
    first_fault size around (at_offset offset (start_piece name) ∷ more)
    ≡ first_fault size (record { open_names = around.open_names; has_ended = around.has_ended; element = Some name }) more
unfolding first_fault past_start
start_of_element size offset around name more ended right is_one = rw (ended, right, is_one) refl

pub start_too_deep : (size offset : ℕ) (around : Around) (name : List ℕ) (more : List Located) → around.has_ended ≡ false →
    is_element name (next_text more) ≡ false → 16 ≤ length around.open_names →
    first_fault size around (at_offset offset (start_piece name) ∷ more) ≡ Some (Depth offset)
unfolding first_fault past_start
start_too_deep size offset around name more ended is_none full =
    rw (ended, inside_ofx around.open_names name (omega arith), is_none, le-leb 16 (length around.open_names) full) refl

pub start_of_aggregate : (size offset : ℕ) (around : Around) (name : List ℕ) (more : List Located) → around.has_ended ≡ false →
    is_wrong_first around.open_names name ≡ false → is_element name (next_text more) ≡ false → length around.open_names < 16 →
    first_fault size around (at_offset offset (start_piece name) ∷ more)
    ≡ first_fault size (record { open_names = name ∷ around.open_names; has_ended = around.has_ended; element = None }) more
unfolding first_fault past_start
start_of_aggregate size offset around name more ended right is_none room =
    rw (ended, right, is_none, lt-leb 16 (length around.open_names) room) refl

-- ---- end tags

same_name : (name : List ℕ) → bytes_eq name name ≡ true
same_name name = (bytes_eq-Decides name name).1 refl

-- An end tag with the name of the element just before is that element's.
pub end_of_element : (size offset : ℕ) (around : Around) (name : List ℕ) (more : List Located) → around.element ≡ Some name →
    first_fault size around (at_offset offset (end_piece name) ∷ more)
    ≡ first_fault size (record { open_names = around.open_names; has_ended = around.has_ended; element = None }) more
unfolding first_fault past_end
end_of_element size offset around name more is_it = rw (is_it, same_name name) refl

end_closes : (size offset : ℕ) (around : Around) (name : List ℕ) (more : List Located) (names : List (List ℕ)) →
    is_name_of name around.element ≡ false → around.open_names ≡ names →
    first_fault size around (at_offset offset (end_piece name) ∷ more)
    ≡ or_further (past_close around.has_ended offset name names) (λ after. first_fault size after more)
unfolding first_fault past_end
end_closes size offset around name more names other are_open = rw (other, are_open) refl

-- Any other closes the innermost aggregate, if it has its name.
pub end_of_aggregate : (size offset : ℕ) (around : Around) (name : List ℕ) (outer : List (List ℕ)) (more : List Located) →
    is_name_of name around.element ≡ false → around.open_names ≡ name ∷ outer →
    first_fault size around (at_offset offset (end_piece name) ∷ more)
    ≡ first_fault size (record { open_names = outer; has_ended = length outer == 0; element = None }) more
end_of_aggregate size offset around name outer more other are_open =
    end_closes size offset around name more (name ∷ outer) other are_open
    ∙ ap (λ b. or_further (if b then Ok (record { open_names = outer; has_ended = length outer == 0; element = None }) else Err (Mismatch offset)) (λ after. first_fault size after more)) (same_name name)

pub end_of_another : (size offset : ℕ) (around : Around) (name innermost : List ℕ) (outer : List (List ℕ)) (more : List Located) →
    is_name_of name around.element ≡ false → around.open_names ≡ innermost ∷ outer → bytes_eq innermost name ≡ false →
    first_fault size around (at_offset offset (end_piece name) ∷ more) ≡ Some (Mismatch offset)
end_of_another size offset around name innermost outer more other are_open differs =
    end_closes size offset around name more (innermost ∷ outer) other are_open
    ∙ ap (λ b. or_further (if b then Ok (record { open_names = outer; has_ended = length outer == 0; element = None }) else Err (Mismatch offset)) (λ after. first_fault size after more)) differs

pub end_after_end : (size offset : ℕ) (around : Around) (name : List ℕ) (more : List Located) →
    is_name_of name around.element ≡ false → around.open_names ≡ [] → around.has_ended ≡ true →
    first_fault size around (at_offset offset (end_piece name) ∷ more) ≡ Some (Mismatch offset)
end_after_end size offset around name more other none ended =
    end_closes size offset around name more [] other none
    ∙ ap (λ b. or_further (Err (if b then Mismatch offset else Tag offset)) (λ after. first_fault size after more)) ended

pub end_before_start : (size offset : ℕ) (around : Around) (name : List ℕ) (more : List Located) →
    is_name_of name around.element ≡ false → around.open_names ≡ [] → around.has_ended ≡ false →
    first_fault size around (at_offset offset (end_piece name) ∷ more) ≡ Some (Tag offset)
end_before_start size offset around name more other none ended =
    end_closes size offset around name more [] other none
    ∙ ap (λ b. or_further (Err (if b then Mismatch offset else Tag offset)) (λ after. first_fault size after more)) ended

-- ---- what is no tag, and the end of the body

pub at_no_tag : (size offset : ℕ) (around : Around) (more : List Located) →
    first_fault size around (at_offset offset (no_tag false) ∷ more) ≡ Some (Tag offset)
unfolding first_fault
at_no_tag size offset around more = refl

pub at_cut_tag : (size offset : ℕ) (around : Around) (more : List Located) →
    first_fault size around (at_offset offset (no_tag true) ∷ more) ≡ Some (Cut size)
unfolding first_fault
at_cut_tag size offset around more = refl

pub ended_body : (size : ℕ) (around : Around) → around.has_ended ≡ true → first_fault size around [] ≡ None
unfolding first_fault
ended_body size around ended = rw ended refl

pub cut_body : (size : ℕ) (around : Around) → around.has_ended ≡ false → first_fault size around [] ≡ Some (Cut size)
unfolding first_fault
cut_body size around ended = rw ended refl
