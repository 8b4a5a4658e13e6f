-- The leftmost fault of a body's tags, by cases over the body's pieces from the left.
use Rattle.std.specs.Prelude.{ℕ, ◌+◌, ◌-◌, Bool, true, false, not, ◌&&◌, ◌==◌, nat_eq, nat_le, List, [], ◌∷◌, ◌++◌, length, drop, position, codes, Option, None, Some, Result, Ok, Err, if◌then◌else◌}
use Rattle.std.specs.List.{list_all, list_any, before_first, after_first, starts_with}
use Rattle.std.specs.Str.{bytes_eq}
use Rattle.ofx_types.specs.TextRules.{is_white, is_refused_in_text}
use Rattle.ofx_types.specs.TagNames.{is_name, is_name_byte, is_element}
use Rattle.ofx_types.specs.declared.fault.TapeFault.{TapeFault}
use Rattle.ofx_types.specs.declared.fault.TapeFault.TheVariants as faults

-- A piece is a whole start tag or end tag, or a run of text up to the next `<`. A `<` that begins no whole tag is a
-- piece too, and the last one; it is unfinished where more bytes could make a tag of it.
pub data Piece : Type 0 where
  start_piece : (name : List ℕ) → Piece
  end_piece : (name : List ℕ) → Piece
  text_piece : (bytes : List ℕ) → Piece
  no_tag : (is_unfinished : Bool) → Piece

-- A piece at its offset, the number of bytes before it.
pub record Located : Type 0 where
  pub offset : ℕ
  pub piece : Piece

abbrev pub at_offset : ℕ → Piece → Located
at_offset offset piece = record { offset = offset; piece = piece }

abbrev pub is_open : ℕ → Bool
is_open b = b == 60

abbrev pub is_close : ℕ → Bool
is_close b = b == 62

-- bytes without the `/` at their start
abbrev pub after_slash : List ℕ → List ℕ
after_slash inside = if starts_with nat_eq inside (47 ∷ []) then drop 1 inside else inside

-- The bytes after a `<` that end with the body are the prefix of a tag: perhaps a `/`, and at most 32 bytes of a name.
abbrev pub is_prefix_of_tag : List ℕ → Bool
is_prefix_of_tag inside = nat_le (length (after_slash inside)) 32 && list_all is_name_byte (after_slash inside)

-- the text before the next `<`, where there is any; the bytes are the end of a body of this size
unfoldable pub text_pieces : ℕ → List ℕ → List Located
text_pieces size bytes =
    let run = before_first is_open bytes in
    if length run == 0 then [] else at_offset (size - length bytes) (text_piece run) ∷ []

-- the pieces from a `<` at this offset on: the bytes after it, and the pieces from the next `<` on
unfoldable pub pieces_at : ℕ → ℕ → List ℕ → List Located → List Located
pieces_at size offset suffix others =
    let inside = before_first is_close suffix in
    let after = after_first is_close suffix in
    if list_any is_close suffix && is_name inside then at_offset offset (start_piece inside) ∷ text_pieces size after ++ others
    else (if list_any is_close suffix && starts_with nat_eq inside (47 ∷ []) && is_name (drop 1 inside)
    then at_offset offset (end_piece (drop 1 inside)) ∷ text_pieces size after ++ others
    else at_offset offset (no_tag (is_prefix_of_tag suffix)) ∷ [])

-- the pieces from the next `<` on
unfoldable pub pieces_after : ℕ → List ℕ → List Located
pieces_after size [] = []
pieces_after size (b ∷ bytes) =
    if is_open b then pieces_at size (size - (length bytes + 1)) bytes (pieces_after size bytes) else pieces_after size bytes

-- the pieces of bytes that are the end of a body of this size
abbrev pub pieces_of : ℕ → List ℕ → List Located
pieces_of size bytes = text_pieces size bytes ++ pieces_after size bytes

-- What is round a piece: the names of the aggregates still open, the innermost first; whether OFX has ended; and the
-- element just before, with or without its value, where its end tag may still come.
pub record Around : Type 0 where
  pub open_names : List (List ℕ)
  pub has_ended : Bool
  pub element : Option (List ℕ)

abbrev pub around_body : Around
around_body = record { open_names = []; has_ended = false; element = None }

-- the text that the next piece is; nothing where it is no text
abbrev pub text_in : Piece → List ℕ
text_in (start_piece name) = []
text_in (end_piece name) = []
text_in (text_piece bytes) = bytes
text_in (no_tag is_unfinished) = []

abbrev pub next_text : List Located → List ℕ
next_text [] = []
next_text (p ∷ pieces) = text_in p.piece

-- the first byte that passes a test is a fault, at its offset
abbrev pub fault_at : ℕ → Option ℕ → Around → Result Around TapeFault
fault_at offset None around = Ok around
fault_at offset (Some i) around = Err (faults.Tag (offset + i))

-- After the start tag of an element comes its value, in which a control byte other than tab, LF and CR is a fault. Anywhere
-- else a byte that isn't white space is one.
abbrev pub is_refused_after : Option (List ℕ) → ℕ → Bool
is_refused_after None b = not (is_white b)
is_refused_after (Some name) b = is_refused_in_text b

unfoldable pub past_text : Around → ℕ → List ℕ → Result Around TapeFault
past_text around offset bytes = fault_at offset (position (is_refused_after around.element) bytes) around

-- No start tag comes after the end of OFX, and the first tag is that of OFX. A start tag begins an element, as its
-- name or the text after it says, and otherwise an aggregate, of which 16 may be open.
unfoldable pub past_start : Around → ℕ → List ℕ → List ℕ → Result Around TapeFault
past_start around offset name next =
    if around.has_ended then Err (faults.Tag offset)
    else (if length around.open_names == 0 && not (bytes_eq name (codes "OFX")) then Err (faults.Tag offset)
    else (if is_element name next then Ok (record around { element = Some name })
    else (if nat_le 16 (length around.open_names) then Err (faults.Depth offset)
    else Ok (record around { open_names = name ∷ around.open_names; element = None }))))

-- An end tag with the name of the element just before belongs to that element. Any other closes the innermost open
-- aggregate; with the last one OFX ends. None is the first tag.
abbrev pub is_name_of : List ℕ → Option (List ℕ) → Bool
is_name_of name None = false
is_name_of name (Some other) = bytes_eq other name

abbrev pub past_close : Bool → ℕ → List ℕ → List (List ℕ) → Result Around TapeFault
past_close has_ended offset name [] = Err (if has_ended then faults.Mismatch offset else faults.Tag offset)
past_close has_ended offset name (innermost ∷ outer) =
    if bytes_eq innermost name then Ok (record { open_names = outer; has_ended = length outer == 0; element = None })
    else Err (faults.Mismatch offset)

unfoldable pub past_end : Around → ℕ → List ℕ → Result Around TapeFault
past_end around offset name =
    if is_name_of name around.element then Ok (record around { element = None })
    else past_close around.has_ended offset name around.open_names

-- What is round the next piece, or the fault of this one. The body has this size.
abbrev pub past : ℕ → Around → ℕ → Piece → List ℕ → Result Around TapeFault
past size around offset (start_piece name) next = past_start around offset name next
past size around offset (end_piece name) next = past_end around offset name
past size around offset (text_piece bytes) next = past_text around offset bytes
past size around offset (no_tag true) next = Err (faults.Cut size)
past size around offset (no_tag false) next = Err (faults.Tag offset)

-- The first fault among these pieces. A body that ends before OFX has ended is cut.
abbrev pub or_further : Result Around TapeFault → (Around → Option TapeFault) → Option TapeFault
or_further (Ok around) further = further around
or_further (Err fault) further = Some fault

unfoldable pub first_fault : ℕ → Around → List Located → Option TapeFault
first_fault size around [] = if around.has_ended then None else Some (faults.Cut size)
first_fault size around (p ∷ pieces) =
    or_further (past size around p.offset p.piece (next_text pieces)) (λ after. first_fault size after pieces)

-- The leftmost fault of a body's tags.
abbrev pub tag_fault : List ℕ → Option TapeFault
tag_fault body = first_fault (length body) around_body (pieces_of (length body) body)
