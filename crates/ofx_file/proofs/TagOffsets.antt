-- The leftmost fault of a body's tags has its offset in the body.
use Rattle.std.proofs.Common.{◌≡◌, ℕ, ◌+◌, ◌-◌, ◌≤◌, Bool, true, false, not, ◌&&◌, cond, nat_eq, nat_le, List, [], ◌∷◌, ◌++◌, length, drop, position, Option, None, Some, Result, Ok, Err, MatchResult, codes, refl, subst, arith, length-drop}
use Rattle.std.proofs.lemmas.List.{length-take}
use Rattle.std.proofs.lemmas.List.Quantifiers.{position-Some}
use Rattle.std.specs.List.{AllByRecursion, before_first, after_first, list_any, starts_with}
use Rattle.std.specs.Option.{IfSome}
use Rattle.std.specs.Str.{bytes_eq}
use Rattle.ofx_types.specs.TagNames.{is_name, is_element}
use Rattle.ofx_types.specs.TagFault.{Piece, start_piece, end_piece, text_piece, no_tag, Located, is_open, is_close, text_pieces, pieces_at, pieces_after, pieces_of, Around, around_body, text_in, next_text, fault_at, is_refused_after, past_text, past_start, is_name_of, past_close, past_end, past, or_further, first_fault, tag_fault}
use Rattle.ofx_types.specs.FileForm.{tag_offset}
use Rattle.ofx_types.specs.declared.fault.TapeFault.{TapeFault}
use Rattle.ofx_types.specs.declared.fault.TapeFault.TheVariants as faults
use Rattle.ofx_file.specs.FaultOffsets.{IsTagWithin}

-- ---- pieces

abbrev IsWithin : ℕ → Located → Type 0
IsWithin size p = p.offset + length (text_in p.piece) ≤ size

abbrev AreWithin : ℕ → List Located → Type 0
AreWithin size pieces = AllByRecursion (IsWithin size) pieces

AreWithin-append : (size : ℕ) (a b : List Located) → AreWithin size a → AreWithin size b → AreWithin size (a ++ b)
AreWithin-append size [] b h i = i
AreWithin-append size (p ∷ a) b (h, more) i = (h, AreWithin-append size a b more i)

either : (size : ℕ) (b : Bool) (x y : List Located) → AreWithin size x → AreWithin size y → AreWithin size (cond b x y)
either size true x y h i = h
either size false x y h i = i

before_first-short : (p : ℕ → Bool) (bytes : List ℕ) → length (before_first p bytes) ≤ length bytes
before_first-short p bytes = rw length-take (omega arith)

after_first-short : (p : ℕ → Bool) (bytes : List ℕ) → length (after_first p bytes) ≤ length bytes
after_first-short p bytes = rw length-drop (omega arith)

text_within : (size : ℕ) (bytes : List ℕ) → length bytes ≤ size → AreWithin size (text_pieces size bytes)
unfolding text_pieces
text_within size bytes h =
    either size (nat_eq (length (before_first is_open bytes)) 0) _ _ tt (omega (arith, before_first-short is_open bytes), tt)

at_within : (size offset : ℕ) (suffix : List ℕ) (others : List Located) → offset ≤ size → length suffix ≤ size → AreWithin size others → AreWithin size (pieces_at size offset suffix others)
unfolding pieces_at
at_within size offset suffix others h long i =
    let after = after_first is_close suffix in
    let text = text_within size after (omega (arith, after_first-short is_close suffix)) in
    either size (list_any is_close suffix && is_name (before_first is_close suffix)) _ _
    (omega arith, AreWithin-append size (text_pieces size after) others text i)
    (either size (list_any is_close suffix && starts_with nat_eq (before_first is_close suffix) (47 ∷ []) && is_name (drop 1 (before_first is_close suffix))) _ _
    (omega arith, AreWithin-append size (text_pieces size after) others text i)
    (omega arith, tt))

after_within : (size : ℕ) (bytes : List ℕ) → length bytes ≤ size → AreWithin size (pieces_after size bytes)
unfolding pieces_after
after_within size [] h = tt
after_within size (b ∷ bytes) h =
    let others = after_within size bytes (omega arith) in
    either size (is_open b) _ _ (at_within size (size - (length bytes + 1)) bytes (pieces_after size bytes) (omega arith) (omega arith) others) others

-- ---- faults

-- A fault has an offset, which is at most this one. Tags want no memory by themselves.
abbrev HasOffset : ℕ → TapeFault → Type 0
HasOffset most (faults.Tag at) = at ≤ most
HasOffset most (faults.Mismatch at) = at ≤ most
HasOffset most (faults.Depth at) = at ≤ most
HasOffset most (faults.Cut at) = at ≤ most
HasOffset most faults.OutOfMemory = ⊥

abbrev Holds : ℕ → Result Around TapeFault → Type 0
Holds size r = MatchResult r (λ _. Unit {0}) (HasOffset size)

chosen_holds : (size : ℕ) (b : Bool) (r s : Result Around TapeFault) → Holds size r → Holds size s → Holds size (cond b r s)
chosen_holds size true r s h i = h
chosen_holds size false r s h i = i

at_holds : (size offset : ℕ) (found : Option ℕ) (around : Around) → IfSome found (λ i. offset + i ≤ size) → Holds size (fault_at offset found around)
at_holds size offset None around h = tt
at_holds size offset (Some i) around h = h

occurrence_found : (p : ℕ → Bool) (bytes : List ℕ) (found : Option ℕ) (size offset : ℕ) → position p bytes ≡ found → offset + length bytes ≤ size → IfSome found (λ i. offset + i ≤ size)
occurrence_found p bytes None size offset e h = tt
occurrence_found p bytes (Some i) size offset e h = omega (arith, (position-Some p bytes i 0 e).0)

text_holds : (size : ℕ) (around : Around) (offset : ℕ) (bytes : List ℕ) → offset + length bytes ≤ size → Holds size (past_text around offset bytes)
unfolding past_text
text_holds size around offset bytes h =
    at_holds size offset (position (is_refused_after around.element) bytes) around
    (occurrence_found (is_refused_after around.element) bytes (position (is_refused_after around.element) bytes) size offset refl h)

start_holds : (size : ℕ) (around : Around) (offset : ℕ) (name next : List ℕ) → offset ≤ size → Holds size (past_start around offset name next)
unfolding past_start
start_holds size around offset name next h =
    chosen_holds size around.has_ended _ _ h
    (chosen_holds size (nat_eq (length around.open_names) 0 && not (bytes_eq name (codes "OFX"))) _ _ h
    (chosen_holds size (is_element name next) _ _ tt
    (chosen_holds size (nat_le 16 (length around.open_names)) _ _ h tt)))

fault_chosen : (size : ℕ) (b : Bool) (e f : TapeFault) → HasOffset size e → HasOffset size f → HasOffset size (cond b e f)
fault_chosen size true e f h i = h
fault_chosen size false e f h i = i

close_holds : (size : ℕ) (has_ended : Bool) (offset : ℕ) (name : List ℕ) (names : List (List ℕ)) → offset ≤ size → Holds size (past_close has_ended offset name names)
close_holds size has_ended offset name [] h = fault_chosen size has_ended (faults.Mismatch offset) (faults.Tag offset) h h
close_holds size has_ended offset name (innermost ∷ outer) h = chosen_holds size (bytes_eq innermost name) _ _ tt h

end_holds : (size : ℕ) (around : Around) (offset : ℕ) (name : List ℕ) → offset ≤ size → Holds size (past_end around offset name)
unfolding past_end
end_holds size around offset name h =
    chosen_holds size (is_name_of name around.element) _ _ tt (close_holds size around.has_ended offset name around.open_names h)

past_holds : (size : ℕ) (around : Around) (offset : ℕ) (piece : Piece) (next : List ℕ) → offset + length (text_in piece) ≤ size → Holds size (past size around offset piece next)
past_holds size around offset (start_piece name) next h = start_holds size around offset name next (omega arith)
past_holds size around offset (end_piece name) next h = end_holds size around offset name (omega arith)
past_holds size around offset (text_piece bytes) next h = text_holds size around offset bytes h
past_holds size around offset (no_tag true) next h = omega arith
past_holds size around offset (no_tag false) next h = omega arith

further_holds : (size : ℕ) (r : Result Around TapeFault) (further : Around → Option TapeFault) → Holds size r → ((a : Around) → IfSome (further a) (HasOffset size)) → IfSome (or_further r further) (HasOffset size)
further_holds size (Ok around) further h i = i around
further_holds size (Err fault) further h i = h

end_of_body : (size : ℕ) (b : Bool) → IfSome (cond b None (Some (faults.Cut size))) (HasOffset size)
end_of_body size true = tt
end_of_body size false = omega arith

first_holds : (size : ℕ) (around : Around) (pieces : List Located) → AreWithin size pieces → IfSome (first_fault size around pieces) (HasOffset size)
unfolding first_fault
first_holds size around [] h = end_of_body size around.has_ended
first_holds size around (p ∷ pieces) (h, more) =
    further_holds size (past size around p.offset p.piece (next_text pieces)) _
    (past_holds size around p.offset p.piece (next_text pieces) h)
    (λ after. first_holds size after pieces more)

leftmost_fault : (body : List ℕ) (fault : TapeFault) → tag_fault body ≡ Some fault → HasOffset (length body) fault
leftmost_fault body fault h =
    let size = length body in
    let P : Option TapeFault → Type 0 = λ o. IfSome o (HasOffset (length body)) in
    subst P h (first_holds (length body) around_body (pieces_of (length body) body)
    (AreWithin-append (length body) (text_pieces (length body) body) (pieces_after (length body) body) (text_within (length body) body (omega arith)) (after_within (length body) body (omega arith))))

is_within : (most : ℕ) (fault : TapeFault) → HasOffset most fault → IsTagWithin most fault
is_within most (faults.Tag at) h = h
is_within most (faults.Mismatch at) h = h
is_within most (faults.Depth at) h = h
is_within most (faults.Cut at) h = h
is_within most faults.OutOfMemory h = tt

offset_of : (most : ℕ) (fault : TapeFault) → HasOffset most fault → (offset : ℕ) × (tag_offset fault ≡ Some offset)
offset_of most (faults.Tag at) h = (at, refl)
offset_of most (faults.Mismatch at) h = (at, refl)
offset_of most (faults.Depth at) h = (at, refl)
offset_of most (faults.Cut at) h = (at, refl)
offset_of most faults.OutOfMemory h = absurd h

-- the leftmost fault of a body's tags is in the body
pub tag_fault_within : (body : List ℕ) (fault : TapeFault) → tag_fault body ≡ Some fault → IsTagWithin (length body) fault
tag_fault_within body fault h = is_within (length body) fault (leftmost_fault body fault h)

-- the leftmost fault of a body's tags has an offset
pub tag_fault_offset : (body : List ℕ) (fault : TapeFault) → tag_fault body ≡ Some fault → (offset : ℕ) × (tag_offset fault ≡ Some offset)
tag_fault_offset body fault h = offset_of (length body) fault (leftmost_fault body fault h)
