-- Values as they are written: what they stand for, and which bytes stand in them.
use Rattle.std.proofs.Common.{◌≡◌, ◌≤◌, ◌<◌, ◌+◌, ℕ, suc, Bool, true, false, not, cond, List, [], ◌∷◌, ◌++◌, length, reverse, position, None, Some, nat_eq, nat_lt, codes, refl, sym, ap, ◌∙◌, append_assoc, arith}
use Rattle.std.specs.List.{list_all, position_or_len}
use Rattle.std.proofs.lemmas.Bool.{eqb-true, ltb-false}
use Rattle.std.proofs.lemmas.List.{reverse-append, length-reverse}
use Rattle.std.proofs.lemmas.List.Folds.{list_all-append}
use Rattle.ofx_types.specs.TextRules.{is_white, trim_start, trim_end, trimmed, is_refused_in_text}
use Rattle.ofx_types.specs.ValueForm.{decoded_past, decoded, value_of}
use Rattle.ofx_types.specs.Sheet.{escaped, escaped_byte, ended}
use Rattle.ofx_types.specs.TagForm.{is_value_byte}
use Rattle.ofx_tree.specs.PrintedForm.{written}

-- ---- what is written is decoded to what it was

decoded_tested : (b : ℕ) (rest : List ℕ) (amp lt gt : Bool) → nat_eq b 38 ≡ amp → nat_eq b 60 ≡ lt → nat_eq b 62 ≡ gt
    → decoded (cond amp (codes "&amp;") (cond lt (codes "&lt;") (cond gt (codes "&gt;") (b ∷ []))) ++ rest) ≡ b ∷ decoded rest
unfolding decoded_past
decoded_tested b rest true lt gt a l g = ap (λ x. x ∷ decoded rest) (sym (eqb-true b 38 a))
decoded_tested b rest false true gt a l g = ap (λ x. x ∷ decoded rest) (sym (eqb-true b 60 l))
decoded_tested b rest false false true a l g = ap (λ x. x ∷ decoded rest) (sym (eqb-true b 62 g))
decoded_tested b rest false false false a l g = rw a refl

decoded-escaped_byte : (b : ℕ) (rest : List ℕ) → decoded (escaped_byte b ++ rest) ≡ b ∷ decoded rest
decoded-escaped_byte b rest = decoded_tested b rest (nat_eq b 38) (nat_eq b 60) (nat_eq b 62) refl refl refl

decoded-escaped : (value rest : List ℕ) → decoded (escaped value ++ rest) ≡ value ++ decoded rest
decoded-escaped [] rest = refl
decoded-escaped (b ∷ bs) rest = rw (append_assoc, decoded-escaped_byte b (escaped bs ++ rest), decoded-escaped bs rest) refl

-- ---- a trimmed value begins with no white space, and the end of its line is trimmed

trim_start-shorter : (xs : List ℕ) → length (trim_start xs) ≤ length xs
trim_start-shorter [] = omega arith
trim_start-shorter (x ∷ xs) =
    let shorter = trim_start-shorter xs in
    elim (is_white x) as (λ b. length (cond b (trim_start xs) (x ∷ xs)) ≤ suc (length xs)) [ true ↦ omega arith | false ↦ omega arith ]

trim_end-shorter : (xs : List ℕ) → length (trim_end xs) ≤ length xs
trim_end-shorter xs = omega (arith, trim_start-shorter (reverse xs), length-reverse (trim_start (reverse xs)), length-reverse xs)

black_tested : (b : ℕ) (bs : List ℕ) (white : Bool) → is_white b ≡ white → trim_end (cond white (trim_start bs) (b ∷ bs)) ≡ b ∷ bs → white ≡ false
black_tested b bs true e h = absurd (omega (arith, ap length h, trim_end-shorter (trim_start bs), trim_start-shorter bs))
black_tested b bs false e h = refl

first_black : (b : ℕ) (bs : List ℕ) → trimmed (b ∷ bs) ≡ b ∷ bs → is_white b ≡ false
first_black b bs h = black_tested b bs (is_white b) refl h

trim_end-line : (xs : List ℕ) → trim_end (ended xs) ≡ trim_end xs
trim_end-line xs = ap (λ (l : List ℕ). reverse (trim_start l)) (reverse-append xs (13 ∷ 10 ∷ []))

trimmed_line : (value : List ℕ) → trimmed value ≡ value → 0 < length value → trimmed (ended value) ≡ value
trimmed_line [] h there = absurd (omega arith)
trimmed_line (b ∷ bs) h there =
    let black = first_black b bs h in
    let kept : trim_end (b ∷ bs) ≡ b ∷ bs = rw black at h in
    rw black (trim_end-line (b ∷ bs) ∙ kept)

pub value_of-written : (value : List ℕ) → trimmed value ≡ value → 0 < length value → value_of (written value) ≡ value
unfolding decoded_past
value_of-written value h there = rw (decoded-escaped value (13 ∷ 10 ∷ [])) (trimmed_line value h there)

-- ---- the bytes of a written value

prefix_more : (b : Bool) (k n : ℕ) → suc k ≤ cond (not b) (1 + n) 0 → (b ≡ false) × (k ≤ n)
prefix_more true k n h = absurd (omega arith)
prefix_more false k n h = (refl, omega arith)

byte_tested : (b : ℕ) (amp lt gt : Bool) → nat_eq b 60 ≡ lt → is_refused_in_text b ≡ false
    → list_all is_value_byte (cond amp (codes "&amp;") (cond lt (codes "&lt;") (cond gt (codes "&gt;") (b ∷ [])))) ≡ true
byte_tested b true lt gt l h = refl
byte_tested b false true gt l h = refl
byte_tested b false false true l h = refl
byte_tested b false false false l h = rw (l, h) refl

escaped_bytes : (value : List ℕ) → length value ≤ position_or_len is_refused_in_text value → list_all is_value_byte (escaped value) ≡ true
escaped_bytes [] h = refl
escaped_bytes (b ∷ bs) h =
    let parts = prefix_more (is_refused_in_text b) (length bs) (position_or_len is_refused_in_text bs) h in
    rw (list_all-append, byte_tested b (nat_eq b 38) (nat_eq b 60) (nat_eq b 62) refl parts.0, escaped_bytes bs parts.1) refl

none_tested : (n k : ℕ) (b : Bool) → nat_lt k n ≡ b → cond b (Some k) None ≡ None → n ≤ k
none_tested n k true e h = cc
none_tested n k false e h = ltb-false k n e

pub written_bytes : (value : List ℕ) → position is_refused_in_text value ≡ None → list_all is_value_byte (written value) ≡ true
written_bytes value h =
    let clean = none_tested (length value) (position_or_len is_refused_in_text value) _ refl h in
    rw (list_all-append, escaped_bytes value clean) refl

prefix_black : (b : ℕ) (rest : List ℕ) (amp lt gt : Bool) → is_white b ≡ false
    → list_all is_white (cond amp (codes "&amp;") (cond lt (codes "&lt;") (cond gt (codes "&gt;") (b ∷ []))) ++ rest) ≡ false
prefix_black b rest true lt gt h = refl
prefix_black b rest false true gt h = refl
prefix_black b rest false false true h = refl
prefix_black b rest false false false h = rw h refl

pub written_black : (value : List ℕ) → trimmed value ≡ value → 0 < length value → list_all is_white (written value) ≡ false
written_black [] h there = absurd (omega arith)
written_black (b ∷ bs) h there =
    rw append_assoc (prefix_black b (escaped bs ++ 13 ∷ 10 ∷ []) (nat_eq b 38) (nat_eq b 60) (nat_eq b 62) (first_black b bs h))
