-- Single fields are read as they are written.
use Rattle.std.proofs.Common.{◌≡◌, ℕ, zero, suc, ◌+◌, ◌^◌, ◌<◌, ◌≤◌, Bool, true, false, cond, ltb, nat_eq, List, [], ◌∷◌, ◌++◌, length, get_or, take, drop, Option, None, Some, Result, Ok, Err, refl, sym, ap, subst, ◌∙◌, arith, append_assoc}
use Rattle.std.specs.Prelude.{position}
use Rattle.std.specs.List.{position_or_len, before_first, after_first}
use Rattle.std.specs.Int.{w16, w32, to_be_bytes, from_be_bytes}
use Rattle.std.proofs.Math.Seq.{get_or-append_seam, take-append_seam, drop-append_seam}
use Rattle.std.proofs.lemmas.Bool.{ltb-false, ltb-true, lt-ltb, le-ltb, eqb-true, eqb-false, ne_eqb}
use Rattle.std.proofs.lemmas.List.{drop_at, take-append-drop, length-append, length-take, length-take-le, get_or_append_left, get_or-append-add}
use Rattle.std.proofs.lemmas.List.Sums.{position_or_len_is, split_at_first, passes_at_first, fails_before_first}
use Rattle.std.proofs.lemmas.Nat.{be_bytes_2, be_bytes_4, from_be_bytes-to_be_bytes_2, from_be_bytes-to_be_bytes_4}
use Rattle.postgres_messages.specs.Fields.{◌>>=◌, u16_bytes, u32_bytes, u16_in, u32_in, is_zero, IsText, text_bytes, cut_at, text_in, absent, value_bytes, sized, value_in}
use Rattle.postgres_messages.specs.Laws.{IsBytes, IsField, IsValue}

-- ---- steps

-- the value of a step that did not fail
pub bind_ok : {A B : Type 0} (r : Result A ℕ) (f : A → Result B ℕ) (y : B) → (r >>= f) ≡ Ok y → (x : A) × (r ≡ Ok x) × (f x ≡ Ok y)
bind_ok (Ok x) f y e = (x, refl, e)
bind_ok (Err d) f y e = absurd cc

abbrev done : {A : Type 0} → A → Result A ℕ
done x = Ok x

pub ok_is : {A : Type 0} (x y : A) → done x ≡ done y → x ≡ y
ok_is x y e = cc

-- the bytes after others are bytes too
pub IsBytes-rest : (front rest bytes : List ℕ) → bytes ≡ front ++ rest → IsBytes bytes → IsBytes rest
IsBytes-rest front rest bytes e fits i =
    let here : get_or bytes (length front + i) 0 < 256 = fits (length front + i) in
    let P : ℕ → Type 0 = λ n. n < 256 in
    subst P (ap (λ (t : List ℕ). get_or t (length front + i) 0) e ∙ get_or-append-add front rest i 0) here

-- ---- numbers

two_small : (a b : ℕ) (rest : List ℕ) → IsBytes (a ∷ b ∷ rest) → (i : ℕ) → get_or (a ∷ b ∷ []) i 0 < 256
two_small a b rest fits zero = fits 0
two_small a b rest fits (suc zero) = fits 1
two_small a b rest fits (suc (suc i)) = omega arith

four_small : (a b c d : ℕ) (rest : List ℕ) → IsBytes (a ∷ b ∷ c ∷ d ∷ rest) → (i : ℕ) → get_or (a ∷ b ∷ c ∷ d ∷ []) i 0 < 256
four_small a b c d rest fits zero = fits 0
four_small a b c d rest fits (suc zero) = fits 1
four_small a b c d rest fits (suc (suc zero)) = fits 2
four_small a b c d rest fits (suc (suc (suc zero))) = fits 3
four_small a b c d rest fits (suc (suc (suc (suc i)))) = omega arith

u16_holds : (bytes : List ℕ) (found : ℕ × List ℕ) → IsBytes bytes → u16_in bytes ≡ Ok found → (bytes ≡ u16_bytes found.0 ++ found.1) × (found.0 < 2 ^ 16)
unfolding u16_in
u16_holds [] found fits e = absurd cc
u16_holds (a ∷ []) found fits e = absurd cc
u16_holds (a ∷ b ∷ rest) found fits e =
    let made : ℕ × List ℕ = (from_be_bytes w16 (a ∷ b ∷ []), rest) in
    let text : to_be_bytes w16 (from_be_bytes w16 (a ∷ b ∷ [])) ≡ a ∷ b ∷ [] = be_bytes_2 (a ∷ b ∷ []) _ refl (two_small a b rest fits) refl in
    subst (λ (f : ℕ × List ℕ). ((a ∷ b ∷ rest) ≡ u16_bytes f.0 ++ f.1) × (f.0 < 2 ^ 16)) (ok_is made found e)
    (ap (λ (t : List ℕ). t ++ rest) (sym text), omega (arith, fits 0, fits 1))

pub u16_field : IsField u16_in u16_bytes (λ n. n < 2 ^ 16)
unfolding u16_in
u16_field = record {
  holds = u16_holds;
  again = λ n rest small. let made : ℕ → Result (ℕ × List ℕ) ℕ = λ m. Ok (m, rest) in ap made (from_be_bytes-to_be_bytes_2 n small);
}

u32_holds : (bytes : List ℕ) (found : ℕ × List ℕ) → IsBytes bytes → u32_in bytes ≡ Ok found → (bytes ≡ u32_bytes found.0 ++ found.1) × (found.0 < 2 ^ 32)
unfolding u32_in
u32_holds [] found fits e = absurd cc
u32_holds (a ∷ []) found fits e = absurd cc
u32_holds (a ∷ b ∷ []) found fits e = absurd cc
u32_holds (a ∷ b ∷ c ∷ []) found fits e = absurd cc
u32_holds (a ∷ b ∷ c ∷ d ∷ rest) found fits e =
    let made : ℕ × List ℕ = (from_be_bytes w32 (a ∷ b ∷ c ∷ d ∷ []), rest) in
    let text : to_be_bytes w32 (from_be_bytes w32 (a ∷ b ∷ c ∷ d ∷ [])) ≡ a ∷ b ∷ c ∷ d ∷ [] = be_bytes_4 (a ∷ b ∷ c ∷ d ∷ []) _ refl (four_small a b c d rest fits) refl in
    subst (λ (f : ℕ × List ℕ). ((a ∷ b ∷ c ∷ d ∷ rest) ≡ u32_bytes f.0 ++ f.1) × (f.0 < 2 ^ 32)) (ok_is made found e)
    (ap (λ (t : List ℕ). t ++ rest) (sym text), omega (arith, fits 0, fits 1, fits 2, fits 3))

pub u32_field : IsField u32_in u32_bytes (λ n. n < 2 ^ 32)
unfolding u32_in
u32_field = record {
  holds = u32_holds;
  again = λ n rest small. let made : ℕ → Result (ℕ × List ℕ) ℕ = λ m. Ok (m, rest) in ap made (from_be_bytes-to_be_bytes_4 n small);
}

-- ---- texts

zero_is : (text rest : List ℕ) → IsText text → position is_zero ((text ++ 0 ∷ []) ++ rest) ≡ Some (length text)
zero_is text rest proper =
    let same : (text ++ 0 ∷ []) ++ rest ≡ text ++ 0 ∷ rest = append_assoc text (0 ∷ []) rest in
    let long : length (text ++ 0 ∷ rest) ≡ length text + suc (length rest) = length-append text (0 ∷ rest) in
    let place : position_or_len is_zero (text ++ 0 ∷ rest) ≡ length text =
    position_or_len_is is_zero (text ++ 0 ∷ rest) (length text) 0 (omega arith)
    (λ k lt. ap is_zero (get_or_append_left text (0 ∷ rest) 0 k lt) ∙ proper k lt)
    (λ lt. ap is_zero (get_or-append_seam text 0 rest 0)) in
    let inside : ltb (length text) (length (text ++ 0 ∷ rest)) ≡ true = lt-ltb _ _ (omega arith) in
    rw (same, place, inside) refl

text_again : (text rest : List ℕ) → IsText text → text_in (text_bytes text ++ rest) ≡ Ok (text, rest)
unfolding text_in
text_again text rest proper =
    let same : (text ++ 0 ∷ []) ++ rest ≡ text ++ 0 ∷ rest = append_assoc text (0 ∷ []) rest in
    let after : drop (length text + 1) ((text ++ 0 ∷ []) ++ rest) ≡ rest = drop_at (text ++ 0 ∷ []) rest (length text + 1) (length-append text (0 ∷ [])) in
    rw (zero_is text rest proper, after, same, take-append_seam text (0 ∷ rest)) refl

some_is : {A : Type 0} (b : Bool) (x y : A) → cond b (Some x) None ≡ Some y → (b ≡ true) × (x ≡ y)
some_is true x y e = (refl, cc)
some_is false x y e = absurd cc

pub record Cut (bytes text rest : List ℕ) : Type 0 where
  pub parts : bytes ≡ text_bytes text ++ rest
  pub proper : IsText text

first_fails : (bytes : List ℕ) (k : ℕ) → position_or_len is_zero bytes < length bytes → k < length (before_first is_zero bytes) → is_zero (get_or (before_first is_zero bytes) k 0) ≡ false
first_fails bytes k lt below =
    let size : length (before_first is_zero bytes) ≡ position_or_len is_zero bytes = omega (arith, length-take (position_or_len is_zero bytes) bytes) in
    let inside : k < position_or_len is_zero bytes = omega arith in
    let same : get_or (before_first is_zero bytes) k 0 ≡ get_or bytes k 0 = sym (get_or_append_left (before_first is_zero bytes) (drop (position_or_len is_zero bytes) bytes) 0 k below) ∙ ap (λ (t : List ℕ). get_or t k 0) (take-append-drop (position_or_len is_zero bytes) bytes) in
    ap is_zero same ∙ fails_before_first is_zero bytes k 0 inside

cut_holds : (bytes : List ℕ) (n : ℕ) → position is_zero bytes ≡ Some n → Cut bytes (take n bytes) (drop (n + 1) bytes)
cut_holds bytes n e =
    let s = some_is (ltb (position_or_len is_zero bytes) (length bytes)) (position_or_len is_zero bytes) n e in
    let lt : position_or_len is_zero bytes < length bytes = ltb-true _ _ s.0 in
    let byte : get_or bytes (position_or_len is_zero bytes) 0 ≡ 0 = eqb-true _ _ (passes_at_first is_zero bytes 0 lt) in
    let split : bytes ≡ before_first is_zero bytes ++ (0 ∷ after_first is_zero bytes) =
    subst (λ (b : ℕ). bytes ≡ before_first is_zero bytes ++ (b ∷ after_first is_zero bytes)) byte (split_at_first is_zero bytes 0 lt) in
    let made : Cut bytes (before_first is_zero bytes) (after_first is_zero bytes) = record {
      parts = split ∙ sym (append_assoc (before_first is_zero bytes) (0 ∷ []) (after_first is_zero bytes));
      proper = λ k below. first_fails bytes k lt below;
    } in
    subst (λ (m : ℕ). Cut bytes (take m bytes) (drop (m + 1) bytes)) s.1 made

text_cut : (bytes : List ℕ) (place : Option ℕ) (found : List ℕ × List ℕ) → position is_zero bytes ≡ place → cut_at bytes place ≡ Ok found → Cut bytes found.0 found.1
text_cut bytes None found h e = absurd cc
text_cut bytes (Some n) found h e =
    let made : List ℕ × List ℕ = (take n bytes, drop (n + 1) bytes) in
    subst (λ (f : List ℕ × List ℕ). Cut bytes f.0 f.1) (ok_is made found e) (cut_holds bytes n h)

text_holds : (bytes : List ℕ) (found : List ℕ × List ℕ) → text_in bytes ≡ Ok found → Cut bytes found.0 found.1
unfolding text_in
text_holds bytes found e = text_cut bytes (position is_zero bytes) found refl e

pub text_field : IsField text_in text_bytes IsText
text_field = record {
  holds = λ bytes found fits e. let c = text_holds bytes found e in (c.parts, c.proper);
  again = text_again;
}

-- ---- values

below_absent : (size n : ℕ) → nat_eq size absent ≡ false → size < 2 ^ 32 → n ≡ size → n < absent
below_absent size n other small same = let apart : (size ≡ absent) → ⊥ = eqb-false size absent other in omega arith

abbrev Holds : (size : ℕ) → List ℕ → Option (List ℕ) × List ℕ → Type 0
Holds size rest found = (u32_bytes size ++ rest ≡ value_bytes found.0 ++ found.1) × IsValue found.0

by_room : (left size : ℕ) (rest : List ℕ) (found : Option (List ℕ) × List ℕ) (b : Bool) → ltb (length rest) size ≡ b → nat_eq size absent ≡ false → size < 2 ^ 32
    → cond b (Err left) (Ok (Some (take size rest), drop size rest)) ≡ Ok found → Holds size rest found
by_room left size rest found true h other small e = absurd cc
by_room left size rest found false h other small e =
    let room : size ≤ length rest = ltb-false _ _ h in
    let count : length (take size rest) ≡ size = length-take-le size rest room in
    let made : Option (List ℕ) × List ℕ = (Some (take size rest), drop size rest) in
    let whole : u32_bytes size ++ rest ≡ (u32_bytes (length (take size rest)) ++ take size rest) ++ drop size rest =
    ap (λ (t : List ℕ). u32_bytes size ++ t) (sym (take-append-drop size rest)) ∙ sym (append_assoc (u32_bytes size) (take size rest) (drop size rest)) ∙ ap (λ (n : ℕ). (u32_bytes n ++ take size rest) ++ drop size rest) (sym count) in
    subst (Holds size rest) (ok_is made found e) (whole, below_absent size (length (take size rest)) other small count)

by_size : (left size : ℕ) (rest : List ℕ) (found : Option (List ℕ) × List ℕ) (b : Bool) → nat_eq size absent ≡ b → size < 2 ^ 32
    → cond b (Ok (None, rest)) (cond (ltb (length rest) size) (Err left) (Ok (Some (take size rest), drop size rest))) ≡ Ok found → Holds size rest found
by_size left size rest found true h small e =
    let made : Option (List ℕ) × List ℕ = (None, rest) in
    subst (Holds size rest) (ok_is made found e) (ap (λ (n : ℕ). u32_bytes n ++ rest) (eqb-true _ _ h), tt)
by_size left size rest found false h small e = by_room left size rest found (ltb (length rest) size) refl h small e

value_holds : (bytes : List ℕ) (found : Option (List ℕ) × List ℕ) → IsBytes bytes → value_in bytes ≡ Ok found → (bytes ≡ value_bytes found.0 ++ found.1) × IsValue found.0
unfolding value_in
value_holds bytes found fits e =
    let b = bind_ok (u32_in bytes) (λ size. sized (length bytes) size.0 size.1) found e in
    let s = u32_field.holds bytes b.0 fits b.1 in
    let v = by_size (length bytes) b.0.0 b.0.1 found (nat_eq b.0.0 absent) refl s.1 b.2 in
    (s.0 ∙ v.0, v.1)

value_again : (value : Option (List ℕ)) (rest : List ℕ) → IsValue value → value_in (value_bytes value ++ rest) ≡ Ok (value, rest)
unfolding value_in
value_again None rest fits = rw (u32_field.again absent rest (omega arith)) refl
value_again (Some value) rest fits =
    let small : length value < absent = fits in
    let same : (u32_bytes (length value) ++ value) ++ rest ≡ u32_bytes (length value) ++ (value ++ rest) = append_assoc (u32_bytes (length value)) value rest in
    let other : nat_eq (length value) absent ≡ false = ne_eqb (length value) absent (λ same. omega arith) in
    let room : ltb (length (value ++ rest)) (length value) ≡ false = le-ltb _ _ (omega (arith, length-append value rest)) in
    rw (same, u32_field.again (length value) (value ++ rest) (omega arith), other, room, take-append_seam value rest, drop-append_seam value rest) refl

pub value_field : IsField value_in value_bytes IsValue
value_field = record { holds = value_holds; again = value_again }
