-- The text up to the next `<`, by where white space or a value ends.
use Rattle.std.proofs.Common.{◌≡◌, ℕ, suc, ◌+◌, ◌-◌, ◌<◌, ◌≤◌, Bool, true, false, cond, not, ◌||◌, nat_lt, List, [], ◌∷◌, ◌++◌, length, take, drop, position, None, Some, refl, ap, one-add, arith}
use Rattle.std.proofs.lemmas.Bool.{ltb-true, lt-ltb, or_parts, both_ways}
use Rattle.std.specs.List.{list_any, position_or_len, before_first}
use Rattle.ofx_types.specs.TextRules.{is_white, is_refused_in_text, trim_start}
use Rattle.ofx_types.specs.TagForm.{IsWhite, is_value_byte}
use Rattle.ofx_types.specs.TagFault.{is_open}
use Rattle.ofx_tape.specs.OpenAggregates.{is_at_tag, prefix_of, after_prefix}
use Rattle.ofx_tape.proofs.NameKinds.{white_is_no_tag}

-- ---- the first byte that passes a test

position_here : (p : ℕ → Bool) (b : ℕ) (bytes : List ℕ) → p b ≡ true → position p (b ∷ bytes) ≡ Some 0
position_here p b bytes passes = rw (passes, lt-ltb 0 (suc (length bytes)) (omega arith)) refl

some_offset : (there : Bool) (n i : ℕ) → cond there (Some n) None ≡ Some i → (there ≡ true) × (n ≡ i)
some_offset true n i e = (refl, cc)
some_offset false n i e = cc

position_later : (p : ℕ → Bool) (b : ℕ) (bytes : List ℕ) (i : ℕ) → p b ≡ false → position p bytes ≡ Some i → position p (b ∷ bytes) ≡ Some (suc i)
position_later p b bytes i fails found =
    let n = position_or_len p bytes in
    let parts = some_offset (nat_lt n (length bytes)) n i found in
    let inside : suc n < suc (length bytes) = omega (arith, ltb-true n (length bytes) parts.0) in
    rw (fails, one-add, lt-ltb (suc n) (suc (length bytes)) inside) (ap (λ k. Some (suc k)) parts.1)

-- ---- the text up to the next `<`, and what is after it

abbrev pub text_at : List ℕ → List ℕ
text_at bytes = before_first is_open bytes

abbrev pub tag_at : List ℕ → List ℕ
tag_at bytes = drop (position_or_len is_open bytes) bytes

pub record IsTextThenTag (bytes : List ℕ) : Type 0 where
  pub split : bytes ≡ text_at bytes ++ tag_at bytes
  pub avoids : list_any is_open (text_at bytes) ≡ false
  pub at : is_at_tag (tag_at bytes) ≡ true

pub text_then_tag : (bytes : List ℕ) → IsTextThenTag bytes
text_then_tag [] = record { split = refl; avoids = refl; at = refl }
text_then_tag (b ∷ bytes) = by_cases (is_open b) refl (text_then_tag bytes)
  where
    by_cases : (o : Bool) → is_open b ≡ o → IsTextThenTag bytes → IsTextThenTag (b ∷ bytes)
    by_cases true e again = record { split = rw e refl; avoids = rw e refl; at = rw e e }
    by_cases false e again = record {
      split = rw (e, one-add) (ap (λ l. b ∷ l) again.split);
      avoids = rw (e, one-add) (rw e again.avoids);
      at = rw (e, one-add) again.at;
    }

-- ---- white space

pub trim_shorter : (bytes : List ℕ) → length (trim_start bytes) ≤ length bytes
trim_shorter [] = omega arith
trim_shorter (b ∷ bytes) = by_cases (is_white b) refl (trim_shorter bytes)
  where
    by_cases : (w : Bool) → is_white b ≡ w → length (trim_start bytes) ≤ length bytes → length (trim_start (b ∷ bytes)) ≤ length (b ∷ bytes)
    by_cases true e again = rw e (omega arith)
    by_cases false e again = rw e (omega arith)

-- Where a tag comes after white space, that white space is the text up to it.
pub record IsWhiteThenTag (bytes : List ℕ) : Type 0 where
  pub text : text_at bytes ≡ take (length bytes - length (trim_start bytes)) bytes
  pub white : IsWhite (text_at bytes)
  pub split : bytes ≡ text_at bytes ++ trim_start bytes

pub white_then_tag : (bytes : List ℕ) → is_at_tag (trim_start bytes) ≡ true → IsWhiteThenTag bytes
white_then_tag [] at = record { text = refl; white = refl; split = refl }
white_then_tag (b ∷ bytes) at = by_cases (is_white b) refl (white_then_tag bytes) (trim_shorter bytes)
  where
    by_cases : (w : Bool) → is_white b ≡ w → (is_at_tag (trim_start bytes) ≡ true → IsWhiteThenTag bytes) → length (trim_start bytes) ≤ length bytes → IsWhiteThenTag (b ∷ bytes)
    by_cases true e again shorter =
        let before = again (rw e at at) in
        let no_tag = white_is_no_tag b e in
        let count : suc (length bytes) - length (trim_start bytes) ≡ suc (length bytes - length (trim_start bytes)) = omega arith in
        record {
          text = rw (no_tag, e, one-add, count) (ap (λ l. b ∷ l) before.text);
          white = rw (no_tag, one-add) (rw e before.white);
          split = rw (no_tag, e, one-add) (ap (λ l. b ∷ l) before.split);
        }
    by_cases false e again shorter =
        let here : is_open b ≡ true = rw e at at in
        let none : suc (length bytes) - suc (length bytes) ≡ 0 = omega arith in
        record {
          text = rw (here, e, none) refl;
          white = rw here refl;
          split = rw (here, e) refl;
        }

-- Otherwise the first byte that isn't white space is refused.
pub visible_at : (bytes : List ℕ) → is_at_tag (trim_start bytes) ≡ false →
    (i : ℕ) × (position (λ b. not (is_white b)) (text_at bytes) ≡ Some i) × (i + length (trim_start bytes) ≡ length bytes)
visible_at [] at = absurd (both_ways true at refl)
visible_at (b ∷ bytes) at = by_cases (is_white b) refl (visible_at bytes)
  where
    by_cases : (w : Bool) → is_white b ≡ w →
        (is_at_tag (trim_start bytes) ≡ false → (i : ℕ) × (position (λ c. not (is_white c)) (text_at bytes) ≡ Some i) × (i + length (trim_start bytes) ≡ length bytes)) →
        (i : ℕ) × (position (λ c. not (is_white c)) (text_at (b ∷ bytes)) ≡ Some i) × (i + length (trim_start (b ∷ bytes)) ≡ length (b ∷ bytes))
    by_cases true e again =
        let (i, found, count) = again (rw e at at) in (
          suc i,
          rw (white_is_no_tag b e, one-add) (position_later (λ c. not (is_white c)) b (text_at bytes) i (rw e refl) found),
          rw e (omega arith),
        )
    by_cases false e again =
        let other : is_open b ≡ false = rw e at at in (
          0,
          rw (other, one-add) (position_here (λ c. not (is_white c)) b (text_at bytes) (rw e refl)),
          rw e (omega arith),
        )

-- ---- values

not_false_is : (a : Bool) → not a ≡ false → a ≡ true
not_false_is true e = refl
not_false_is false e = cc

pub not_true_is : (a : Bool) → not a ≡ true → a ≡ false
not_true_is true e = cc
not_true_is false e = refl

-- Where a tag comes after the bytes that may be in a value, they are the text up to it.
pub value_then_tag : (bytes : List ℕ) → is_at_tag (after_prefix is_value_byte bytes) ≡ true → text_at bytes ≡ prefix_of is_value_byte bytes
value_then_tag [] at = refl
value_then_tag (b ∷ bytes) at = by_cases (is_value_byte b) refl (value_then_tag bytes)
  where
    by_cases : (v : Bool) → is_value_byte b ≡ v → (is_at_tag (after_prefix is_value_byte bytes) ≡ true → text_at bytes ≡ prefix_of is_value_byte bytes) →
        text_at (b ∷ bytes) ≡ prefix_of is_value_byte (b ∷ bytes)
    by_cases true e again =
        let parts = or_parts (is_open b) (is_refused_in_text b) (not_true_is (is_open b || is_refused_in_text b) e) in
        rw (e, parts.0, one-add (position_or_len (λ c. not (is_value_byte c)) bytes), one-add (position_or_len is_open bytes)) (ap (λ l. b ∷ l) (again (rw (e, one-add) at at)))
    by_cases false e again = rw (e, (let here : is_open b ≡ true = rw e at at in here)) refl

-- Otherwise the first byte that may not stand in one is refused.
pub refused_at_value : (bytes : List ℕ) → is_at_tag (after_prefix is_value_byte bytes) ≡ false →
    position is_refused_in_text (text_at bytes) ≡ Some (length (prefix_of is_value_byte bytes))
refused_at_value [] at = absurd (both_ways true at refl)
refused_at_value (b ∷ bytes) at = by_cases (is_value_byte b) refl (refused_at_value bytes)
  where
    by_cases : (v : Bool) → is_value_byte b ≡ v →
        (is_at_tag (after_prefix is_value_byte bytes) ≡ false → position is_refused_in_text (text_at bytes) ≡ Some (length (prefix_of is_value_byte bytes))) →
        position is_refused_in_text (text_at (b ∷ bytes)) ≡ Some (length (prefix_of is_value_byte (b ∷ bytes)))
    by_cases true e again =
        let parts = or_parts (is_open b) (is_refused_in_text b) (not_true_is (is_open b || is_refused_in_text b) e) in
        rw (e, parts.0, one-add (position_or_len (λ c. not (is_value_byte c)) bytes), one-add (position_or_len is_open bytes)) (position_later is_refused_in_text b (text_at bytes) (length (prefix_of is_value_byte bytes)) parts.1 (again (rw (e, one-add) at at)))
    by_cases false e again =
        let other : is_open b ≡ false = rw e at at in
        let either : (is_open b || is_refused_in_text b) ≡ true = not_false_is (is_open b || is_refused_in_text b) e in
        let refused : is_refused_in_text b ≡ true = rw other at either in
        rw (e, other, one-add) (position_here is_refused_in_text b (text_at bytes) refused)
