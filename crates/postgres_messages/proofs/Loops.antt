-- Steps of the loops over texts and values, over plain variables.
use Rattle.std.proofs.Common.{◌≡◌, ℕ, zero, suc, ◌+◌, ◌-◌, ◌<◌, ◌≤◌, Bool, true, false, cond, nat_eq, List, [], ◌∷◌, length, get_or, Option, Some, Result, Ok, Err, refl, sym, ap, ◌∙◌, arith}
use Rattle.std.specs.Str.{bytes_eq}
use Rattle.postgres_messages.specs.Fields.{◌>>=◌, text_in, is_empty, after_texts, texts_from, texts_of, field, has_text, value_in, after_values}

next : (n i : ℕ) → i < n → n - i ≡ suc (n - (i + 1))
next n i lt = omega arith

-- ---- skipping texts

texts_step : (most : ℕ) (bytes : List ℕ) → after_texts (suc most) bytes ≡ (text_in bytes >>= λ text. cond (is_empty text.0) (Ok text.1) (after_texts most text.1))
unfolding after_texts
texts_step most bytes = refl

pub skip_goes_on : (n i : ℕ) (rest text more : List ℕ) (total : Result (List ℕ) ℕ) → i < n → text_in rest ≡ Ok (text, more) → is_empty text ≡ false → after_texts (n - i) rest ≡ total
    → after_texts (n - (i + 1)) more ≡ total
skip_goes_on n i rest text more total lt e some so_far =
    let step : after_texts (n - i) rest ≡ after_texts (n - (i + 1)) more = rw (next n i lt, texts_step (n - (i + 1)) rest, e, some) refl in
    sym step ∙ so_far

pub skip_ends : (n i : ℕ) (rest text more : List ℕ) (total : Result (List ℕ) ℕ) → i < n → text_in rest ≡ Ok (text, more) → is_empty text ≡ true → after_texts (n - i) rest ≡ total → total ≡ Ok more
skip_ends n i rest text more total lt e none so_far =
    let step : after_texts (n - i) rest ≡ Ok more = rw (next n i lt, texts_step (n - (i + 1)) rest, e, none) refl in
    sym so_far ∙ step

pub skip_fails : (n i : ℕ) (rest : List ℕ) (left : ℕ) (total : Result (List ℕ) ℕ) → i < n → text_in rest ≡ Err left → after_texts (n - i) rest ≡ total → total ≡ Err left
skip_fails n i rest left total lt e so_far =
    let step : after_texts (n - i) rest ≡ Err left = rw (next n i lt, texts_step (n - (i + 1)) rest, e) refl in
    sym so_far ∙ step

texts_none : (bytes : List ℕ) → after_texts zero bytes ≡ Err (length bytes)
unfolding after_texts
texts_none bytes = refl

pub skip_runs_out : (n i : ℕ) (rest : List ℕ) (total : Result (List ℕ) ℕ) → n ≤ i → after_texts (n - i) rest ≡ total → total ≡ Err (length rest)
skip_runs_out n i rest total le so_far =
    let zero_left : n - i ≡ 0 = omega arith in
    sym so_far ∙ ap (λ (m : ℕ). after_texts m rest) zero_left ∙ texts_none rest

-- ---- skipping values

values_step : (count : ℕ) (bytes : List ℕ) → after_values (suc count) bytes ≡ (value_in bytes >>= λ value. after_values count value.1)
unfolding after_values
values_step count bytes = refl

pub values_go_on : (n i : ℕ) (rest : List ℕ) (value : Option (List ℕ)) (more : List ℕ) (total : Result (List ℕ) ℕ) → i < n → value_in rest ≡ Ok (value, more) → after_values (n - i) rest ≡ total
    → after_values (n - (i + 1)) more ≡ total
values_go_on n i rest value more total lt e so_far =
    let step : after_values (n - i) rest ≡ after_values (n - (i + 1)) more = rw (next n i lt, values_step (n - (i + 1)) rest, e) refl in
    sym step ∙ so_far

pub values_fail : (n i : ℕ) (rest : List ℕ) (left : ℕ) (total : Result (List ℕ) ℕ) → i < n → value_in rest ≡ Err left → after_values (n - i) rest ≡ total → total ≡ Err left
values_fail n i rest left total lt e so_far =
    let step : after_values (n - i) rest ≡ Err left = rw (next n i lt, values_step (n - (i + 1)) rest, e) refl in
    sym so_far ∙ step

values_none : (bytes : List ℕ) → after_values zero bytes ≡ Ok bytes
unfolding after_values
values_none bytes = refl

pub values_end : (n i : ℕ) (rest : List ℕ) (total : Result (List ℕ) ℕ) → n ≤ i → after_values (n - i) rest ≡ total → total ≡ Ok rest
values_end n i rest total le so_far =
    let zero_left : n - i ≡ 0 = omega arith in
    sym so_far ∙ ap (λ (m : ℕ). after_values m rest) zero_left ∙ values_none rest

-- ---- looking into texts

of_step : (most : ℕ) (bytes : List ℕ) → texts_of (suc most) bytes ≡ texts_from (texts_of most) (text_in bytes)
unfolding texts_of
of_step most bytes = refl

of_none : (bytes : List ℕ) → texts_of zero bytes ≡ []
unfolding texts_of
of_none bytes = refl

-- one text more
pub of_goes_on : (n i : ℕ) (rest text more : List ℕ) → i < n → text_in rest ≡ Ok (text, more) → is_empty text ≡ false → texts_of (n - i) rest ≡ text ∷ texts_of (n - (i + 1)) more
of_goes_on n i rest text more lt e some = rw (next n i lt, of_step (n - (i + 1)) rest, e, some) refl

-- the end
pub of_ends : (n i : ℕ) (rest text more : List ℕ) → i < n → text_in rest ≡ Ok (text, more) → is_empty text ≡ true → texts_of (n - i) rest ≡ []
of_ends n i rest text more lt e none = rw (next n i lt, of_step (n - (i + 1)) rest, e, none) refl

pub of_fails : (n i : ℕ) (rest : List ℕ) (left : ℕ) → i < n → text_in rest ≡ Err left → texts_of (n - i) rest ≡ []
of_fails n i rest left lt e = rw (next n i lt, of_step (n - (i + 1)) rest, e) refl

pub of_runs_out : (n i : ℕ) (rest : List ℕ) → n ≤ i → texts_of (n - i) rest ≡ []
of_runs_out n i rest le = let zero_left : n - i ≡ 0 = omega arith in ap (λ (m : ℕ). texts_of m rest) zero_left ∙ of_none rest

pub field_skips : (kind b : ℕ) (text : List ℕ) (texts : List (List ℕ)) (total : Option (List ℕ)) → nat_eq b kind ≡ false → field kind ((b ∷ text) ∷ texts) ≡ total → field kind texts ≡ total
field_skips kind b text texts total other so_far = let step : field kind ((b ∷ text) ∷ texts) ≡ field kind texts = rw other refl in sym step ∙ so_far

pub field_is : (kind b : ℕ) (text : List ℕ) (texts : List (List ℕ)) (total : Option (List ℕ)) → nat_eq b kind ≡ true → field kind ((b ∷ text) ∷ texts) ≡ total → total ≡ Some text
field_is kind b text texts total same so_far = let step : field kind ((b ∷ text) ∷ texts) ≡ Some text = rw same refl in sym so_far ∙ step

pub has_skips : (wanted text : List ℕ) (texts : List (List ℕ)) (total : Bool) → bytes_eq text wanted ≡ false → has_text wanted (text ∷ texts) ≡ total → has_text wanted texts ≡ total
has_skips wanted text texts total other so_far = let step : has_text wanted (text ∷ texts) ≡ has_text wanted texts = rw other refl in sym step ∙ so_far

pub has_is : (wanted text : List ℕ) (texts : List (List ℕ)) (total : Bool) → bytes_eq text wanted ≡ true → has_text wanted (text ∷ texts) ≡ total → total ≡ true
has_is wanted text texts total same so_far = let step : has_text wanted (text ∷ texts) ≡ true = rw same refl in sym so_far ∙ step

pub field_goes_on : (n i kind : ℕ) (rest text more : List ℕ) (total : Option (List ℕ)) → i < n → text_in rest ≡ Ok (text, more) → 1 ≤ length text → nat_eq (get_or text 0 0) kind ≡ false
    → field kind (texts_of (n - i) rest) ≡ total → field kind (texts_of (n - (i + 1)) more) ≡ total
field_goes_on n i kind rest [] more total lt e long other so_far = absurd (omega arith)
field_goes_on n i kind rest (b ∷ text) more total lt e long other so_far =
    field_skips kind b text (texts_of (n - (i + 1)) more) total other (ap (field kind) (sym (of_goes_on n i rest (b ∷ text) more lt e refl)) ∙ so_far)

filled : (text : List ℕ) → nat_eq (length text) 0 ≡ false → is_empty text ≡ false
filled [] h = absurd cc
filled (b ∷ text) h = refl

pub has_goes_on : (n i : ℕ) (wanted rest text more : List ℕ) (total : Bool) → i < n → text_in rest ≡ Ok (text, more) → nat_eq (length text) 0 ≡ false → bytes_eq text wanted ≡ false
    → has_text wanted (texts_of (n - i) rest) ≡ total → has_text wanted (texts_of (n - (i + 1)) more) ≡ total
has_goes_on n i wanted rest text more total lt e some other so_far =
    has_skips wanted text (texts_of (n - (i + 1)) more) total other (ap (has_text wanted) (sym (of_goes_on n i rest text more lt e (filled text some))) ∙ so_far)
