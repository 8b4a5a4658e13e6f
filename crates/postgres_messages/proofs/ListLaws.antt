-- Lists of texts and rows of values are read as they are written.
use Rattle.std.proofs.Common.{◌≡◌, ℕ, zero, suc, ◌+◌, ◌<◌, Bool, true, false, cond, List, [], ◌∷◌, ◌++◌, length, Option, Ok, refl, sym, ap, subst, ◌∙◌, arith, append_assoc}
use Rattle.std.specs.List.{flat_map}
use Rattle.std.proofs.lemmas.List.{length-append}
use Rattle.postgres_messages.specs.Fields.{text_bytes, text_in, texts_bytes, is_empty, after_texts, texts_from, texts_of, value_bytes, value_in, after_values, values_from, values_of}
use Rattle.postgres_messages.specs.Laws.{IsBytes, AreTexts, AreValues}
use Rattle.postgres_messages.proofs.FieldLaws.{bind_ok, ok_is, IsBytes-rest, text_field, value_field}

-- ---- texts

first_text : (text : List ℕ) (texts : List (List ℕ)) (rest : List ℕ) → texts_bytes (text ∷ texts) ++ rest ≡ text_bytes text ++ (texts_bytes texts ++ rest)
first_text text texts rest = ap (λ (t : List ℕ). t ++ rest) (append_assoc (text_bytes text) (flat_map text_bytes texts) (0 ∷ [])) ∙ append_assoc (text_bytes text) (texts_bytes texts) rest

pub texts_short : (texts : List (List ℕ)) (rest : List ℕ) → length texts < length (texts_bytes texts ++ rest)
texts_short [] rest = omega arith
texts_short (text ∷ texts) rest =
    let more = texts_short texts rest in
    let long : length (texts_bytes (text ∷ texts) ++ rest) ≡ length (text_bytes text) + length (texts_bytes texts ++ rest) = ap length (first_text text texts rest) ∙ length-append (text_bytes text) (texts_bytes texts ++ rest) in
    let one : length (text_bytes text) ≡ length text + 1 = length-append text (0 ∷ []) in
    omega arith

pub after_texts_again : (texts : List (List ℕ)) (rest : List ℕ) (most : ℕ) → AreTexts texts → length texts < most → after_texts most (texts_bytes texts ++ rest) ≡ Ok rest
unfolding after_texts
after_texts_again texts rest zero fits lt = absurd (omega arith)
after_texts_again [] rest (suc most) fits lt = rw (text_field.again [] rest (λ k below. absurd (omega arith))) refl
after_texts_again (text ∷ texts) rest (suc most) fits lt =
    rw (first_text text texts rest, text_field.again text (texts_bytes texts ++ rest) fits.0, fits.1) (after_texts_again texts rest most fits.2 (omega arith))

pub texts_again : (texts : List (List ℕ)) (rest : List ℕ) (most : ℕ) → AreTexts texts → length texts < most → texts_of most (texts_bytes texts ++ rest) ≡ texts
unfolding texts_of
texts_again texts rest zero fits lt = absurd (omega arith)
texts_again [] rest (suc most) fits lt = rw (text_field.again [] rest (λ k below. absurd (omega arith))) refl
texts_again (text ∷ texts) rest (suc most) fits lt =
    rw (first_text text texts rest, text_field.again text (texts_bytes texts ++ rest) fits.0, fits.1) (ap (λ (ts : List (List ℕ)). text ∷ ts) (texts_again texts rest most fits.2 (omega arith)))

texts_step : (most : ℕ) (bytes : List ℕ) (x : List ℕ × List ℕ) → text_in bytes ≡ Ok x → texts_of (suc most) bytes ≡ cond (is_empty x.0) [] (x.0 ∷ texts_of most x.1)
unfolding texts_of
texts_step most bytes x e = ap (texts_from (texts_of most)) e

empty_is : (text : List ℕ) → is_empty text ≡ true → text ≡ []
empty_is [] e = refl
empty_is (b ∷ text) e = absurd cc

abbrev pub TextsHold : List ℕ → List ℕ → List (List ℕ) → Type 0
TextsHold bytes rest texts = (bytes ≡ texts_bytes texts ++ rest) × AreTexts texts

texts_went : (most : ℕ) (bytes rest : List ℕ) (x : List ℕ × List ℕ) (b : Bool) → IsBytes bytes → text_in bytes ≡ Ok x → is_empty x.0 ≡ b → cond b (Ok x.1) (after_texts most x.1) ≡ Ok rest
    → (after_texts most x.1 ≡ Ok rest → TextsHold x.1 rest (texts_of most x.1)) → TextsHold bytes rest (cond b [] (x.0 ∷ texts_of most x.1))
texts_went most bytes rest x true fits e h go more =
    let parts = (text_field.holds bytes x fits e).0 in
    (parts ∙ ap (λ (t : List ℕ). text_bytes t ++ x.1) (empty_is x.0 h) ∙ ap (λ (t : List ℕ). 0 ∷ t) (ok_is x.1 rest go), tt)
texts_went most bytes rest x false fits e h go more =
    let first = text_field.holds bytes x fits e in
    let others = more go in
    (first.0 ∙ ap (λ (t : List ℕ). text_bytes x.0 ++ t) others.0 ∙ sym (first_text x.0 (texts_of most x.1) rest), (first.1, h, others.1))

after_none : (bytes rest : List ℕ) → after_texts zero bytes ≡ Ok rest → ⊥
unfolding after_texts
after_none bytes rest e = cc

after_step : (most : ℕ) (bytes rest : List ℕ) → after_texts (suc most) bytes ≡ Ok rest → (x : List ℕ × List ℕ) × (text_in bytes ≡ Ok x) × (cond (is_empty x.0) (Ok x.1) (after_texts most x.1) ≡ Ok rest)
unfolding after_texts
after_step most bytes rest e = bind_ok (text_in bytes) (λ text. cond (is_empty text.0) (Ok text.1) (after_texts most text.1)) rest e

pub texts_hold : (most : ℕ) (bytes rest : List ℕ) → IsBytes bytes → after_texts most bytes ≡ Ok rest → TextsHold bytes rest (texts_of most bytes)
texts_hold zero bytes rest fits e = absurd (after_none bytes rest e)
texts_hold (suc most) bytes rest fits e =
    let s = after_step most bytes rest e in
    let inner = IsBytes-rest (text_bytes s.0.0) s.0.1 bytes (text_field.holds bytes s.0 fits s.1).0 fits in
    subst (TextsHold bytes rest) (sym (texts_step most bytes s.0 s.1))
    (texts_went most bytes rest s.0 (is_empty s.0.0) fits s.1 refl s.2 (λ go. texts_hold most s.0.1 rest inner go))

-- ---- values

first_value : (value : Option (List ℕ)) (values : List (Option (List ℕ))) (rest : List ℕ) → flat_map value_bytes (value ∷ values) ++ rest ≡ value_bytes value ++ (flat_map value_bytes values ++ rest)
first_value value values rest = append_assoc (value_bytes value) (flat_map value_bytes values) rest

pub after_values_again : (values : List (Option (List ℕ))) (rest : List ℕ) → AreValues values → after_values (length values) (flat_map value_bytes values ++ rest) ≡ Ok rest
unfolding after_values
after_values_again [] rest fits = refl
after_values_again (value ∷ values) rest fits =
    rw (first_value value values rest, value_field.again value (flat_map value_bytes values ++ rest) fits.0) (after_values_again values rest fits.1)

pub values_again : (values : List (Option (List ℕ))) (rest : List ℕ) → AreValues values → values_of (length values) (flat_map value_bytes values ++ rest) ≡ values
unfolding values_of
values_again [] rest fits = refl
values_again (value ∷ values) rest fits =
    rw (first_value value values rest, value_field.again value (flat_map value_bytes values ++ rest) fits.0) (ap (λ (vs : List (Option (List ℕ))). value ∷ vs) (values_again values rest fits.1))

values_step : (count : ℕ) (bytes : List ℕ) (x : Option (List ℕ) × List ℕ) → value_in bytes ≡ Ok x → values_of (suc count) bytes ≡ x.0 ∷ values_of count x.1
unfolding values_of
values_step count bytes x e = ap (values_from (values_of count)) e

values_after : (count : ℕ) (bytes rest : List ℕ) → after_values (suc count) bytes ≡ Ok rest → (x : Option (List ℕ) × List ℕ) × (value_in bytes ≡ Ok x) × (after_values count x.1 ≡ Ok rest)
unfolding after_values
values_after count bytes rest e = bind_ok (value_in bytes) (λ value. after_values count value.1) rest e

pub record ValuesHold (count : ℕ) (bytes rest : List ℕ) (values : List (Option (List ℕ))) : Type 0 where
  pub parts : bytes ≡ flat_map value_bytes values ++ rest
  pub fits : AreValues values
  pub count_is : length values ≡ count

pub values_hold : (count : ℕ) (bytes rest : List ℕ) → IsBytes bytes → after_values count bytes ≡ Ok rest → ValuesHold count bytes rest (values_of count bytes)
unfolding after_values values_of
values_hold zero bytes rest fits e = record { parts = ok_is bytes rest e; fits = tt; count_is = refl }
values_hold (suc count) bytes rest fits e =
    let s = values_after count bytes rest e in
    let first = value_field.holds bytes s.0 fits s.1 in
    let more = values_hold count s.0.1 rest (IsBytes-rest (value_bytes s.0.0) s.0.1 bytes first.0 fits) s.2 in
    let made : ValuesHold (suc count) bytes rest (s.0.0 ∷ values_of count s.0.1) = record {
      parts = first.0 ∙ ap (λ (t : List ℕ). value_bytes s.0.0 ++ t) more.parts ∙ sym (first_value s.0.0 (values_of count s.0.1) rest);
      fits = (first.1, more.fits);
      count_is = ap suc more.count_is;
    } in
    subst (ValuesHold (suc count) bytes rest) (sym (values_step count bytes s.0 s.1)) made
