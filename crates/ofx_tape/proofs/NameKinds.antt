-- The kind of a start tag, by its name and by whether text that isn't white space comes after it.
use Rattle.std.proofs.Common.{◌≡◌, ℕ, Bool, true, false, cond, ◌&&◌, ◌||◌, not, List, [], ◌∷◌, one-add, eqb-true, refl, sym, ap, ◌∙◌}
use Rattle.std.proofs.lemmas.Bool.{and_parts, both_ways}
use Rattle.std.proofs.lemmas.Slice.Eq.{bytes_eq-Decides}
use Rattle.std.specs.List.{list_all, before_first}
use Rattle.std.specs.Str.{bytes_eq}
use Rattle.ofx_types.specs.TextRules.{is_white, trim_start}
use Rattle.ofx_types.specs.TagFault.{is_open}
use Rattle.ofx_types.specs.TagNames.{is_one_of, is_element, element_names, aggregate_names}
use Rattle.ofx_tape.specs.OpenAggregates.{is_at_tag}

-- ---- the text after a tag

pub white_is_no_tag : (b : ℕ) → is_white b ≡ true → is_open b ≡ false
white_is_no_tag b white = by_cases (is_open b) refl
  where
    by_cases : (open_is : Bool) → is_open b ≡ open_is → is_open b ≡ false
    by_cases true e = let same : is_white b ≡ is_white 60 = ap is_white (eqb-true b 60 e) in absurd (both_ways (is_white b) same white)
    by_cases false e = e

-- the text up to the next `<` is white space where nothing else comes before it
pub white_to_tag : (bytes : List ℕ) → list_all is_white (before_first is_open bytes) ≡ is_at_tag (trim_start bytes)
white_to_tag [] = refl
white_to_tag (b ∷ bytes) = by_cases (is_white b) refl (white_to_tag bytes)
  where
    kept : (o : Bool) → is_open b ≡ o → is_white b ≡ false → list_all is_white (before_first is_open (b ∷ bytes)) ≡ is_open b
    kept true e visible = rw e refl
    kept false e visible = rw (e, one-add) (rw visible refl)

    by_cases : (w : Bool) → is_white b ≡ w → list_all is_white (before_first is_open bytes) ≡ is_at_tag (trim_start bytes) →
        list_all is_white (before_first is_open (b ∷ bytes)) ≡ is_at_tag (trim_start (b ∷ bytes))
    by_cases true e again = rw (white_is_no_tag b e, one-add) (rw e again)
    by_cases false e again = kept (is_open b) refl e ∙ sym (ap is_at_tag (ap (λ w. cond w (trim_start bytes) (b ∷ bytes)) e))

-- ---- the two lists of names

none_of_both : (names others : List (List ℕ)) (name : List ℕ) → list_all (λ n. not (is_one_of others n)) names ≡ true → is_one_of names name ≡ true → is_one_of others name ≡ false
none_of_both [] others name apart one = absurd (both_ways false refl one)
none_of_both (n ∷ names) others name apart one = by_cases (bytes_eq name n) refl (none_of_both names others name (and_parts _ _ apart).1)
  where
    not_true : (b : Bool) → not b ≡ true → b ≡ false
    not_true true e = sym e
    not_true false e = refl

    by_cases : (same : Bool) → bytes_eq name n ≡ same → (is_one_of names name ≡ true → is_one_of others name ≡ false) → is_one_of others name ≡ false
    by_cases true e again = ap (is_one_of others) ((bytes_eq-Decides name n).0 e) ∙ not_true (is_one_of others n) (and_parts _ _ apart).0
    by_cases false e again = again (sym (ap (λ b. b || is_one_of names name) e) ∙ one)

always_apart : (name : List ℕ) → is_one_of element_names name ≡ true → is_one_of aggregate_names name ≡ false
always_apart name one = none_of_both element_names aggregate_names name refl one

-- ---- the kind

no_visible_kind : (e a : Bool) → (e || (not a && false)) ≡ e
no_visible_kind true a = refl
no_visible_kind false true = refl
no_visible_kind false false = refl

visible_kind : (e a : Bool) → (e ≡ true → a ≡ false) → (e || (not a && true)) ≡ not a
visible_kind true a apart = sym (ap not (apart refl))
visible_kind false true apart = refl
visible_kind false false apart = refl

-- With white space alone after it a start tag is an element's where its name always is.
pub kind_without_visible : (name suffix : List ℕ) → is_at_tag (trim_start suffix) ≡ true → is_one_of element_names name ≡ is_element name (before_first is_open suffix)
kind_without_visible name suffix at =
    sym (ap (λ w. is_one_of element_names name || (not (is_one_of aggregate_names name) && not w)) (white_to_tag suffix ∙ at)
    ∙ no_visible_kind (is_one_of element_names name) (is_one_of aggregate_names name))

-- With other text it is one where its name isn't always an aggregate's.
pub kind_with_visible : (name suffix : List ℕ) → is_at_tag (trim_start suffix) ≡ false → not (is_one_of aggregate_names name) ≡ is_element name (before_first is_open suffix)
kind_with_visible name suffix at =
    sym (ap (λ w. is_one_of element_names name || (not (is_one_of aggregate_names name) && not w)) (white_to_tag suffix ∙ at)
    ∙ visible_kind (is_one_of element_names name) (is_one_of aggregate_names name) (always_apart name))
